-- What a point with fractions sees of an edge. Assumes nothing: these are definitions.
use Rattle.std.specs.Prelude.{◌≡◌, ℕ, Bool, true, false, ◌&&◌, nat_le, nat_lt}
use Rattle.plane.specs.Bounds.{within}
use Rattle.plane.specs.Corners.{Corner, corner}
use Rattle.plane.specs.Edges.{Edge, grown_edge, on_edge}
use Rattle.plane.specs.Parity.{crosses}
use Rattle.plane.specs.declared.sight.Sight.{Sight}
use Rattle.plane.specs.declared.sight.Sight.TheVariants.{Border, Crossed, Missed}
use Rattle.plane.specs.declared.viewer.Viewer.{Viewer}

-- edges can be looked at from the point a / w, b / w
abbrev pub view_fits : ℕ → ℕ → ℕ → Bool
view_fits a b w = (nat_le 1 w && nat_le w 1048576) && (nat_lt a 4398046511104 && nat_lt b 4398046511104)

-- an edge that can be looked at: the numbers of its corners are below 2^20
abbrev pub near_edge : Edge → Bool
near_edge e = within 1048576 e.one && within 1048576 e.other

abbrev pub StandsAt : Viewer → ℕ → ℕ → ℕ → Type 0
StandsAt v a b w = (v.x ≡ a) × (v.y ≡ b) × (v.scale ≡ w)

-- where a viewer stands, with everything grown to its denominator
abbrev pub place : Viewer → Corner
place v = corner v.x v.y

-- both tests, for an edge grown w times and a corner
abbrev pub SeenAt : ℕ → Edge → Corner → Sight → Type 0
SeenAt w e p Border = (on_edge (grown_edge w e) p ≡ true) × (crosses (grown_edge w e) p ≡ false)
SeenAt w e p Crossed = (on_edge (grown_edge w e) p ≡ false) × (crosses (grown_edge w e) p ≡ true)
SeenAt w e p Missed = (on_edge (grown_edge w e) p ≡ false) × (crosses (grown_edge w e) p ≡ false)

abbrev pub SeenSo : Viewer → Edge → Sight → Type 0
SeenSo v e s = SeenAt v.scale e (place v) s
