-- How two grounds lie, as it is found: an edge of a ground tells by its direction on which side of it the ground is, so that at a sample only the edges of the
-- other ground are counted. Assumes nothing: these are definitions.
use Rattle.std.specs.Prelude.{ℕ, Bool, true, false, not, ◌&&◌, ◌∷◌, nat_lt}
use Rattle.plane.specs.Lists.{pick, or, any}
use Rattle.plane.specs.Corners.{Corner, smaller, larger}
use Rattle.plane.specs.Edges.{Edge}
use Rattle.plane.specs.Orientation.{upward}
use Rattle.plane.specs.Parity.{xor}
use Rattle.ground.specs.Shapes.{Shape, edges}
use Rattle.ground.specs.Statements.{crossing}
use Rattle.ground.specs.declared.bounding.Extent.{Extent}
use Rattle.relate.specs.Samples.{raw, starts, sample, meeting}

-- at the sample just after u, on an edge of the one, the edge's direction tells the parity i, and the other ground has the parity j
abbrev pub found_at : Shape → Bool → Bool → Edge → Corner → Bool
found_at t i j e u = starts e u && (not (xor i (not (upward e))) && not (xor j (raw t (sample e u))))

-- so it is at some sample along the border of the first: an edge is sampled after its own beginning, and after each corner of the other that lies on it
unfoldable pub found_along : Shape → Shape → Bool → Bool → Bool
found_along s t i j = any (λ e. any (found_at t i j e) (e.one ∷ t)) (edges s)

-- along the border of the one or of the other
unfoldable pub found : Shape → Shape → Bool → Bool → Bool
found s t i j = or (found_along s t i j) (found_along t s j i)

-- THE WAY, as it is found, for any two rows of corners. Of two grounds it is the way by all points
unfoldable pub way_found : Shape → Shape → ℕ
way_found s t =
    pick (crossing s t) 5
    (pick (found s t true true)
    (pick (found s t true false) (pick (found s t false true) 5 3) (pick (found s t false true) 2 4))
    (pick (meeting s t) 1 0))

-- BOXES SPARE WORK
-- all of the edge is west of the box, or east, or south, or north of it
abbrev pub misses : Extent → Edge → Bool
misses b e =
    or (or (nat_lt (larger e.one.x e.other.x) b.west) (nat_lt b.east (smaller e.one.x e.other.x)))
    (or (nat_lt (larger e.one.y e.other.y) b.south) (nat_lt b.north (smaller e.one.y e.other.y)))
