-- What is so of how two grounds lie, and of their edges. Each is a statement, a type. Assumes nothing.
use Rattle.std.specs.Prelude.{◌≡◌, ℕ, ◌≤◌, true}
use Rattle.plane.specs.Corners.{Corner}
use Rattle.plane.specs.Edges.{Edge, grown_edge, on_edge, meet}
use Rattle.ground.specs.Shapes.{Point, a_point, Shape, on_border, in_shape, a_shape}
use Rattle.ground.specs.Ways.{Within, SticksOut, Lies}
use Rattle.relate.specs.Samples.{way_of}
use Rattle.relate.specs.Finding.{way_found}

-- The way that the samples tell is the way that all points tell.
unfoldable pub WayTells : Type 0
WayTells = (s t : Shape) → a_shape s ≡ true → a_shape t ≡ true → Lies s t (way_of s t)

-- The way as it is found, by the sides of the edges, is the way that all points tell.
unfoldable pub WayFoundTells : Type 0
WayFoundTells = (s t : Shape) → a_shape s ≡ true → a_shape t ≡ true → Lies s t (way_found s t)

-- Two edges meet exactly if they have a point in common, with any denominator.
abbrev pub CommonPoint : Edge → Edge → Type 0
CommonPoint e f = (k : ℕ) × (c : Corner) × (1 ≤ k) × (on_edge (grown_edge k e) c ≡ true) × (on_edge (grown_edge k f) c ≡ true)

unfoldable pub MeetInPoints : Type 0
MeetInPoints = (e f : Edge) → (meet e f ≡ true → CommonPoint e f) × (CommonPoint e f → meet e f ≡ true)

-- What is within another ground, and is not all of it, is properly within: the other sticks out.
unfoldable pub ProperlyWithin : Type 0
ProperlyWithin = (s t : Shape) → a_shape s ≡ true → a_shape t ≡ true → Within s t → (Within t s → ⊥) → SticksOut t s × Lies s t 2

-- Grounds that touch have only points of both borders in common.
unfoldable pub TouchInBorders : Type 0
TouchInBorders =
    (s t : Shape) → a_shape s ≡ true → a_shape t ≡ true → Lies s t 1 → (p : Point) → a_point p ≡ true → in_shape s p ≡ true → in_shape t p ≡ true →
    (on_border s p ≡ true) × (on_border t p ≡ true)
