-- Extents of edges: the ranges of their numbers, and their bounding boxes. Assumes nothing: these are definitions.
use Rattle.std.specs.Prelude.{ℕ, Bool, ◌&&◌, nat_le}
use Rattle.plane.specs.Corners.{smaller, larger}
use Rattle.plane.specs.Edges.{Edge}

-- the numbers from a to b and those from c to d have one in common
abbrev pub ranges_meet : ℕ → ℕ → ℕ → ℕ → Bool
ranges_meet a b c d = nat_le (smaller a b) (larger c d) && nat_le (smaller c d) (larger a b)

-- the bounding boxes of two edges have a point in common
abbrev pub boxes_meet : Edge → Edge → Bool
boxes_meet e f = ranges_meet e.one.x e.other.x f.one.x f.other.x && ranges_meet e.one.y e.other.y f.one.y f.other.y
