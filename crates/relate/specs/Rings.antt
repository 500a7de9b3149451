-- Corners in pairs of numbers, and the edges of a ring as they are gone along. Assumes nothing: these are definitions.
use Rattle.std.specs.Prelude.{ℕ, List, [], ◌∷◌, slice_index}
use Rattle.plane.specs.Lists.{each}
use Rattle.plane.specs.Corners.{Corner, corner}
use Rattle.plane.specs.Edges.{Edge, edge}
use Rattle.ground.specs.Shapes.{Shape}

abbrev pub pair_corner : List ℕ → Corner
pair_corner pair = corner (slice_index pair 0) (slice_index pair 1)

abbrev pub as_corners : List (List ℕ) → Shape
as_corners pairs = each pair_corner pairs

-- the edges from a to the first of some corners, and on from each to the next
unfoldable pub edges_on : Corner → Shape → List Edge
edges_on a [] = []
edges_on a (b ∷ bs) = edge a b ∷ edges_on b bs

-- the last of some corners after a
unfoldable pub last_after : Corner → Shape → Corner
last_after a [] = a
last_after a (b ∷ bs) = last_after b bs

-- the edges of a ring, the one that closes it first
abbrev pub edges_round : Shape → List Edge
edges_round s = edges_on (last_after (corner 0 0) s) s
