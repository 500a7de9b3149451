-- Rows of numbers as corners, and the box around a row. Assumes nothing: these are definitions.
use Rattle.std.specs.Prelude.{ℕ, zero, suc, ◌/◌, Bool, List, [], ◌∷◌, length, drop, slice_index}
use Rattle.plane.specs.Bounds.{within}
use Rattle.plane.specs.Corners.{Corner, corner, smaller, larger}
use Rattle.ground.specs.Shapes.{Shape}

-- corners in a row, two numbers each
unfoldable pub corners : ℕ → List ℕ → Shape
corners zero xs = []
corners (suc n) xs = corner (slice_index xs 0) (slice_index xs 1) ∷ corners n (drop 2 xs)

-- a last number that has no other beside it doesn't count
abbrev pub shape_of : List ℕ → Shape
shape_of row = corners (length row / 2) row

-- the numbers of a corner of a ground are below 2^20
abbrev pub near_corner : Corner → Bool
near_corner c = within 1048576 c

-- the same numbers in a row again
unfoldable pub flat : Shape → List ℕ
flat [] = []
flat (c ∷ cs) = c.x ∷ c.y ∷ flat cs

-- the least and the greatest of a number that each corner has; 0 where there are no corners
unfoldable pub least : (Corner → ℕ) → Shape → ℕ
least f [] = 0
least f (c ∷ []) = f c
least f (c ∷ d ∷ ds) = smaller (f c) (least f (d ∷ ds))

unfoldable pub greatest : (Corner → ℕ) → Shape → ℕ
greatest f [] = 0
greatest f (c ∷ []) = f c
greatest f (c ∷ d ∷ ds) = larger (f c) (greatest f (d ∷ ds))
