-- Five grounds worked out: what the definitions say of them. Assumes nothing: these are definitions and one statement.
use Rattle.std.specs.Prelude.{◌≡◌, true, false, [], ◌∷◌}
use Rattle.plane.specs.Corners.{corner}
use Rattle.ground.specs.Shapes.{Point, Shape, in_shape, a_shape, twice_area}
use Rattle.ground.specs.Ways.{SticksOut, Shares, Overlaps}

-- a square; a smaller one within it; one beside it, that touches it; the first with a notch; a triangle over the border of the first
abbrev pub first : Shape
first = corner 0 0 ∷ corner 6 0 ∷ corner 6 6 ∷ corner 0 6 ∷ []

abbrev pub second : Shape
second = corner 2 2 ∷ corner 4 2 ∷ corner 4 4 ∷ corner 2 4 ∷ []

abbrev pub third : Shape
third = corner 6 2 ∷ corner 9 2 ∷ corner 9 4 ∷ corner 6 4 ∷ []

abbrev pub fourth : Shape
fourth = corner 0 0 ∷ corner 6 0 ∷ corner 6 2 ∷ corner 3 3 ∷ corner 6 4 ∷ corner 6 6 ∷ corner 0 6 ∷ []

abbrev pub fifth : Shape
fifth = corner 5 2 ∷ corner 8 3 ∷ corner 5 4 ∷ []

-- the first again, from another corner on
abbrev pub first_again : Shape
first_again = corner 6 6 ∷ corner 0 6 ∷ corner 0 0 ∷ corner 6 0 ∷ []

-- no grounds: a row that runs back over itself, one that is gone round to the right, and one that crosses itself
abbrev pub back_and_forth : Shape
back_and_forth = corner 0 0 ∷ corner 2 0 ∷ corner 1 0 ∷ []

abbrev pub to_the_right : Shape
to_the_right = corner 0 0 ∷ corner 0 2 ∷ corner 2 2 ∷ []

abbrev pub crossed : Shape
crossed = corner 0 0 ∷ corner 2 2 ∷ corner 2 0 ∷ corner 0 2 ∷ []

-- the point 7/2, 3: in the notch
abbrev pub in_the_notch : Point
in_the_notch = record { px = 7; py = 6; w = 2 }

unfoldable pub WorkedAreas : Type 0
WorkedAreas = (twice_area first ≡ 72) × (twice_area second ≡ 8) × (twice_area fourth ≡ 66)

unfoldable pub WorkedGrounds : Type 0
WorkedGrounds =
    (a_shape first ≡ true) × (a_shape second ≡ true) × (a_shape third ≡ true) × (a_shape fourth ≡ true) × (a_shape fifth ≡ true)
    × (a_shape back_and_forth ≡ false) × (a_shape to_the_right ≡ false) × (a_shape crossed ≡ false)

unfoldable pub WorkedPoint : Type 0
WorkedPoint =
    (in_shape first in_the_notch ≡ true) × (in_shape second in_the_notch ≡ true) × (in_shape third in_the_notch ≡ false)
    × (in_shape fourth in_the_notch ≡ false) × (in_shape fifth in_the_notch ≡ false)

-- of how two of them lie, what says that there is a point
unfoldable pub WorkedWays : Type 0
WorkedWays = SticksOut first second × Overlaps first second × Shares first third × Overlaps first first_again

-- THE TABLE
unfoldable pub WorkedExamples : Type 0
WorkedExamples = WorkedAreas × WorkedGrounds × WorkedPoint × WorkedWays
