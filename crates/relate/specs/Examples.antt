-- How worked grounds lie, by the samples. Assumes nothing: these are definitions and one statement.
use Rattle.std.specs.Prelude.{◌≡◌, true, false, [], ◌∷◌}
use Rattle.plane.specs.Corners.{corner}
use Rattle.ground.specs.Shapes.{Shape, a_shape}
use Rattle.ground.specs.Statements.{crossing}
use Rattle.ground.specs.Examples.{first, second, third, fourth, fifth, first_again}
use Rattle.relate.specs.Samples.{way_of}

-- two slanted vanes that lie over each other though no edges cross: each has corners on the edges of the other, and none inside it
abbrev pub lying_vane : Shape
lying_vane = corner 0 1 ∷ corner 2 1 ∷ corner 3 2 ∷ corner 1 2 ∷ []

abbrev pub standing_vane : Shape
standing_vane = corner 2 0 ∷ corner 2 2 ∷ corner 1 3 ∷ corner 1 1 ∷ []

-- each of the six ways
unfoldable pub WorkedPairs : Type 0
WorkedPairs =
    (way_of second third ≡ 0) × (way_of first third ≡ 1) × (way_of second first ≡ 2) × (way_of first second ≡ 3) × (way_of first fourth ≡ 3)
    × (way_of first first_again ≡ 4) × (way_of first fifth ≡ 5)

unfoldable pub WorkedVanes : Type 0
WorkedVanes =
    (a_shape lying_vane ≡ true) × (a_shape standing_vane ≡ true) × (crossing lying_vane standing_vane ≡ false) × (way_of lying_vane standing_vane ≡ 5)

-- THE TABLE
unfoldable pub WorkedWaysOf : Type 0
WorkedWaysOf = WorkedPairs × WorkedVanes
