-- Which rows of numbers can be laid beside each other, and their boxes. Assumes nothing: these are definitions.
use Rattle.std.specs.Prelude.{ℕ, ◌%◌, Bool, ◌&&◌, List, [], ◌∷◌, length, ◌==◌, nat_lt}
use Rattle.plane.specs.Lists.{every}
use Rattle.ground.specs.Shapes.{Shape}
use Rattle.ground.specs.Boxes.{box_of}
use Rattle.ground.specs.declared.bounding.Extent.{Extent}

-- no number of the row is left over or out of range
abbrev pub row_fits : List ℕ → Bool
row_fits row = length row % 2 == 0 && every (λ n. nat_lt n 1048576) row

abbrev pub pair_fits : List ℕ → List ℕ → Bool
pair_fits a b = row_fits a && row_fits b

-- the box of all corners; where there are none, a box apart from all others in range
abbrev pub bounds_of : Shape → Extent
bounds_of [] = record { west = 1048576; south = 1048576; east = 0; north = 0 }
bounds_of (c ∷ cs) = box_of (c ∷ cs)
