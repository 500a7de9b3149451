use Rattle.std.proofs.Common.{◌≡◌}
use Rattle.relate.specs.Going.{shape_in, edges_left}
use Rattle.relate.specs.Siding.{both_sides, sides_along}
use Rattle.relate.proofs.Beside.{sides_in}
use Rattle.relate.proofs.sides.Sides.along.Given as goal

-- what was seen, with the edges that are left, is all
abbrev pub invariant-loop-near : goal.invariant-loop-near
invariant-loop-near l =
    both_sides l.sides (sides_in (shape_in l.beside) (edges_left l.near-iterator)) ≡ both_sides l.initial.sides (sides_along (shape_in l.ring) (shape_in l.beside))
