use Rattle.std.proofs.Common.{◌≡◌, drop}
use Rattle.plane.specs.Code.{along}
use Rattle.relate.specs.Going.{shape_in}
use Rattle.relate.specs.Rings.{as_corners}
use Rattle.relate.specs.Siding.{parities_of, both_parities}
use Rattle.relate.proofs.AtSamples.{parities_in}
use Rattle.relate.proofs.parities.Parities.along.Given as goal

-- what was seen, with the corners that are left, is all
abbrev pub invariant-loop-pair : goal.invariant-loop-pair
invariant-loop-pair l =
    both_parities l.seen (parities_in (shape_in l.ring) (along l.near.edge) (as_corners (drop l.pair-index l.ring.corners.now))) ≡
    parities_of (shape_in l.ring) (along l.near.edge)
