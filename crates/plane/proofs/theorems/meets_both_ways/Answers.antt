use Rattle.plane.proofs.Reversal.{meets_both_ways}
use Rattle.plane.proofs.theorems.meets_both_ways.Goals as goal

pub returns : goal.returns
returns c = meets_both_ways
