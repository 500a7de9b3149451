use Rattle.relate.proofs.Ways.{properly_within}
use Rattle.relate.proofs.theorems.properly_within.Goals as goal

pub returns : goal.returns
returns c = properly_within
