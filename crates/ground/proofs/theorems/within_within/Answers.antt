use Rattle.ground.proofs.Ways.{within_within}
use Rattle.ground.proofs.theorems.within_within.Goals as goal

pub returns : goal.returns
returns c = within_within
