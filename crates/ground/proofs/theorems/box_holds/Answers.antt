use Rattle.ground.proofs.Outermost.{box_holds}
use Rattle.ground.proofs.theorems.box_holds.Goals as goal

pub returns : goal.returns
returns c = box_holds
