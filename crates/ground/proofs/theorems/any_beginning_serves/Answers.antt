use Rattle.ground.proofs.Points.{any_beginning}
use Rattle.ground.proofs.theorems.any_beginning_serves.Goals as goal

pub returns : goal.returns
returns c = any_beginning
