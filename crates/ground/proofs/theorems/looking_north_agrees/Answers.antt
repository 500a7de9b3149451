use Rattle.ground.proofs.Points.{any_way}
use Rattle.ground.proofs.theorems.looking_north_agrees.Goals as goal

pub returns : goal.returns
returns c = any_way
