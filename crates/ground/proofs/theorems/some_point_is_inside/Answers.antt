use Rattle.ground.proofs.Insides.{some_inside}
use Rattle.ground.proofs.theorems.some_point_is_inside.Goals as goal

pub returns : goal.returns
returns c = some_inside
