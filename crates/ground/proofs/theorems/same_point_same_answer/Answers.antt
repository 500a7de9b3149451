use Rattle.ground.proofs.Points.{same_point}
use Rattle.ground.proofs.theorems.same_point_same_answer.Goals as goal

pub returns : goal.returns
returns c = same_point
