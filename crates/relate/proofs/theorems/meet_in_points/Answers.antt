use Rattle.relate.proofs.Edges.{meet_in_points}
use Rattle.relate.proofs.theorems.meet_in_points.Goals as goal

pub returns : goal.returns
returns c = meet_in_points
