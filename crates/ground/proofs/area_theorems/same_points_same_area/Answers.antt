use Rattle.ground.proofs.Measures.{same_area}
use Rattle.ground.proofs.area_theorems.same_points_same_area.Goals as goal

pub returns : goal.returns
returns c = same_area
