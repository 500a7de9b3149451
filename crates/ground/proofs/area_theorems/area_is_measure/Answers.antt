use Rattle.ground.proofs.Areas.{area_is_measure}
use Rattle.ground.proofs.area_theorems.area_is_measure.Goals as goal

pub returns : goal.returns
returns c = area_is_measure
