use Rattle.ground.proofs.Cuts.{cut_adds}
use Rattle.ground.proofs.area_theorems.cut_areas_add_up.Goals as goal

pub returns : goal.returns
returns c = cut_adds
