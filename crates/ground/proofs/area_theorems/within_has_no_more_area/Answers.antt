use Rattle.ground.proofs.Measures.{area_less}
use Rattle.ground.proofs.area_theorems.within_has_no_more_area.Goals as goal

pub returns : goal.returns
returns c = area_less
