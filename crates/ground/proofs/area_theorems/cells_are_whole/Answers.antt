use Rattle.ground.proofs.Areas.{cells_are_whole}
use Rattle.ground.proofs.area_theorems.cells_are_whole.Goals as goal

pub returns : goal.returns
returns c = cells_are_whole
