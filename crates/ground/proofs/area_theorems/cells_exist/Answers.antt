use Rattle.ground.proofs.Measures.{common_there}
use Rattle.ground.proofs.area_theorems.cells_exist.Goals as goal

pub returns : goal.returns
returns c = common_there
