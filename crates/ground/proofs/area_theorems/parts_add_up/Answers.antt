use Rattle.ground.proofs.Measures.{parts_add}
use Rattle.ground.proofs.area_theorems.parts_add_up.Goals as goal

pub returns : goal.returns
returns c = parts_add
