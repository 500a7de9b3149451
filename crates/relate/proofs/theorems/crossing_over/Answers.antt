use Rattle.relate.proofs.Telling.{crossing_over}
use Rattle.relate.proofs.theorems.crossing_over.Goals as goal

pub returns : goal.returns
returns c = crossing_over
