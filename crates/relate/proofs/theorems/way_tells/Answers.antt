use Rattle.relate.proofs.Telling.{way_tells}
use Rattle.relate.proofs.theorems.way_tells.Goals as goal

pub returns : goal.returns
returns c = way_tells
