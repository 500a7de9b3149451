use Rattle.relate.proofs.Ways.{one_way}
use Rattle.relate.proofs.theorems.one_way.Goals as goal

pub returns : goal.returns
returns c = one_way
