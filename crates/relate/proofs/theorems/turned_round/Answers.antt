use Rattle.relate.proofs.Ways.{turned_round}
use Rattle.relate.proofs.theorems.turned_round.Goals as goal

pub returns : goal.returns
returns c = turned_round
