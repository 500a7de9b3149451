use Rattle.map.proofs.Lasting.{dropped_gone}
use Rattle.map.proofs.promises.dropped_number_is_gone.Goals as goal

pub returns : goal.returns
returns c = dropped_gone
