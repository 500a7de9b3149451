use Rattle.map.proofs.Promised.{core_whole}
use Rattle.map.proofs.promises.core_is_whole.Goals as goal

pub returns : goal.returns
returns c = core_whole
