use Rattle.map.proofs.Steadiness.{own_steady}
use Rattle.map.proofs.promises.own_is_steady.Goals as goal

pub returns : goal.returns
returns c = own_steady
