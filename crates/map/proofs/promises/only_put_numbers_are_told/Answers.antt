use Rattle.map.proofs.Lasting.{only_put}
use Rattle.map.proofs.promises.only_put_numbers_are_told.Goals as goal

pub returns : goal.returns
returns c = only_put
