use Rattle.map.proofs.Asked.{long_rows}
use Rattle.map.proofs.promises.long_rows_are_refused_alike.Goals as goal

pub returns : goal.returns
returns c = long_rows
