use Rattle.entries.proofs.ReadBack.{read_back}
use Rattle.entries.proofs.laws.written_is_read_back.Goals as goal

pub returns : goal.returns
returns c = read_back
