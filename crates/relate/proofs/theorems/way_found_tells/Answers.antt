use Rattle.relate.proofs.Finding.{way_found_lies}
use Rattle.relate.proofs.theorems.way_found_tells.Goals as goal

pub returns : goal.returns
returns c = way_found_lies
