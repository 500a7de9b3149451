use Rattle.relate.proofs.Examples.{worked_ways_of}
use Rattle.relate.proofs.theorems.worked_ways_hold.Goals as goal

pub returns : goal.returns
returns c = worked_ways_of
