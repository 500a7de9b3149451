use Rattle.plane.proofs.Turns.{turn_cycles}
use Rattle.plane.proofs.theorems.turn_cycles.Goals as goal

pub returns : goal.returns
returns c = turn_cycles
