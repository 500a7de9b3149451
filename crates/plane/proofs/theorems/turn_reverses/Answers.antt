use Rattle.plane.proofs.Turns.{turn_reverses}
use Rattle.plane.proofs.theorems.turn_reverses.Goals as goal

pub returns : goal.returns
returns c = turn_reverses
