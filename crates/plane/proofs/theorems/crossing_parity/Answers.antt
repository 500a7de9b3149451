use Rattle.plane.proofs.Parity.{crossing_parity}
use Rattle.plane.proofs.theorems.crossing_parity.Goals as goal

pub returns : goal.returns
returns c = crossing_parity
