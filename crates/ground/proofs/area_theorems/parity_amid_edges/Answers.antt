use Rattle.ground.proofs.LeftHand.{amid_odd}
use Rattle.ground.proofs.area_theorems.parity_amid_edges.Goals as goal

pub returns : goal.returns
returns c = amid_odd
