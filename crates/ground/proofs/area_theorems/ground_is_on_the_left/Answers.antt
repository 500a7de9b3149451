use Rattle.ground.proofs.LeftHand.{left_hand}
use Rattle.ground.proofs.area_theorems.ground_is_on_the_left.Goals as goal

pub returns : goal.returns
returns c = left_hand
