use Rattle.relate.proofs.Ways.{touch_in_borders}
use Rattle.relate.proofs.theorems.touch_in_borders.Goals as goal

pub returns : goal.returns
returns c = touch_in_borders
