use Rattle.relate.proofs.Unmet.{corners_tell}
use Rattle.relate.proofs.theorems.corners_tell.Goals as goal

pub returns : goal.returns
returns c = corners_tell
