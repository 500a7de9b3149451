use Rattle.raster.proofs.Reach.{every_square_is_asked}
use Rattle.raster.proofs.theorems.every_square_is_asked.Goals as goal

pub returns : goal.returns
returns c = every_square_is_asked
