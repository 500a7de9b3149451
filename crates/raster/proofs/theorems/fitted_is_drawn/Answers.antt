use Rattle.raster.proofs.Reach.{fitted_is_drawn}
use Rattle.raster.proofs.theorems.fitted_is_drawn.Goals as goal

pub returns : goal.returns
returns c = fitted_is_drawn
