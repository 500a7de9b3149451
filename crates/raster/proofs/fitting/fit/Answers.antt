use Rattle.std.proofs.Common.{refl}
use Rattle.raster.proofs.Covering.{fitted}
use Rattle.raster.proofs.fitting.fit.Goals as goal

pub returns : goal.returns
returns c = fitted _ _ refl refl (cc) (cc) (cc)
