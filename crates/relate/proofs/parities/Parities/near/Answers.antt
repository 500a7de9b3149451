use Rattle.std.proofs.Common.{sym, ◌∙◌}
use Rattle.plane.specs.Code.{along}
use Rattle.relate.specs.Going.{shape_in}
use Rattle.relate.proofs.AtSamples.{parities_outside}
use Rattle.relate.proofs.parities.Parities.near.Goals as goal

pub returns-then-misses : goal.returns-then-misses
returns-then-misses c = c.of.ensures ∙ parities_outside (shape_in c.args.ring.now) (along c.args.near.edge) (sym c.if-misses.ensures) c.requires
