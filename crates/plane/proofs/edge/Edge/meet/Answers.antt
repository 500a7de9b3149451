use Rattle.std.proofs.Common.{◌∙◌}
use Rattle.plane.specs.Code.{along}
use Rattle.plane.proofs.Closeness.{meet_told}
use Rattle.plane.proofs.edge.Edge.meet.Goals as goal

pub returns : goal.returns
returns c = c.is_close.ensures ∙ meet_told (along c.args.self) (along c.args.f)
