use Rattle.plane.specs.Code.{along}
use Rattle.plane.specs.Sights.{place}
use Rattle.plane.proofs.Views.{seen_reversed}
use Rattle.plane.proofs.viewer.Viewer.look_at.Goals as goal

pub returns-else-e : goal.returns-else-e
returns-else-e c = seen_reversed c.args.self.scale (along c.args.e) (place c.args.self) c.look_up-else-e.result c.look_up-else-e.ensures
