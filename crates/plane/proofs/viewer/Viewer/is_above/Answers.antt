use Rattle.plane.proofs.Views.{ceiling_tells}
use Rattle.plane.proofs.viewer.Viewer.is_above.Goals as goal

pub returns : goal.returns
returns c = ceiling_tells c.args.self.scale c.args.self.ceiling c.args.self.y c.args.height c.args.self.ceiled
