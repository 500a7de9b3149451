use Rattle.plane.proofs.Views.{floor_tells}
use Rattle.plane.proofs.viewer.Viewer.is_below.Goals as goal

pub returns : goal.returns
returns c = floor_tells c.args.self.scale c.args.self.floor c.args.self.y c.args.height c.args.self.floored
