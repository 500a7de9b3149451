use Rattle.std.proofs.Common.{sym}
use Rattle.plane.specs.Code.{at}
use Rattle.plane.specs.Sights.{place}
use Rattle.plane.proofs.Views.{missed_above, missed_below}
use Rattle.plane.proofs.viewer.Viewer.look_up.Goals as goal

pub returns-then-is_below : goal.returns-then-is_below
returns-then-is_below c =
    missed_above c.args.self.scale (at c.args.low) (at c.args.high) (place c.args.self) c.requires.1.1 (sym c.if-is_below.ensures)

pub returns-then-is_above : goal.returns-then-is_above
returns-then-is_above c =
    missed_below c.args.self.scale (at c.args.low) (at c.args.high) (place c.args.self) c.requires.1.1 (sym c.if-is_above.ensures)
