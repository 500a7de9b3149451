use Rattle.std.proofs.Common.{arith, lit<, to_z-of_z, w64, SFits}
use Rattle.plane.specs.Code.{at}
use Rattle.plane.specs.Sights.{place}
use Rattle.plane.proofs.Leaning.{grown_turn}
use Rattle.plane.proofs.Bounds.{within_told, grown_below}
use Rattle.plane.proofs.viewer.Viewer.side.Goals as goal

pub small_area-left-requires : goal.small_area-left-requires
small_area-left-requires c =
    let low = within_told 1048576 (at c.args.low) c.requires.0 in
    let high = within_told 1048576 (at c.args.high) c.requires.1 in
    (1048576, 4398046511104, (low.0, high.0), (grown_below c.args.self.scale c.args.low.y c.args.self.parted.1 low.1, omega arith), lit< tt)

pub small_area-right-requires : goal.small_area-right-requires
small_area-right-requires c =
    let low = within_told 1048576 (at c.args.low) c.requires.0 in
    let high = within_told 1048576 (at c.args.high) c.requires.1 in
    (1048576, 4398046511104, (low.1, high.1), (grown_below c.args.self.scale c.args.low.x c.args.self.parted.1 low.0, omega arith), lit< tt)

pub returns : goal.returns
returns c =
    let f : SFits w64 c.small_area-left.result = record { sfits = c.small_area-left.type_inv } in
    let g : SFits w64 c.small_area-right.result = record { sfits = c.small_area-right.type_inv } in
    grown_turn c.small_area-left.result c.small_area-right.result c.args.self.scale c.args.self.parted.0 (at c.args.low)
    (at c.args.high) (place c.args.self) c.small_area-left.ensures c.small_area-right.ensures c.leaning.result
    (simp to_z-of_z at c.leaning.ensures)
