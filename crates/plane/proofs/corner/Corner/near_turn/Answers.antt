use Rattle.std.proofs.Common.{lit<}
use Rattle.plane.specs.Code.{at}
use Rattle.plane.proofs.Bounds.{all_within_told}
use Rattle.plane.proofs.corner.Corner.near_turn.Goals as goal

pub small_area-left-requires : goal.small_area-left-requires
small_area-left-requires c =
    let p = all_within_told 2147483648 (at c.args.self) (at c.args.b) (at c.args.c) c.requires in
    (2147483648, 2147483648, (p.0.0, p.1.0), (p.0.1, p.2.1), lit< tt)

pub small_area-right-requires : goal.small_area-right-requires
small_area-right-requires c =
    let p = all_within_told 2147483648 (at c.args.self) (at c.args.b) (at c.args.c) c.requires in
    (2147483648, 2147483648, (p.0.1, p.1.1), (p.0.0, p.2.0), lit< tt)
