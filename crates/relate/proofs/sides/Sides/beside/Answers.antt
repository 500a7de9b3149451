use Rattle.std.proofs.Common.{◌≡◌, sym, ap, ◌∙◌, arith}
use Rattle.plane.specs.Code.{along}
use Rattle.relate.specs.Going.{shape_in}
use Rattle.relate.specs.Siding.{both_sides}
use Rattle.relate.proofs.Beside.{sides_level, sides_none}
use Rattle.relate.proofs.sides.Sides.beside.Goals as goal

pub returns-else-e-2 : goal.returns-else-e-2
returns-else-e-2 c =
    let e = c.args.near.edge in
    let level : e.one.y ≡ e.other.y = omega arith in
    let p = c.args.self in
    sym (ap (both_sides p) (sides_level (shape_in c.args.ring.now) (along e) level) ∙ sides_none p)
