use Rattle.std.proofs.Common.{false, sym, ap, ◌∙◌}
use Rattle.plane.specs.Code.{along}
use Rattle.relate.specs.Going.{shape_in}
use Rattle.relate.specs.Siding.{parities_of, both_sides}
use Rattle.relate.proofs.Beside.{sides_falling, falling_known}
use Rattle.relate.proofs.sides.Sides.beside_falling.Goals as goal

pub returns-then-self-2 : goal.returns-then-self-2
returns-then-self-2 c =
    let t = shape_in c.args.ring.now in
    let e = along c.args.near.edge in
    falling_known c.args.self (parities_of t e).odd (parities_of t e).even c.if-self.true c.if-self-2.true
    ∙ ap (both_sides c.args.self) (sym (sides_falling t e c.requires))

pub returns : goal.returns
returns c =
    let p = c.args.self in
    c.bitor.ensures ∙ ap (λ v. both_sides p (record { both = v.odd; own = v.even; other = false })) c.near-seen.ensures
    ∙ ap (both_sides p) (sym (sides_falling (shape_in c.args.ring.now) (along c.args.near.edge) c.requires))
