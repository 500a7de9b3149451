use Rattle.std.proofs.Common.{◌≡◌, false, sym, ap, ◌∙◌, rules}
use Rattle.plane.specs.Code.{along}
use Rattle.relate.specs.Going.{shape_in}
use Rattle.relate.specs.Siding.{parities_of, both_sides}
use Rattle.relate.proofs.Beside.{none_seen, sides_rising, rising_known}
use Rattle.relate.proofs.sides.Sides.beside_rising.Goals as goal

pub returns-then-self : goal.returns-then-self
returns-then-self c =
    let t = shape_in c.args.ring.now in
    let e = along c.args.near.edge in
    rising_known c.args.self (parities_of t e).odd c.if-self.true ∙ ap (both_sides c.args.self) (sym (sides_rising t e c.requires))

pub returns : goal.returns
returns c =
    let p = c.args.self in
    let none : c.default.result ≡ none_seen = search rules in
    c.bitor.ensures
    ∙ ap (λ n. both_sides p (record { both = n.both; own = n.own; other = c.near-seen.result.odd })) none
    ∙ ap (λ v. both_sides p (record { both = false; own = false; other = v.odd })) c.near-seen.ensures
    ∙ ap (both_sides p) (sym (sides_rising (shape_in c.args.ring.now) (along c.args.near.edge) c.requires))
