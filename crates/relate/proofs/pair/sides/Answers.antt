use Rattle.std.proofs.Common.{◌≡◌, ap, ◌∙◌, rules}
use Rattle.relate.specs.Going.{shape_in}
use Rattle.relate.specs.Siding.{sides_along, both_sides}
use Rattle.relate.proofs.Beside.{none_seen}
use Rattle.relate.proofs.Deciding.{along_both}
use Rattle.relate.proofs.pair.sides.Goals as goal

pub returns : goal.returns
returns c =
    let s = shape_in c.args.first.now in
    let t = shape_in c.args.second.now in
    let none : c.default.result ≡ none_seen = search rules in
    along_both s t c.along-seen.result c.turned.result c.along.result c.turned-2.result
    (c.along-seen.ensures ∙ ap (λ p. both_sides p (sides_along s t)) none) c.turned.ensures c.along.ensures c.turned-2.ensures
