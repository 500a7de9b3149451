use Rattle.std.proofs.Common.{◌≡◌, ◌∙◌, rules}
use Rattle.relate.specs.Going.{shape_in}
use Rattle.relate.specs.declared.contact.Contact.TheVariants.{Crossing}
use Rattle.relate.proofs.Deciding.{crossed_way, told_way}
use Rattle.relate.proofs.pair.way.Goals as goal

pub returns-then-eq : goal.returns-then-eq
returns-then-eq c =
    let crossed : c.of_rings-contact.result ≡ Crossing = search rules in
    crossed_way (shape_in c.args.first.now) (shape_in c.args.second.now) c.of_rings-contact.result c.of_rings-contact.ensures crossed

pub returns : goal.returns
returns c =
    c.way_so.ensures
    ∙ told_way (shape_in c.args.first.now) (shape_in c.args.second.now) c.of_rings-contact.result c.sides.result c.of_rings-contact.ensures c.sides.ensures
