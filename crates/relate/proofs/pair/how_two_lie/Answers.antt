use Rattle.std.proofs.Common.{sym, ◌∙◌, ap₂}
use Rattle.std.proofs.lemmas.Bool.{and_from}
use Rattle.ground.specs.Rows.{shape_of}
use Rattle.relate.specs.Finding.{way_found}
use Rattle.relate.specs.Going.{shape_in}
use Rattle.terms.specs.Ways.{way_number}
use Rattle.relate.proofs.Deciding.{apart_way, way_lies}
use Rattle.relate.proofs.pair.how_two_lie.Goals as goal

pub returns-then-is_apart-clause-found : goal.returns-then-is_apart-clause-found
returns-then-is_apart-clause-found c =
    let one = c.in_ok-one.ensures in
    let two = c.in_ok-two.ensures in (
      and_from _ _ one.0 two.0,
      apart_way (shape_in c.in_ok-one.one) (shape_in c.in_ok-two.two) (sym c.if-is_apart.ensures) ∙ ap₂ way_found one.1 two.1,
    )

pub returns-then-is_apart-clause-lies : goal.returns-then-is_apart-clause-lies
returns-then-is_apart-clause-lies c =
    way_lies (shape_of c.args.first.now) (shape_of c.args.second.now) 0
    (apart_way (shape_in c.in_ok-one.one) (shape_in c.in_ok-two.two) (sym c.if-is_apart.ensures) ∙ ap₂ way_found c.in_ok-one.ensures.1 c.in_ok-two.ensures.1)

pub returns-clause-lies : goal.returns-clause-lies
returns-clause-lies c =
    way_lies (shape_of c.args.first.now) (shape_of c.args.second.now) (way_number c.way.result)
    (c.way.ensures ∙ ap₂ way_found c.in_ok-one.ensures.1 c.in_ok-two.ensures.1)
