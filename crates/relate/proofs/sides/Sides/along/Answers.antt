use Rattle.std.proofs.Common.{sym, ap, ◌∙◌}
use Rattle.plane.specs.Code.{along}
use Rattle.relate.specs.Going.{shape_in, edges_left}
use Rattle.relate.specs.Siding.{both_sides}
use Rattle.relate.proofs.Beside.{sides_in, sides_begin, sides_go_on, sides_stop, sides_end}
use Rattle.relate.proofs.sides.Sides.along.Goals as goal

pub loop-near-init : goal.loop-near-init
loop-near-init c =
    let t = shape_in c.args.beside.now in
    ap (λ es. both_sides c.args.self (sides_in t es)) (ap edges_left c.into_iter-near-iterator.ensures.into_iter_gives ∙ c.edges-near-items.ensures)
    ∙ sides_begin t c.args.self (shape_in c.args.ring.now)

pub returns-then-all : goal.returns-then-all
returns-then-all c =
    let t = shape_in c.args.beside.now in
    sides_stop t c.loop-near.sides c.beside-sides.result (along c.in-Some.near.edge) (edges_left c.next.new.self) c.beside-sides.ensures (sym c.if-all.ensures)
    ∙ ap (λ es. both_sides c.loop-near.sides (sides_in t es)) (sym c.in-Some.ensures.steps) ∙ c.loop-near.invariant

pub loop-near-preserved : goal.loop-near-preserved
loop-near-preserved c =
    let t = shape_in c.args.beside.now in
    sides_go_on t c.loop-near.sides c.beside-sides.result (along c.in-Some.near.edge) (edges_left c.next.new.self) c.beside-sides.ensures
    ∙ ap (λ es. both_sides c.loop-near.sides (sides_in t es)) (sym c.in-Some.ensures.steps) ∙ c.loop-near.invariant

pub returns : goal.returns
returns c =
    let t = shape_in c.args.beside.now in
    sides_end t c.loop-near.sides ∙ ap (λ es. both_sides c.loop-near.sides (sides_in t es)) (sym c.in-None.ensures.steps.0) ∙ c.loop-near.invariant
