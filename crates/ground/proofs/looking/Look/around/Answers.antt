use Rattle.std.proofs.Common.{sym, ap, ◌∙◌}
use Rattle.plane.specs.Code.{along}
use Rattle.plane.specs.Lists.{every}
use Rattle.plane.specs.Sights.{near_edge}
use Rattle.ground.specs.Rows.{shape_of}
use Rattle.ground.specs.Looks.{point}
use Rattle.ground.specs.Walks.{edges_left}
use Rattle.ground.proofs.Looks.{seen, seen_all, seen_more, stood, nothing, near_more, near_fails, ring_near, answers_far, answers_near}
use Rattle.ground.proofs.looking.Look.around.Goals as goal

pub loop-edge-init : goal.loop-edge-init
loop-edge-init c =
    let p = point c.args.point.a c.args.point.b c.args.point.w in
    let s = shape_of c.args.row.now in
    let all = ap edges_left c.into_iter-edge-iterator.ensures.into_iter_gives ∙ c.of-edge-items.ensures in
    (ap (seen p nothing) all ∙ seen_all p s, ap (every near_edge) all ∙ ring_near s)

pub returns-in_err-look : goal.returns-in_err-look
returns-in_err-look c =
    let far = near_fails (along c.in-Some.edge) _ _ c.in-Some.ensures.steps c.in_err-look.ensures in
    c.from_residual-in_err-look.ensures ∙ answers_far c.args.row.now c.args.point.a c.args.point.b c.args.point.w (sym c.loop-edge.invariant.1 ∙ far)

pub loop-edge-preserved : goal.loop-edge-preserved
loop-edge-preserved c =
    let p = point c.args.point.a c.args.point.b c.args.point.w in
    let e = along c.in-Some.edge in
    let seen_so = c.in_ok-look.ensures in
    let sight = stood c.in_ok-viewer.viewer c.args.point.a c.args.point.b c.args.point.w e c.in_ok-look.field-0 c.in_ok-viewer.ensures.1 seen_so.1 in (
      rw c.noted-look.ensures
          (seen_more p c.loop-edge.look e (edges_left c.next.new.self) c.in_ok-look.field-0 sight ∙ ap (seen p c.loop-edge.look) (sym c.in-Some.ensures.steps) ∙ c.loop-edge.invariant.0),
      near_more e _ _ c.in-Some.ensures.steps seen_so.0 ∙ c.loop-edge.invariant.1,
    )

pub returns : goal.returns
unfolding every
returns c =
    let p = point c.args.point.a c.args.point.b c.args.point.w in
    let none = c.in-None.ensures.steps.0 in
    answers_near c.args.row.now c.args.point.a c.args.point.b c.args.point.w c.loop-edge.look c.requires c.in_ok-viewer.ensures.0
    (sym c.loop-edge.invariant.1 ∙ ap (every near_edge) none) (sym (ap (seen p c.loop-edge.look) none) ∙ c.loop-edge.invariant.0)
