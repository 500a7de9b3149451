use Rattle.std.proofs.Common.{◌*◌, arith}
use Rattle.ground.specs.Rows.{shape_of}
use Rattle.ground.proofs.Sums.{sum_more, sum_none, left_small, right_small, area_so}
use Rattle.ground.proofs.area.area_to_the_left.Goals as goal

pub with-sums-requires : goal.with-sums-requires
with-sums-requires c =
    let row = c.args.row.now in
    let l = sum_more (λ e. e.one.x * e.other.y) _ _ _ c.in-Some.ensures.steps in
    let r = sum_more (λ e. e.one.y * e.other.x) _ _ _ c.in-Some.ensures.steps in
    (omega (arith, l, c.loop-edge.invariant.0, left_small row c.requires.0 c.requires.1), omega (arith, r, c.loop-edge.invariant.1, right_small row c.requires.0 c.requires.1))

pub loop-edge-preserved : goal.loop-edge-preserved
loop-edge-preserved c =
    let l = sum_more (λ e. e.one.x * e.other.y) _ _ _ c.in-Some.ensures.steps in
    let r = sum_more (λ e. e.one.y * e.other.x) _ _ _ c.in-Some.ensures.steps in
    (omega (arith, l, c.loop-edge.invariant.0, c.with-sums.ensures.0), omega (arith, r, c.loop-edge.invariant.1, c.with-sums.ensures.1))

pub returns : goal.returns
returns c =
    let l = sum_none (λ e. e.one.x * e.other.y) _ c.in-None.ensures.steps.0 in
    let r = sum_none (λ e. e.one.y * e.other.x) _ c.in-None.ensures.steps.0 in
    area_so (shape_of c.args.row.now) c.loop-edge.sums.left c.loop-edge.sums.right (omega (arith, l, c.loop-edge.invariant.0))
    (omega (arith, r, c.loop-edge.invariant.1)) c.lead.result c.lead.ensures
