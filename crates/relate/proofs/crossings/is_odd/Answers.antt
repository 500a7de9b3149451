use Rattle.std.proofs.Common.{◌≡◌, ◌/◌, Bool, false, sym, ap, ◌∙◌, arith}
use Rattle.plane.specs.Code.{along}
use Rattle.plane.specs.Corners.{corner}
use Rattle.plane.specs.Edges.{Edge, grown_edge}
use Rattle.plane.specs.Levels.{Floors}
use Rattle.plane.specs.Parity.{xor, xors, crosses}
use Rattle.relate.specs.Going.{shape_in, edges_left}
use Rattle.relate.proofs.Counting.{unreached, stood_crosses, count_begins, count_turns, count_skips, count_ends}
use Rattle.relate.proofs.crossings.is_odd.Goals as goal
use Rattle.relate.proofs.crossings.is_odd.Goals.{else-reaches_over-via-then-reaches_over+else-crosses, else-reaches_over-via-else-reaches_over}

pub loop-near-init : goal.loop-near-init
loop-near-init c =
    let f : Edge → Bool = λ e. crosses (grown_edge 1048576 e) (corner c.args.a c.args.b) in
    ap (λ es. xor false (xors f es)) (ap edges_left c.into_iter-near-iterator.ensures.into_iter_gives ∙ c.edges-near-items.ensures)
    ∙ count_begins f (shape_in c.args.ring.now)

pub loop-near-preserved-then-crosses : goal.loop-near-preserved-then-crosses
loop-near-preserved-then-crosses c =
    let f : Edge → Bool = λ e. crosses (grown_edge 1048576 e) (corner c.args.a c.args.b) in
    let e = along c.in-Some-near.near.edge in
    let crossed = sym (stood_crosses c.in-Some.viewer c.args.a c.args.b 1048576 e c.in-Some.ensures.1) ∙ sym c.if-crosses.ensures in
    count_turns f c.loop-near.odd e (edges_left c.next.new.self) crossed ∙ ap (λ es. xor c.loop-near.odd (xors f es)) (sym c.in-Some-near.ensures.steps)
    ∙ c.loop-near.invariant

pub loop-near-preserved : goal.loop-near-preserved
loop-near-preserved c =
    let f : Edge → Bool = λ e. crosses (grown_edge 1048576 e) (corner c.args.a c.args.b) in
    let e = along c.in-Some-near.near.edge in
    let b = c.args.b in
    let floored : Floors b 1048576 (b / 1048576) = (omega arith, omega arith) in
    let uncrossed : f e ≡ false =
    elim c.else-reaches_over.branch [
      | else-reaches_over-via-then-reaches_over+else-crosses w ↦
          sym (stood_crosses c.in-Some.viewer c.args.a b 1048576 e c.in-Some.ensures.1) ∙ sym w.if-crosses.ensures
      | else-reaches_over-via-else-reaches_over w ↦ unreached 1048576 (b / 1048576) e (corner c.args.a b) floored (sym w.if-reaches_over.ensures)
    ] in
    count_skips f c.loop-near.odd e (edges_left c.next.new.self) uncrossed ∙ ap (λ es. xor c.loop-near.odd (xors f es)) (sym c.in-Some-near.ensures.steps)
    ∙ c.loop-near.invariant

pub returns : goal.returns
returns c =
    let f : Edge → Bool = λ e. crosses (grown_edge 1048576 e) (corner c.args.a c.args.b) in
    count_ends f c.loop-near.odd ∙ ap (λ es. xor c.loop-near.odd (xors f es)) (sym c.in-None.ensures.steps.0) ∙ c.loop-near.invariant
