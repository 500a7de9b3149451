use Rattle.std.proofs.Common.{◌<◌, length, sym, ap, ◌∙◌, subst, arith, rules}
use Rattle.plane.specs.Edges.{edge}
use Rattle.ground.specs.Rows.{shape_of}
use Rattle.ground.specs.Shapes.{edges}
use Rattle.ground.specs.Paths.{path}
use Rattle.ground.proofs.Pairs.{Fitted, Misfit, unjoined, met_between, met_last, fitted_more, end_fits, end_unjoined}
use Rattle.ground.proofs.Closing.{second, final, ring_begins, behind_two, behind_two_length, ring_many, shape_many, path_many}
use Rattle.ground.proofs.Rows.{front}
use Rattle.ground.proofs.Grounds.{refuses_meeting}
use Rattle.ground.proofs.ring.edges_apart.Goals as goal

pub returns-in_default : goal.returns-in_default
returns-in_default c =
    let few : length c.args.row.now < 4 = search rules in
    absurd (omega (arith, shape_many c.args.row.now, c.requires.0.1))

pub returns-in_default-row : goal.returns-in_default-row
returns-in_default-row c =
    let few : length c.args.row.now < 2 = search rules in
    absurd (omega (arith, shape_many c.args.row.now, c.requires.0.1))

pub loop-next-init : goal.loop-next-init
loop-next-init c =
    let row = c.args.row.now in
    let left = c.along-rest.ensures ∙ ap (path (second row)) c.of.ensures in (
      subst (λ es. Fitted (edges (shape_of row)) 1 (edge (front row) (second row)) es (edge (final row) (front row))) (sym left) (ring_begins row (omega (arith, shape_many row, c.requires.0.1)) c.requires.0.0),
      omega (arith, ap length left, path_many (second row) (shape_of (behind_two row)), shape_many (behind_two row), behind_two_length row, ring_many row, shape_many row, c.requires.0.1),
    )

pub overflow_add-second : goal.overflow_add-second
overflow_add-second c = omega (arith, c.loop-next.invariant.1, ring_many c.args.row.now, c.well_formed.0.0)

pub returns-then-not-joined : goal.returns-then-not-joined
returns-then-not-joined c =
    refuses_meeting c.args.row.now c.requires _ _
    (unjoined _ _ _ _ _ _ (rw c.in-Some.ensures.steps at c.loop-next.invariant.0) (sym c.if-not-joined.ensures))

pub overflow_add-second-in-Some-first_met : goal.overflow_add-second-in-Some-first_met
overflow_add-second-in-Some-first_met c =
    omega (arith, c.loop-next.invariant.1, ap length c.in-Some.ensures.steps, ring_many c.args.row.now, c.well_formed.0.0)

pub overflow_add-second-in-Some-first_met-2 : goal.overflow_add-second-in-Some-first_met-2
overflow_add-second-in-Some-first_met-2 c =
    omega (arith, c.loop-next.invariant.1, ap length c.in-Some.ensures.steps, c.in-Some-first_met.ensures.among, ring_many c.args.row.now, c.well_formed.0.0)

pub first_met-requires : goal.first_met-requires
first_met-requires c = omega (arith, c.loop-next.invariant.1, ap length c.in-Some.ensures.steps, ring_many c.args.row.now, c.well_formed.0.0)

pub returns-in-Some-first_met : goal.returns-in-Some-first_met
returns-in-Some-first_met c =
    refuses_meeting c.args.row.now c.requires _ _
    (met_between _ _ _ _ _ _ (rw c.in-Some.ensures.steps at c.loop-next.invariant.0) (sym c.if-not-joined.ensures) _ c.in-Some-first_met.ensures)

pub returns-then-not-fits_last : goal.returns-then-not-fits_last
returns-then-not-fits_last c =
    let row = c.args.row.now in
    refuses_meeting row c.requires _ _
    (subst (Misfit (edges (shape_of row)) c.loop-next.first) (ring_many row)
    (met_last _ _ _ _ _ _ (rw c.in-Some.ensures.steps at c.loop-next.invariant.0) (sym c.if-not-joined.ensures) c.in_default-first_met.ensures (sym c.if-not-fits_last.ensures)))

pub overflow_add-first : goal.overflow_add-first
overflow_add-first c = omega (arith, c.loop-next.invariant.1, ring_many c.args.row.now, c.well_formed.0.0)

pub loop-next-preserved : goal.loop-next-preserved
loop-next-preserved c = (
  fitted_more _ _ _ _ _ _ (rw c.in-Some.ensures.steps at c.loop-next.invariant.0) (sym c.if-not-joined.ensures) c.in_default-first_met.ensures (sym c.if-not-fits_last.ensures),
  omega (arith, c.loop-next.invariant.1, ap length c.in-Some.ensures.steps),
)

pub returns-then-joined : goal.returns-then-joined
returns-then-joined c =
    end_fits _ _ _ _ (rw c.in_default-next.ensures.steps.0 at c.loop-next.invariant.0) (omega (arith, ring_many c.args.row.now, shape_many c.args.row.now, c.requires.0.1)) (sym c.if-joined.ensures)

pub returns-else-joined : goal.returns-else-joined
returns-else-joined c =
    let row = c.args.row.now in
    refuses_meeting row c.requires _ _
    (subst (Misfit (edges (shape_of row)) c.loop-next.first) (ring_many row)
    (end_unjoined _ _ _ _ (rw c.in_default-next.ensures.steps.0 at c.loop-next.invariant.0) (omega (arith, ring_many row, shape_many row, c.requires.0.1)) (sym c.if-joined.ensures)))
