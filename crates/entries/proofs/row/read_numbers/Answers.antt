use Rattle.std.proofs.Common.{◌+◌, drop, vec_items, sym, ap, ◌∙◌, inl, inr}
use Rattle.entries.specs.Rows.{numbers}
use Rattle.entries.proofs.Numbering.{number_more, comma_more, open_stops, close_stops, colon_stops, polygon_stops, numbers_all}
use Rattle.entries.proofs.Sofar.{prefixed}
use Rattle.entries.proofs.row.read_numbers.Goals as goal
use Rattle.entries.proofs.row.read_numbers.Goals.{in-Number+in_ok-push-in-Number, in-Comma}

pub returns-in-Open : goal.returns-in-Open
returns-in-Open c =
    elim c.in-Open.is [
      | inl e ↦ sym c.loop-mark.invariant ∙ open_stops c.args.marks.now _ _ _ c.loop-mark-test.true e
      | inr e ↦ sym c.loop-mark.invariant ∙ close_stops c.args.marks.now _ _ _ c.loop-mark-test.true e
    ]

pub returns-in-Colon : goal.returns-in-Colon
returns-in-Colon c =
    elim c.in-Colon.is [
      | inl e ↦ sym c.loop-mark.invariant ∙ colon_stops c.args.marks.now _ _ _ c.loop-mark-test.true e
      | inr e ↦ sym c.loop-mark.invariant ∙ polygon_stops c.args.marks.now _ _ _ c.loop-mark-test.true e
    ]

pub loop-mark-preserved : goal.loop-mark-preserved
loop-mark-preserved c =
    elim c.match-mark.branch [
      | in-Number+in_ok-push-in-Number w ↦
          ap (λ v. prefixed (vec_items v) (numbers (drop (c.loop-mark.mark-index + 1) c.args.marks.now))) w.row-is
          ∙ ap (λ xs. prefixed xs (numbers (drop (c.loop-mark.mark-index + 1) c.args.marks.now))) w.in_ok-push-in-Number.ensures.items
          ∙ number_more c.args.marks.now c.loop-mark.mark-index _ _ c.loop-mark-test.true _ w.in-Number.is ∙ c.loop-mark.invariant
      | in-Comma w ↦
          ap (λ v. prefixed (vec_items v) (numbers (drop (c.loop-mark.mark-index + 1) c.args.marks.now))) w.row-is
          ∙ comma_more c.args.marks.now c.loop-mark.mark-index _ _ c.loop-mark-test.true w.in-Comma.is ∙ c.loop-mark.invariant
    ]

pub returns : goal.returns
returns c = sym c.loop-mark.invariant ∙ numbers_all c.args.marks.now c.loop-mark.mark-index _ c.loop-mark-test.false
