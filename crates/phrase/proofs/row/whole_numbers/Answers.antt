use Rattle.std.proofs.Common.{◌+◌, drop, sym, ap, ◌∙◌}
use Rattle.phrase.specs.Rows.{wholes}
use Rattle.phrase.proofs.Rows.{row_more, row_stops, row_ends}
use Rattle.phrase.proofs.Sofar.{prefixed}
use Rattle.phrase.proofs.row.whole_numbers.Goals as goal

pub returns-in_default : goal.returns-in_default
returns-in_default c = sym c.loop-word.invariant ∙ row_stops c.args.words.now c.loop-word.word-index _ _ c.loop-word-test.true c.in_default.not-Whole

pub loop-word-preserved : goal.loop-word-preserved
loop-word-preserved c =
    ap (λ xs. prefixed xs (wholes (drop (c.loop-word.word-index + 1) c.args.words.now))) c.in_ok-push.ensures.items
    ∙ row_more c.args.words.now c.loop-word.word-index _ _ c.loop-word-test.true _ c.in-Whole.is
    ∙ c.loop-word.invariant

pub returns : goal.returns
returns c = sym c.loop-word.invariant ∙ row_ends c.args.words.now c.loop-word.word-index _ c.loop-word-test.false
