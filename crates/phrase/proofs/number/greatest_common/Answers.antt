use Rattle.std.proofs.Common.{sym, ap, ◌∙◌, arith}
use Rattle.phrase.specs.Numbers.{common}
use Rattle.phrase.proofs.Euclid.{common_turn, common_end}
use Rattle.phrase.proofs.number.greatest_common.Goals as goal

pub loop-small-preserved : goal.loop-small-preserved
loop-small-preserved c = common_turn _ _ (omega arith) ∙ c.loop-small.invariant

pub returns : goal.returns
returns c = sym (common_end _) ∙ ap (common _) (sym c.loop-small-test.false) ∙ c.loop-small.invariant
