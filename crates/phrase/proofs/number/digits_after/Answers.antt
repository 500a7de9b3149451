use Rattle.std.proofs.Common.{Err, sym, ap, ◌∙◌}
use Rattle.std.proofs.lemmas.List.{at_drop_more, at_drop_all}
use Rattle.std.proofs.lemmas.Result.{err_from_is_err_and}
use Rattle.phrase.specs.Digits.{digits_after}
use Rattle.phrase.proofs.Digits.{digits_end, digits_more, digits_stop}
use Rattle.phrase.proofs.number.digits_after.Goals as goal

pub returns-in_err-n : goal.returns-in_err-n
returns-in_err-n c =
    let e = err_from_is_err_and _ c.from_residual.ensures.1 in
    e.1 ∙ ap Err e.2 ∙ digits_stop c.loop-d.n _ _ _ c.in_err-n.ensures ∙ sym (at_drop_more (digits_after _) _ _ 0 c.loop-d-test.true) ∙ c.loop-d.invariant

pub loop-d-preserved : goal.loop-d-preserved
loop-d-preserved c = digits_more c.loop-d.n _ _ _ c.in_ok-n.ensures ∙ sym (at_drop_more (digits_after _) _ _ 0 c.loop-d-test.true) ∙ c.loop-d.invariant

pub returns : goal.returns
returns c = sym (digits_end _) ∙ sym (at_drop_all (digits_after _) _ _ c.loop-d-test.false) ∙ c.loop-d.invariant
