use Rattle.std.proofs.Common.{sym, ap, ◌∙◌, arith, false-eqb}
use Rattle.std.specs.Result.{result_ok}
use Rattle.phrase.proofs.Digits.{more_some, digits_read}
use Rattle.phrase.proofs.number.more_digits.Goals as goal

pub returns : goal.returns
returns c =
    c.ok.ensures.value ∙ ap result_ok c.digits_after.ensures ∙ digits_read c.args.start c.args.digits.now
    ∙ sym (more_some _ _ (omega (arith, false-eqb _ 0 c.if-is_empty.ensures)))
