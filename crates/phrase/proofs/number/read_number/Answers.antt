use Rattle.std.proofs.Common.{sym, ◌∙◌, arith}
use Rattle.std.specs.Char.{is_ascii_digit}
use Rattle.std.proofs.lemmas.List.Sums.{prefix_len-le-length}
use Rattle.phrase.proofs.Marks.{number_parts}
use Rattle.phrase.proofs.number.read_number.Goals as goal

pub split_at-requires : goal.split_at-requires
split_at-requires c = omega (arith, c.digits_run.ensures, prefix_len-le-length is_ascii_digit c.args.word.now)

pub returns-in_err-more_digits : goal.returns-in_err-more_digits
returns-in_err-more_digits c =
    c.from_residual.ensures
    ∙ sym (number_parts c.args.word.now _ _ c.digits_run.result c.digits_run.ensures c.split_at.ensures.front c.split_at.ensures.back c.in_err-more_digits.ensures)

pub returns : goal.returns
returns c =
    c.after_digits.ensures
    ∙ sym (number_parts c.args.word.now _ _ c.digits_run.result c.digits_run.ensures c.split_at.ensures.front c.split_at.ensures.back c.in_ok-more_digits.ensures)
