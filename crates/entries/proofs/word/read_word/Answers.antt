use Rattle.std.proofs.Common.{◌≡◌, Ok, Err, sym, ap, ◌∙◌, rules}
use Rattle.entries.specs.Digits.{digits_fault}
use Rattle.entries.specs.Words.{digits}
use Rattle.entries.proofs.Digits.{faulted, same_digits}
use Rattle.entries.proofs.word.read_word.Goals as goal

pub returns-in_err-digits_after : goal.returns-in_err-digits_after
returns-in_err-digits_after c =
    let wrong : digits 0 c.args.text.now ≡ Err (digits_fault c.in_err-digits_after.field-0.0) = sym (same_digits 0 c.args.text.now) ∙ ap faulted (sym c.in_err-digits_after.ensures) in
    search (rules, wrong)

pub returns : goal.returns
returns c =
    let number : digits 0 c.args.text.now ≡ Ok c.in_ok-digits_after.field-0 = sym (same_digits 0 c.args.text.now) ∙ ap faulted (sym c.in_ok-digits_after.ensures) in
    search (rules, number)
