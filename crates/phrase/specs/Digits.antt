-- Digits that are read on.
use Rattle.std.specs.Prelude.{ℕ, ◌+◌, ◌-◌, ◌*◌, ◌^◌, cond, List, [], ◌∷◌, Ok, Err, Result, nat_lt}
use Rattle.std.specs.Char.{is_ascii_digit}
use Rattle.phrase.specs.declared.number.BadDigits.{BadDigits}
use Rattle.phrase.specs.declared.number.BadDigits.TheVariants.{NotADigit, TooLarge}

-- what follows from a number, if there is one
abbrev pub then : Result ℕ BadDigits → (ℕ → Result ℕ BadDigits) → Result ℕ BadDigits
then (Ok n) f = f n
then (Err e) f = Err e

-- a digit after those of n makes it ten times as much and the digit; it stays within 64 bits
abbrev pub digit_after : ℕ → ℕ → Result ℕ BadDigits
digit_after n d = cond (is_ascii_digit d) (cond (nat_lt (n * 10 + (d - 48)) (2 ^ 64)) (Ok (n * 10 + (d - 48))) (Err TooLarge)) (Err NotADigit)

-- digits that go on after those of n
unfoldable pub digits_after : ℕ → List ℕ → Result ℕ BadDigits
digits_after n [] = Ok n
digits_after n (d ∷ ds) = then (digit_after n d) (λ m. digits_after m ds)
