-- The digits of a word, as the reader of digits has them.
use Rattle.std.proofs.Common.{◌≡◌, ℕ, ◌+◌, ◌-◌, ◌*◌, ◌^◌, Bool, true, false, cond, ltb, List, [], ◌∷◌, Ok, Err, Result, refl}
use Rattle.std.specs.Char.{is_ascii_digit}
use Rattle.phrase.specs.declared.number.BadDigits.{BadDigits}
use Rattle.phrase.specs.declared.number.BadDigits.TheVariants as bad
use Rattle.phrase.specs.Digits.{digits_after}
use Rattle.phrase.specs.Digits as read
use Rattle.entries.specs.declared.fault.Fault.{Fault}
use Rattle.entries.specs.declared.fault.Fault.TheVariants.{TooLarge, NotANumber}
use Rattle.entries.specs.Digits.{digits_fault}
use Rattle.entries.specs.Words.{digits}

-- a number, or what is wrong with the word
abbrev pub faulted : Result ℕ BadDigits → Result ℕ Fault
faulted (Ok n) = Ok n
faulted (Err e) = Err (digits_fault e)

one_more : (digit fits : Bool) (m : ℕ) (f : ℕ → Result ℕ BadDigits) (o : Result ℕ Fault) → faulted (f m) ≡ o → faulted (read.then (cond digit (cond fits (Ok m) (Err bad.TooLarge)) (Err bad.NotADigit)) f) ≡ cond digit (cond fits o (Err TooLarge)) (Err NotANumber)
one_more true true m f o h = h
one_more true false m f o h = refl
one_more false fits m f o h = refl

pub same_digits : (n : ℕ) (ds : List ℕ) → faulted (digits_after n ds) ≡ digits n ds
unfolding digits_after digits
same_digits n [] = refl
same_digits n (d ∷ ds) = one_more (is_ascii_digit d) (ltb (n * 10 + (d - 48)) (2 ^ 64)) (n * 10 + (d - 48)) (λ k. digits_after k ds) _ (same_digits (n * 10 + (d - 48)) ds)
