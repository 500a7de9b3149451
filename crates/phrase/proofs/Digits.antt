-- One digit more.
use Rattle.std.proofs.Common.{◌≡◌, ℕ, ◌+◌, ◌-◌, ◌*◌, ◌^◌, ◌<◌, Bool, true, false, ltb, cond, ◌&&◌, List, [], ◌∷◌, length, None, Ok, Err, Option, Result, refl, ap, ◌∙◌, arith}
use Rattle.std.specs.Char.{is_ascii_digit}
use Rattle.std.specs.Result.{result_ok}
use Rattle.std.proofs.lemmas.Bool.{cond-true}
use Rattle.phrase.specs.declared.number.BadDigits.{BadDigits}
use Rattle.phrase.specs.declared.number.BadDigits.TheVariants.{NotADigit, TooLarge}
use Rattle.phrase.specs.Digits.{then, digit_after, digits_after}
use Rattle.phrase.specs.Numbers.{read_on, more_digits, run}

-- one step of `digits_after`
pub digits_end : (n : ℕ) → digits_after n [] ≡ Ok n
unfolding digits_after
digits_end n = refl

pub digits_more : (n d m : ℕ) (ds : List ℕ) → Ok m ≡ digit_after n d → digits_after m ds ≡ digits_after n (d ∷ ds)
unfolding digits_after
digits_more n d m ds h = ap (λ r. then r (λ k. digits_after k ds)) h

pub digits_stop : (n d : ℕ) (ds : List ℕ) (e : BadDigits) → Err e ≡ digit_after n d → Err e ≡ digits_after n (d ∷ ds)
unfolding digits_after
digits_stop n d ds e h = ap (λ r. then r (λ k. digits_after k ds)) h

without_reason : (digit fits : Bool) (m : ℕ) (f : ℕ → Result ℕ BadDigits) (o : Option ℕ) → result_ok (f m) ≡ o → result_ok (then (cond digit (cond fits (Ok m) (Err TooLarge)) (Err NotADigit)) f) ≡ cond (digit && fits) o None
without_reason true true m f o h = h
without_reason true false m f o h = refl
without_reason false fits m f o h = refl

-- without the reason why they are refused, digits are read on
pub digits_read : (n : ℕ) (ds : List ℕ) → result_ok (digits_after n ds) ≡ read_on n ds
unfolding digits_after read_on
digits_read n [] = refl
digits_read n (d ∷ ds) = without_reason (is_ascii_digit d) (ltb (n * 10 + (d - 48)) (2 ^ 64)) (n * 10 + (d - 48)) (λ k. digits_after k ds) (read_on (n * 10 + (d - 48)) ds) (digits_read (n * 10 + (d - 48)) ds)

pub run_end : run [] ≡ 0
unfolding run
run_end = refl

pub run_digit : (d : ℕ) (ds : List ℕ) → is_ascii_digit d ≡ true → run (d ∷ ds) ≡ run ds + 1
unfolding run
run_digit d ds h = cond-true _ _ _ h ∙ omega arith

-- of one digit or more
pub more_some : (n : ℕ) (ds : List ℕ) → 0 < length ds → more_digits n ds ≡ read_on n ds
more_some n [] h = absurd (omega arith)
more_some n (d ∷ ds) h = refl
