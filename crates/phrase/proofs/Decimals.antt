-- A number as it is written: its digits are read back, and end no line.
use Rattle.std.proofs.Common.{◌≡◌, ℕ, ◌+◌, ◌-◌, ◌*◌, ◌^◌, ◌<◌, ◌≤◌, true, false, leb, List, [], ◌∷◌, ◌++◌, Ok, decimal, sym, refl, ap, ◌∙◌, arith, rules}
use Rattle.std.specs.Char.{is_ascii_digit}
use Rattle.std.specs.Str.{all_ascii_digits}
use Rattle.std.proofs.lemmas.Fmt.{digits_decimal, digits_value-decimal}
use Rattle.std.proofs.lemmas.Str.Parse.{IsNumeralModel, numerals_by_fold}
use Rattle.std.proofs.lemmas.Bool.{and_parts, cond-true, cond-false, ne_eqb, lt-ltb, leb-true}
use Rattle.phrase.specs.Digits.{digits_after}
use Rattle.phrase.specs.Words.{ends, plain}
use Rattle.phrase.proofs.Digits.{digits_end, digits_more}

-- the number that digits write after those of n
abbrev pub folded : ℕ → List ℕ → ℕ
folded n [] = n
folded n (d ∷ ds) = folded (n * 10 + (d - 48)) ds

own : IsNumeralModel (λ ds. all_ascii_digits ds ≡ true) (folded 0)
own = numerals_by_fold _ (search rules) folded (search rules)

folded_grows : (n : ℕ) (ds : List ℕ) → n ≤ folded n ds
folded_grows n [] = omega arith
folded_grows n (d ∷ ds) = omega (arith, folded_grows (n * 10 + (d - 48)) ds)

-- digits are read as what they write
pub digits_written : (n : ℕ) (ds : List ℕ) → all_ascii_digits ds ≡ true → folded n ds < 2 ^ 64 → digits_after n ds ≡ Ok (folded n ds)
digits_written n [] h small = digits_end n
digits_written n (d ∷ ds) h small =
    let parts = and_parts (is_ascii_digit d) (all_ascii_digits ds) h in
    let fits : n * 10 + (d - 48) < 2 ^ 64 = omega (arith, folded_grows (n * 10 + (d - 48)) ds) in
    sym (digits_more n d (n * 10 + (d - 48)) ds (sym (cond-true _ _ _ parts.0 ∙ cond-true _ _ _ (lt-ltb _ _ fits)))) ∙ digits_written (n * 10 + (d - 48)) ds parts.1 small

pub digit_low : (d : ℕ) → is_ascii_digit d ≡ true → 48 ≤ d
digit_low d h = leb-true 48 d (and_parts (leb 48 d) (leb d 57) h).0

pub digit_high : (d : ℕ) → is_ascii_digit d ≡ true → d ≤ 57
digit_high d h = leb-true d 57 (and_parts (leb 48 d) (leb d 57) h).1

digit_stays : (d k : ℕ) → is_ascii_digit d ≡ true → ends d k ≡ false
digit_stays d k h =
    let low = digit_low d h in
    rw (ne_eqb d 35 (λ e. omega arith), ne_eqb d 13 (λ e. omega arith))

plain_digits : (ds rest : List ℕ) → all_ascii_digits ds ≡ true → plain (ds ++ rest) ≡ ds ++ plain rest
unfolding plain
plain_digits [] rest h = refl
plain_digits (d ∷ ds) rest h =
    let parts = and_parts (is_ascii_digit d) (all_ascii_digits ds) h in
    cond-false _ _ _ (digit_stays d _ parts.0) ∙ ap (λ l. d ∷ l) (plain_digits ds rest parts.1)

-- Below, n is a number of 64 bits.
module _ (n : ℕ) (small : n < 2 ^ 64) where
  pub decimal_digits : all_ascii_digits (decimal n) ≡ true
  decimal_digits = digits_decimal own n small

  pub decimal_worth : folded 0 (decimal n) ≡ n
  decimal_worth = digits_value-decimal own n small

  pub decimal_read : digits_after 0 (decimal n) ≡ Ok n
  decimal_read = digits_written 0 (decimal n) decimal_digits (omega (arith, decimal_worth)) ∙ ap Ok decimal_worth

  pub decimal_plain : (rest : List ℕ) → plain (decimal n ++ rest) ≡ decimal n ++ plain rest
  decimal_plain rest = plain_digits (decimal n) rest decimal_digits
