-- A number that was written is read back as a mark.
use Rattle.std.proofs.Common.{◌≡◌, ℕ, ◌+◌, ◌^◌, ◌<◌, true, false, cond, ltb, List, [], ◌∷◌, ◌++◌, length, Ok, decimal, Result, sym, refl, ap, ◌∙◌, append_assoc, append-nil, arith}
use Rattle.std.specs.Char.{is_ascii_digit}
use Rattle.std.specs.Str.{all_ascii_digits}
use Rattle.std.proofs.lemmas.Fmt.{decimal_nonempty}
use Rattle.std.proofs.lemmas.Bool.{and_parts, cond-true, cond-false, ne_eqb, lt-ltb}
use Rattle.phrase.specs.Words.{plain}
use Rattle.phrase.proofs.Decimals.{digit_low, digit_high, decimal_digits, decimal_read, decimal_plain}
use Rattle.entries.specs.declared.fault.Fault.{Fault}
use Rattle.entries.specs.declared.mark.Mark.{Mark}
use Rattle.entries.specs.declared.mark.Mark.TheVariants.{Number}
use Rattle.entries.specs.Marks.{separates, before, closed, marks}
use Rattle.entries.specs.Words.{then, is_polygon, word}
use Rattle.entries.proofs.Cuts.{marks_on}
use Rattle.entries.proofs.Digits.{faulted, same_digits}

-- digits are not the word `polygon`
not_polygon : (w : List ℕ) → all_ascii_digits w ≡ true → 0 < length w → is_polygon w ≡ false
not_polygon [] h some = absurd (omega arith)
not_polygon (d ∷ ds) h some =
    let high = digit_high d (and_parts (is_ascii_digit d) (all_ascii_digits ds) h).0 in
    rw (cond-true (ltb d 65) d (cond (ltb d 91) (d + 32) d) (lt-ltb d 65 (omega arith)), ne_eqb d 112 (λ e. omega arith))

-- and no digit separates words
digit_joins : (d : ℕ) → is_ascii_digit d ≡ true → separates d ≡ false
digit_joins d h =
    let low = digit_low d h in
    let high = digit_high d h in
    rw (ne_eqb d 32 (λ e. omega arith), ne_eqb d 9 (λ e. omega arith), ne_eqb d 44 (λ e. omega arith), ne_eqb d 58 (λ e. omega arith), ne_eqb d 40 (λ e. omega arith), ne_eqb d 41 (λ e. omega arith))

marks_digits : (w ds rest : List ℕ) → all_ascii_digits ds ≡ true → marks w (ds ++ rest) ≡ marks (w ++ ds) rest
marks_digits w [] rest h = ap (λ l. marks l rest) (sym (append-nil w))
marks_digits w (d ∷ ds) rest h =
    let parts = and_parts (is_ascii_digit d) (all_ascii_digits ds) h in
    marks_on w d (ds ++ rest) (digit_joins d parts.0) ∙ marks_digits (w ++ (d ∷ [])) ds rest parts.1 ∙ ap (λ l. marks l rest) (append_assoc w (d ∷ []) ds)

closed_some : (w : List ℕ) (o : Result (List Mark) Fault) → 0 < length w → closed w o ≡ then (word w) (λ m. before m o)
closed_some [] o h = absurd (omega arith)
closed_some (b ∷ w) o h = refl

-- Below, n is a number of 64 bits as it is written.
module _ (n : ℕ) (small : n < 2 ^ 64) where
  word_read : word (decimal n) ≡ Ok (Number n)
  word_read =
      cond-false _ _ _ (not_polygon (decimal n) (decimal_digits n small) (decimal_nonempty n small))
      ∙ ap (λ o. then o (λ k. Ok (Number k))) (sym (same_digits 0 (decimal n)) ∙ ap faulted (decimal_read n small))

  -- it is read at the beginning of a text
  pub number_first : (rest : List ℕ) → marks [] (plain (decimal n ++ rest)) ≡ marks (decimal n) (plain rest)
  number_first rest = ap (marks []) (decimal_plain n small rest) ∙ marks_digits [] (decimal n) (plain rest) (decimal_digits n small)

  -- and ends before the marks that follow
  pub number_then : (o : Result (List Mark) Fault) → closed (decimal n) o ≡ before (Number n) o
  number_then o = closed_some (decimal n) o (decimal_nonempty n small) ∙ ap (λ p. then p (λ m. before m o)) word_read
