-- A number that was written is read back.
use Rattle.std.proofs.Common.{◌≡◌, ℕ, ◌^◌, ◌<◌, ◌≤◌, true, false, eqb, List, [], ◌∷◌, ◌++◌, length, take, drop, Some, None, decimal, sym, refl, ap, ◌∙◌, append_assoc, append-nil, arith, lit<}
use Rattle.std.specs.Char.{is_ascii_digit}
use Rattle.std.specs.Str.{all_ascii_digits}
use Rattle.std.proofs.lemmas.Fmt.{decimal_nonempty}
use Rattle.std.proofs.lemmas.List.{take_all, drop_all}
use Rattle.std.proofs.lemmas.Bool.{and_parts, ne_eqb}
use Rattle.phrase.specs.declared.word.Word.TheVariants.{Whole}
use Rattle.phrase.specs.Numbers.{bind, run, number_word}
use Rattle.phrase.specs.Words.{plain, separates, closed, cut, name, named, word, all_words}
use Rattle.phrase.proofs.Cutting.{cut_on}
use Rattle.phrase.proofs.Decimals.{folded, digits_written, digit_low, digit_high, decimal_digits, decimal_worth, decimal_plain}
use Rattle.phrase.proofs.Digits.{digits_read, run_end, run_digit, more_some}

digits_run : (ds : List ℕ) → all_ascii_digits ds ≡ true → run ds ≡ length ds
digits_run [] h = run_end
digits_run (d ∷ ds) h =
    let parts = and_parts (is_ascii_digit d) (all_ascii_digits ds) h in
    run_digit d ds parts.0 ∙ omega (arith, digits_run ds parts.1)

number_read : (ds : List ℕ) (n : ℕ) → all_ascii_digits ds ≡ true → 0 < length ds → folded 0 ds ≡ n → n < 2 ^ 64 → number_word ds ≡ Some (Whole n)
number_read ds n h some e small =
    let all : run ds ≡ length ds = digits_run ds h in
    let front : take (run ds) ds ≡ ds = take_all (run ds) ds (omega arith) in
    let rest : drop (run ds) ds ≡ [] = drop_all (run ds) ds (omega arith) in
    rw (front, rest, more_some 0 ds some, ← digits_read 0 ds, digits_written 0 ds h (omega arith), e)

-- what begins with a digit is no name
no_name : (d : ℕ) (ds : List ℕ) → d ≤ 57 → name (d ∷ ds) ≡ None
no_name d ds h =
    let other : (c : ℕ) → 57 < c → eqb d c ≡ false = λ c g. ne_eqb d c (λ e. omega arith) in
    rw (other 112 (lit< tt), other 100 (lit< tt), other 97 (lit< tt), other 104 (lit< tt), other 108 (lit< tt), other 116 (lit< tt), other 111 (lit< tt), other 113 (lit< tt))

word_read : (ds : List ℕ) (n : ℕ) → all_ascii_digits ds ≡ true → 0 < length ds → folded 0 ds ≡ n → n < 2 ^ 64 → word ds ≡ Some (Whole n)
word_read [] n h some e small = absurd (omega arith)
word_read (d ∷ ds) n h some e small =
    ap (named (d ∷ ds)) (no_name d ds (digit_high d (and_parts (is_ascii_digit d) (all_ascii_digits ds) h).0)) ∙ number_read (d ∷ ds) n h some e small

-- no digit separates words
digit_joins : (d : ℕ) → is_ascii_digit d ≡ true → separates d ≡ false
digit_joins d h =
    let low = digit_low d h in
    rw (ne_eqb d 32 (λ e. omega arith), ne_eqb d 9 (λ e. omega arith), ne_eqb d 44 (λ e. omega arith))

cut_digits : (w ds rest : List ℕ) → all_ascii_digits ds ≡ true → cut w (ds ++ rest) ≡ cut (w ++ ds) rest
cut_digits w [] rest h = ap (λ l. cut l rest) (sym (append-nil w))
cut_digits w (d ∷ ds) rest h =
    let parts = and_parts (is_ascii_digit d) (all_ascii_digits ds) h in
    cut_on w d (ds ++ rest) (digit_joins d parts.0) ∙ cut_digits (w ++ (d ∷ [])) ds rest parts.1 ∙ ap (λ l. cut l rest) (append_assoc w (d ∷ []) ds)

closed_some : (w : List ℕ) (ws : List (List ℕ)) → 0 < length w → closed w ws ≡ w ∷ ws
closed_some [] ws h = absurd (omega arith)
closed_some (b ∷ w) ws h = refl

-- Below, n is a number of 64 bits as it is written, at the beginning of a word.
module _ (n : ℕ) (small : n < 2 ^ 64) where
  pub number_first : (rest : List ℕ) → cut [] (plain (decimal n ++ rest)) ≡ cut (decimal n) (plain rest)
  number_first rest = ap (cut []) (decimal_plain n small rest) ∙ cut_digits [] (decimal n) (plain rest) (decimal_digits n small)

  -- the number ends before the words ws
  pub number_then : (ws : List (List ℕ)) → all_words (closed (decimal n) ws) ≡ bind (all_words ws) (λ xs. Some (Whole n ∷ xs))
  unfolding all_words
  number_then ws =
      ap all_words (closed_some (decimal n) ws (decimal_nonempty n small))
      ∙ ap (λ o. bind o (λ x. bind (all_words ws) (λ xs. Some (x ∷ xs)))) (word_read (decimal n) n (decimal_digits n small) (decimal_nonempty n small) (decimal_worth n small) small)
