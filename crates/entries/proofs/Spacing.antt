-- Whether commas stand between corners: the parts that the commas cut have two marks each.
use Rattle.std.proofs.Common.{◌≡◌, ℕ, suc, ◌+◌, ◌%◌, ◌<◌, Bool, true, false, not, ◌&&◌, eqb, List, [], ◌∷◌, length, sym, refl, ap, ◌∙◌, arith}
use Rattle.std.specs.List.{slice_split, onto_first, list_all}
use Rattle.std.proofs.lemmas.List.Splits.{slice_split-cons_yes, slice_split-cons_no, length-slice_split}
use Rattle.std.proofs.lemmas.Bool.{ne_eqb}
use Rattle.entries.specs.declared.mark.Mark.{Mark}
use Rattle.entries.specs.Rings.{is_comma, in_place, evenly}

abbrev pub two : List Mark → Bool
two part = eqb (length part) 2

abbrev parts : List Mark → List (List Mark)
parts ms = slice_split is_comma ms

-- each part has two marks, the first of them with the k that stand before it
abbrev even_behind : ℕ → List (List Mark) → Bool
even_behind k [] = false
even_behind k (p ∷ ps) = eqb (k + length p) 2 && list_all two ps

even_all : (ps : List (List Mark)) → 0 < length ps → list_all two ps ≡ even_behind 0 ps
even_all [] some = absurd (omega arith)
even_all (p ∷ ps) some = let same : length p ≡ 0 + length p = omega arith in ap (λ n. eqb n 2 && list_all two ps) same

even_onto : (k : ℕ) (m : Mark) (ps : List (List Mark)) → 0 < length ps → even_behind k (onto_first m ps) ≡ even_behind (k + 1) ps
even_onto k m [] some = absurd (omega arith)
even_onto k m (p ∷ ps) some = let same : k + suc (length p) ≡ k + 1 + length p = omega arith in ap (λ n. eqb n 2 && list_all two ps) same

too_many : (ps : List (List Mark)) → even_behind 3 ps ≡ false
too_many [] = refl
too_many (p ∷ ps) = ap (λ b. b && list_all two ps) (ne_eqb (3 + length p) 2 (λ e. omega arith))

module _ (m : Mark) (ms : List Mark) where
  some_parts : 0 < length (parts ms)
  some_parts = omega (arith, length-slice_split is_comma ms)

  evenly_cons : (k : ℕ) → evenly k (m ∷ ms) ≡ in_place k m && evenly ((k + 1) % 3) ms
  unfolding evenly
  evenly_cons k = refl

  joined : (k : ℕ) → is_comma m ≡ false → even_behind (k + 1) (parts ms) ≡ even_behind k (parts (m ∷ ms))
  joined k e = sym (ap (even_behind k) (slice_split-cons_no is_comma m ms e) ∙ even_onto k m (parts ms) some_parts)

  cut_off : (k : ℕ) → is_comma m ≡ true → even_behind k ([] ∷ parts ms) ≡ even_behind k (parts (m ∷ ms))
  cut_off k e = sym (ap (even_behind k) (slice_split-cons_yes is_comma m ms e))

  behind_none : (b : Bool) → is_comma m ≡ b → evenly 1 ms ≡ even_behind 1 (parts ms) → evenly 0 (m ∷ ms) ≡ even_behind 0 (parts (m ∷ ms))
  behind_none true e h = evenly_cons 0 ∙ ap (λ c. not c && evenly 1 ms) e ∙ cut_off 0 e
  behind_none false e h = evenly_cons 0 ∙ ap (λ c. not c && evenly 1 ms) e ∙ h ∙ joined 0 e

  behind_one : (b : Bool) → is_comma m ≡ b → evenly 2 ms ≡ even_behind 2 (parts ms) → evenly 1 (m ∷ ms) ≡ even_behind 1 (parts (m ∷ ms))
  behind_one true e h = evenly_cons 1 ∙ ap (λ c. not c && evenly 2 ms) e ∙ cut_off 1 e
  behind_one false e h = evenly_cons 1 ∙ ap (λ c. not c && evenly 2 ms) e ∙ h ∙ joined 1 e

  behind_two : (b : Bool) → is_comma m ≡ b → evenly 0 ms ≡ even_behind 0 (parts ms) → evenly 2 (m ∷ ms) ≡ even_behind 2 (parts (m ∷ ms))
  behind_two true e h = evenly_cons 2 ∙ ap (λ c. c && evenly 0 ms) e ∙ h ∙ sym (even_all (parts ms) some_parts) ∙ cut_off 2 e
  behind_two false e h = evenly_cons 2 ∙ ap (λ c. c && evenly 0 ms) e ∙ sym (too_many (parts ms)) ∙ joined 2 e

all_behind : (ms : List Mark) → (evenly 0 ms ≡ even_behind 0 (parts ms)) × (evenly 1 ms ≡ even_behind 1 (parts ms)) × (evenly 2 ms ≡ even_behind 2 (parts ms))
unfolding evenly
all_behind [] = (refl, refl, refl)
all_behind (m ∷ ms) =
    let h = all_behind ms in
    (behind_none m ms (is_comma m) refl h.1, behind_one m ms (is_comma m) refl h.2, behind_two m ms (is_comma m) refl h.0)

pub even_parts : (ms : List Mark) → list_all two (slice_split is_comma ms) ≡ evenly 0 ms
even_parts ms = let some : 0 < length (parts ms) = omega (arith, length-slice_split is_comma ms) in even_all (parts ms) some ∙ sym (all_behind ms).0
