-- Reading the grounds that lie on one, pair by pair.
use Rattle.std.proofs.Common.{◌≡◌, ℕ, zero, suc, ◌*◌, ◌/◌, ◌%◌, ◌<◌, ◌≤◌, List, [], ◌∷◌, length, get_or, Some, None, Option, refl, ap, ◌∙◌, arith}
use Rattle.std.specs.Simd.{first_chunks}
use Rattle.std.proofs.lemmas.Bool.Decides.{nat_tests}
use Rattle.phrase.specs.Numbers.{bind}
use Rattle.phrase.specs.declared.answer.Neighbour.{Neighbour}
use Rattle.terms.specs.Ways.{way_number}
use Rattle.terms.specs.declared.way.Way.{Way}
use Rattle.terms.specs.declared.way.Way.TheVariants.{Apart, Touch, Within, Around, Same, Over}
use Rattle.dialogue.specs.Replies.{way_of, neighbours}

-- the way that has a number
pub way_found : (way : Way) (n : ℕ) → way_number way ≡ n → way_of n ≡ Some way
way_found Apart n e = rw (← e) refl
way_found Touch n e = rw (← e) refl
way_found Within n e = rw (← e) refl
way_found Around n e = rw (← e) refl
way_found Same n e = rw (← e) refl
way_found Over n e = rw (← e) refl

pub no_way : (n : ℕ) → 6 ≤ n → way_of n ≡ None
no_way n h = grind (arith, nat_tests)

-- what pairs of numbers tell
abbrev pub paired : List (List ℕ) → Option (List Neighbour)
paired [] = Some []
paired (p ∷ ps) = bind (way_of (get_or p 1 0)) (λ way. bind (paired ps) (λ rows. Some (record { other = get_or p 0 0; way = way } ∷ rows)))

two_by_two : (k : ℕ) (xs : List ℕ) → length xs ≡ 2 * k → paired (first_chunks 2 k xs) ≡ neighbours xs
unfolding neighbours
two_by_two zero [] h = refl
two_by_two zero (x ∷ xs) h = absurd (omega arith)
two_by_two (suc k) [] h = absurd (omega arith)
two_by_two (suc k) (x ∷ []) h = absurd (omega arith)
two_by_two (suc k) (x ∷ y ∷ rest) h = ap (λ o. bind (way_of y) (λ way. bind o (λ rows. Some (record { other = x; way = way } ∷ rows)))) (two_by_two k rest (omega arith))

-- a row with no number left over is all pairs
pub all_pairs : (xs : List ℕ) → length xs % 2 ≡ 0 → paired (first_chunks 2 (length xs / 2) xs) ≡ neighbours xs
all_pairs xs h = two_by_two (length xs / 2) xs (omega arith)

-- a number and a way, before what the others tell
abbrev pub joined : ℕ → Option Way → Option (List Neighbour) → Option (List Neighbour)
joined n o more = bind o (λ way. bind more (λ rows. Some (record { other = n; way = way } ∷ rows)))

no_rest : (o : Option Way) (n : ℕ) → joined n o None ≡ None
no_rest None n = refl
no_rest (Some way) n = refl

pub left_over : (xs : List ℕ) → 0 < length xs % 2 → neighbours xs ≡ None
unfolding neighbours
left_over [] h = absurd (omega arith)
left_over (x ∷ []) h = refl
left_over (x ∷ y ∷ rest) h = ap (joined x (way_of y)) (left_over rest (omega arith)) ∙ no_rest (way_of y) x
