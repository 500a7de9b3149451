-- Euclid's rule: how many turns it is given does not matter, if they suffice.
use Rattle.std.proofs.Common.{◌≡◌, ℕ, zero, suc, ◌/◌, ◌%◌, ◌<◌, ◌≤◌, eqb, sym, refl, ◌∙◌, ⊎_elim, mod-lt, mod-eq_of_lt, le-div_iff_mul-le, arith}
use Rattle.std.proofs.lemmas.Bool.{eq-eqb, eqb-true, eqb-false, ne_eqb, cases_Bool, cond-true, cond-false, cond_both}
use Rattle.phrase.specs.Numbers.{euclid, common}

-- with as many turns as the divisor or more, the outcome is one and the same
pub enough_turns : (k m a b : ℕ) → b ≤ k → b ≤ m → euclid k a b ≡ euclid m a b
unfolding euclid
enough_turns zero zero a b h g = refl
enough_turns zero (suc m) a b h g = sym (cond-true (eqb b 0) _ _ (eq-eqb b 0 (omega arith)))
enough_turns (suc k) zero a b h g = cond-true (eqb b 0) _ _ (eq-eqb b 0 (omega arith))
enough_turns (suc k) (suc m) a b h g =
    ⊎_elim
    (λ e. cond-true (eqb b 0) _ _ e ∙ sym (cond-true (eqb b 0) _ _ e))
    (λ e.
    let some : 0 < b = omega (arith, eqb-false b 0 e) in
    let less : a % b < b = mod-lt a some in
    cond-false (eqb b 0) _ _ e ∙ enough_turns k m b (a % b) (omega arith) (omega arith) ∙ sym (cond-false (eqb b 0) _ _ e))
    (cases_Bool (eqb b 0))

-- one turn
pub common_turn : (a b : ℕ) → 0 < b → common b (a % b) ≡ common a b
unfolding euclid common
common_turn a zero some = absurd (omega arith)
common_turn a (suc b) some =
    let less : a % suc b < suc b = mod-lt a some in
    enough_turns (a % suc b) b (suc b) (a % suc b) (omega arith) (omega arith) ∙ sym (cond-false (eqb (suc b) 0) _ _ (ne_eqb (suc b) 0 (λ e. omega arith)))

-- nothing is left to divide by
pub common_end : (a : ℕ) → common a 0 ≡ a
unfolding euclid common
common_end a = refl

-- Euclid's rule never comes to 0 from a number above it
euclid_some : (k a b : ℕ) → 0 < a → 0 < euclid k a b
unfolding euclid
euclid_some zero a b h = h
euclid_some (suc k) a b h = cond_both (eqb b 0) a (euclid k b (a % b)) (λ x. 0 < x) (λ e. h) (λ e. euclid_some k b (a % b) (omega (arith, eqb-false b 0 e)))

-- nor above what is divided by
euclid_most : (k a b : ℕ) → 0 < k → 0 < b → euclid k a b ≤ b
unfolding euclid
euclid_most zero a b h g = absurd (omega arith)
euclid_most (suc zero) a b h g = cond_both (eqb b 0) a b (λ x. x ≤ b) (λ e. absurd (omega (arith, eqb-true b 0 e))) (λ e. omega arith)
euclid_most (suc (suc k)) a b h g =
    cond_both (eqb b 0) a (euclid (suc k) b (a % b)) (λ x. x ≤ b) (λ e. absurd (omega (arith, eqb-true b 0 e)))
    (λ e.
    ⊎_elim
    (λ z. omega (arith, cond-true (eqb (a % b) 0) b (euclid k (a % b) (b % (a % b))) z))
    (λ z.
    let some : 0 < a % b = omega (arith, eqb-false (a % b) 0 z) in
    let less : a % b < b = mod-lt a g in
    omega (arith, euclid_most (suc k) b (a % b) (omega arith) some))
    (cases_Bool (eqb (a % b) 0)))

pub common_some : (a b : ℕ) → 0 < b → 0 < common a b
unfolding common
common_some a b h =
    let less : a % b < b = mod-lt a h in
    rw (← common_turn a b h) (euclid_some (a % b) b (a % b) h)

-- a common divisor of a number below the other is no greater than it
pub common_most : (a b : ℕ) → 0 < a → a < b → common a b ≤ a
unfolding common
common_most a b some less =
    let same : a % b ≡ a = mod-eq_of_lt less in
    rw (← common_turn a b (omega arith), same) (euclid_most a b a some some)

pub common_none : (b : ℕ) → 0 < b → common 0 b ≡ b
common_none b some =
    let same : 0 % b ≡ 0 = mod-eq_of_lt some in
    rw (← common_turn 0 b some, same) (common_end b)

pub common_below : (a b : ℕ) → 0 < b → common a b ≤ b
unfolding common
common_below a b h = euclid_most b a b h h

-- in lowest terms no denominator is 0
pub lowest_some : (a b : ℕ) → 0 < b → 0 < b / common a b
lowest_some a b h = (le-div_iff_mul-le (common_some a b h)).1 (omega (arith, common_below a b h))
