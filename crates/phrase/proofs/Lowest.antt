-- Decimals in lowest terms.
use Rattle.std.proofs.Common.{◌≡◌, ℕ, ◌/◌, ◌^◌, ◌<◌, ◌≤◌, Some, None, ◌∙◌, le-div_iff_mul-le, arith, lit<}
use native.Mathlib.Nat.{div_self, zero-div, one-le-pow, pow-le-pow_right}
use Rattle.std.proofs.lemmas.Bool.{ne_eqb, le-ltb, cond-false}
use Rattle.phrase.specs.declared.word.Word.TheVariants.{Fraction}
use Rattle.phrase.specs.Numbers.{common, lowest}
use Rattle.phrase.proofs.Euclid.{common_some, common_most, common_none}

-- ten to the power of at most 25 fits 128 bits
pub few_places : (k : ℕ) → k ≤ 25 → 10 ^ k < 2 ^ 128
few_places k h =
    let most : 10 ^ k ≤ 10 ^ 25 = pow-le-pow_right (lit< tt) h in
    omega arith

-- zero is 0/1, however many places are written
pub zero_lowest : (k : ℕ) → lowest 0 (10 ^ k) ≡ Some (Fraction 0 1)
zero_lowest k =
    let some : 0 < 10 ^ k = one-le-pow k 10 (lit< tt) in
    let all : common 0 (10 ^ k) ≡ 10 ^ k = common_none (10 ^ k) some in
    cond-false _ _ _ (ne_eqb (10 ^ k) 0 (λ e. omega arith)) ∙ rw (all, div_self some, zero-div (10 ^ k))

-- 26 places and more: the denominator in lowest terms is 2^20 or more, since at most 2^64 cancels
pub long_decimal : (n k : ℕ) → 0 < n → n < 2 ^ 64 → 26 ≤ k → lowest n (10 ^ k) ≡ None
long_decimal n k some small long =
    let most : 10 ^ 26 ≤ 10 ^ k = pow-le-pow_right (lit< tt) long in
    let g = common n (10 ^ k) in
    let above : 0 < g = common_some n (10 ^ k) (omega arith) in
    let below : g ≤ n = common_most n (10 ^ k) some (omega arith) in
    let large : 2 ^ 20 ≤ 10 ^ k / g = (le-div_iff_mul-le above).1 (omega arith) in
    cond-false _ _ _ (ne_eqb (10 ^ k) 0 (λ e. omega arith)) ∙ cond-false _ _ _ (le-ltb (10 ^ k / g) (2 ^ 20) large)
