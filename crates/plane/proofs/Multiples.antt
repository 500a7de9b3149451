-- Common multiples of all even numbers up to a bound.
use Rattle.std.proofs.Common.{◌≡◌, ℕ, zero, suc, ◌*◌, ◌/◌, ◌%◌, ◌≤◌, ap, ◌∙◌, ⊎_elim, mul_assoc, mul-pos, arith}
use native.Mathlib.Nat.{mul-mod_left, mul-mod_right, mod-add-div}
use Rattle.std.proofs.lemmas.Bool.{cases_lt}
use Rattle.plane.specs.Multiples.{DividesAll}

-- a multiple of a multiple of m is one of m
multiple_times : (m a b : ℕ) → a % m ≡ 0 → (a * b) % m ≡ 0
multiple_times m a b h = ap (λ z. (z * b) % m) whole ∙ ap (λ z. z % m) (mul_assoc m (a / m) b) ∙ mul-mod_right m (a / m * b)
  where
    whole : a ≡ m * (a / m)
    whole = omega (arith, mod-add-div a m)

-- there is a multiple of 2, 4, 6 and so on up to 2 * n: their product
pub common_multiple : (n : ℕ) → (d : ℕ) × (1 ≤ d) × DividesAll d n
unfolding DividesAll
common_multiple zero = (1, omega arith, λ h above high. absurd (omega arith))
common_multiple (suc n) = one_more n (common_multiple n)
  where
    one_more : (m : ℕ) → (d : ℕ) × (1 ≤ d) × DividesAll d m → (d : ℕ) × (1 ≤ d) × DividesAll d (suc m)
    one_more m rest = (rest.0 * (2 * suc m), mul-pos rest.1 (omega arith), each)
      where
        each : (h : ℕ) → 1 ≤ h → h ≤ suc m → (rest.0 * (2 * suc m)) % (2 * h) ≡ 0
        each h above high =
            ⊎_elim (λ l. multiple_times (2 * h) rest.0 (2 * suc m) (rest.2 h above (omega arith)))
            (λ l. let last : suc m ≡ h = omega arith in ap (λ z. (rest.0 * (2 * z)) % (2 * h)) last ∙ mul-mod_left rest.0 (2 * h)) (cases_lt h (suc m))
