-- Products of orders: from them `omega` has the signs of determinants. Tests of numbers that are grown alike.
use Rattle.std.proofs.Common.{◌≡◌, ℕ, suc, ◌+◌, ◌-◌, ◌*◌, ◌<◌, ◌≤◌, eqb, ltb, leb, ◌⊎◌, sym, ap, subst₂, inl, inr, ⊎_elim, add-sub_of_le, mul-le-mul_left, arith}
use native.Mathlib.Nat.{mul-lt-mul_of_pos_left, le_of_mul-le-mul_left, lt_of_mul-lt-mul_left, eq_of_mul-eq-mul_left}
use Rattle.std.proofs.lemmas.Bool.{cases_lt, cases_order, ltb-true, leb-true, eqb-true, lt-ltb, le-leb, eq-eqb}
use Rattle.plane.proofs.Booleans.{same_from_both}

-- (b − a)(d − c) is not negative, with b and d as sums
product_le_by : (a c k l : ℕ) → a * (c + l) + (a + k) * c ≤ a * c + (a + k) * (c + l)
product_le_by a c k l = omega arith

-- (b − a)(d − c) is not negative
pub product_le : (a b c d : ℕ) → a ≤ b → c ≤ d → a * d + b * c ≤ a * c + b * d
product_le a b c d h k =
    subst₂ (λ (m n : ℕ). a * n + m * c ≤ a * c + m * n) (add-sub_of_le h) (add-sub_of_le k) (product_le_by a c (b - a) (d - c))

-- (b − a)(d − c) is positive
pub product_lt : (a b c d : ℕ) → a < b → c < d → a * d + b * c < a * c + b * d
product_lt a b c d h k = omega (arith, product_le (suc a) b (suc c) d h k)

-- the sign of a factor from that of the product: (l − r)(v − u) is positive, and v − u is not negative
pub product_sign : (l r u v : ℕ) → u ≤ v → r * v + l * u < l * v + r * u → r < l
product_sign l r u v h k = ⊎_elim (λ d. d) (λ d. absurd (product_absurd d)) (cases_lt r l)
  where
    product_absurd : l ≤ r → ⊥
    product_absurd d = omega (arith, product_le l r u v d h)

-- (l − r)(v − u) is 0 only if a factor is
pub product_zero : (l r u v : ℕ) → r * v + l * u ≡ l * v + r * u → (l ≡ r) ⊎ (u ≡ v)
product_zero l r u v e = ⊎_elim inl (⊎_elim (λ h. inr (less h)) (λ h. inr (more h))) (cases_order l r)
  where
    less : l < r → u ≡ v
    less h =
        ⊎_elim (λ d. d) (⊎_elim (λ k. absurd (omega (arith, product_lt l r u v h k))) (λ k. absurd (omega (arith, product_lt l r v u h k))))
        (cases_order u v)

    more : r < l → u ≡ v
    more h =
        ⊎_elim (λ d. d) (⊎_elim (λ k. absurd (omega (arith, product_lt r l u v h k))) (λ k. absurd (omega (arith, product_lt r l v u h k))))
        (cases_order u v)

-- whether two numbers are the same does not depend on their order
pub eqb_comm : (a b : ℕ) → eqb a b ≡ eqb b a
eqb_comm a b = same_from_both _ _ (λ h. eq-eqb b a (sym (eqb-true a b h))) (λ h. eq-eqb a b (sym (eqb-true b a h)))

-- grown n times, two numbers compare as before
module _ (n : ℕ) (pos : 1 ≤ n) (a b : ℕ) where
  pub ltb_times : ltb (n * a) (n * b) ≡ ltb a b
  ltb_times =
      same_from_both _ _ (λ h. lt-ltb a b (lt_of_mul-lt-mul_left n (ltb-true (n * a) (n * b) h)))
      (λ h. lt-ltb (n * a) (n * b) (mul-lt-mul_of_pos_left (ltb-true a b h) pos))

  pub leb_times : leb (n * a) (n * b) ≡ leb a b
  leb_times =
      same_from_both _ _ (λ h. le-leb a b (le_of_mul-le-mul_left (leb-true (n * a) (n * b) h) pos))
      (λ h. le-leb (n * a) (n * b) (mul-le-mul_left n (leb-true a b h)))

  pub eqb_times : eqb (n * a) (n * b) ≡ eqb a b
  eqb_times =
      same_from_both _ _ (λ h. eq-eqb a b (eq_of_mul-eq-mul_left n pos a b (eqb-true (n * a) (n * b) h)))
      (λ h. eq-eqb (n * a) (n * b) (ap (λ (m : ℕ). n * m) (eqb-true a b h)))
