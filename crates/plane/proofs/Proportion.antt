-- Along a straight way every determinant changes evenly. So one that is 0 between two corners is 0 at both, or has opposite signs there.
use Rattle.std.proofs.Common.{◌≡◌, ℕ, suc, ◌+◌, ◌*◌, ◌<◌, true, ◌⊎◌, ap, ap₂, inl, inr, ⊎_elim, arith}
use Rattle.plane.specs.Corners.{Corner, corner, lefts, rights, between}
use Rattle.std.proofs.lemmas.Bool.{cases_order, cases_lt}
use Rattle.plane.proofs.Products.{product_le, product_lt, product_zero}
use Rattle.plane.proofs.Incidence.{between_cases, between_up, between_down}

-- a quantity that is u at a, v at b and w at m changes evenly on the way from a over m to b, which in some direction are at the numbers a, b and m
abbrev pub Evenly : (u v w a b m : ℕ) → Type 0
Evenly u v w a b m = u * b + v * m + w * a ≡ u * m + v * a + w * b

module _ (a b m : ℕ) where
  even_same : (c : ℕ) → Evenly c c c a b m
  even_same c = omega arith

  even_self : Evenly a b m a b m
  even_self = omega arith

  even_times : (c u v w : ℕ) → Evenly u v w a b m → Evenly (c * u) (c * v) (c * w) a b m
  even_times c u v w h = omega (arith, ap (λ (n : ℕ). c * n) h)

  even_by : (c u v w : ℕ) → Evenly u v w a b m → Evenly (u * c) (v * c) (w * c) a b m
  even_by c u v w h = omega (arith, ap (λ (n : ℕ). c * n) h)

  even_add : (u v w u₁ v₁ w₁ : ℕ) → Evenly u v w a b m → Evenly u₁ v₁ w₁ a b m → Evenly (u + u₁) (v + v₁) (w + w₁) a b m
  even_add u v w u₁ v₁ w₁ h k = omega arith

  -- what is the sum of a constant and of multiples of two quantities that change evenly
  even_sum :
      (c k k₁ u v w u₁ v₁ w₁ : ℕ) → Evenly u v w a b m → Evenly u₁ v₁ w₁ a b m →
      Evenly (c + k * u + u₁ * k₁) (c + k * v + v₁ * k₁) (c + k * w + w₁ * k₁) a b m
  even_sum c k k₁ u v w u₁ v₁ w₁ h h₁ =
      even_add (c + k * u) (c + k * v) (c + k * w) (u₁ * k₁) (v₁ * k₁) (w₁ * k₁)
      (even_add c c c (k * u) (k * v) (k * w) (even_same c) (even_times k u v w h)) (even_by k₁ u₁ v₁ w₁ h₁)

-- OVER PLAIN NUMBERS: pairs (l, r) for a determinant l − r at a, b and m, which is 0 at m
module _ (la ra lb rb lm rm a b m : ℕ) (evenly : Evenly la lb lm a b m) (evenly₁ : Evenly ra rb rm a b m) (zero : lm ≡ rm) where
  shares : la * b + ra * m + (lb * m + rb * a) ≡ ra * b + la * m + (rb * m + lb * a)
  shares = omega (arith, ap (λ (n : ℕ). n * a) zero, ap (λ (n : ℕ). n * b) zero)

  lefts_meet : between a b m ≡ true → ra < la → rb < lb → a ≡ m
  lefts_meet held l l₁ =
      ⊎_elim (λ h. omega (arith, shares, product_le (suc ra) la m b l h.1, product_le (suc rb) lb a m l₁ h.0))
      (λ h. omega (arith, shares, product_le (suc ra) la b m l h.0, product_le (suc rb) lb m a l₁ h.1)) (between_cases a b m held)

  -- where it is positive at a and negative at b, m is between them
  left_right_between : ra < la → lb < rb → between a b m ≡ true
  left_right_between l r =
      ⊎_elim (λ h. one_place h) (⊎_elim (λ h. after h) (λ h. before h)) (cases_order a m)
    where
      one_place : a ≡ m → between a b m ≡ true
      one_place h = ⊎_elim (λ k. between_down a b m (omega arith) (omega arith)) (λ k. between_up a b m (omega arith) k) (cases_lt b m)

      after : a < m → between a b m ≡ true
      after h =
          ⊎_elim (λ k. absurd (omega (arith, shares, product_le ra la b m (omega arith) (omega arith), product_lt lb rb a m r h)))
          (λ k. between_up a b m (omega arith) k) (cases_lt b m)

      before : m < a → between a b m ≡ true
      before h =
          ⊎_elim (λ k. between_down a b m (omega arith) (omega arith))
          (λ k. absurd (omega (arith, shares, product_le ra la m b (omega arith) k, product_lt lb rb m a r h))) (cases_lt b m)

  zero_at_other : la ≡ ra → (lb ≡ rb) ⊎ (a ≡ m)
  zero_at_other e = product_zero lb rb a m (omega (arith, shares, ap (λ (n : ℕ). n * b) e, ap (λ (n : ℕ). n * m) e))

  zero_at_one : lb ≡ rb → (la ≡ ra) ⊎ (m ≡ b)
  zero_at_one e = product_zero la ra m b (omega (arith, shares, ap (λ (n : ℕ). n * a) e, ap (λ (n : ℕ). n * m) e))

-- what is so, or else two corners agree in x, and in y
both_agree : {D : Type 0} (a m : Corner) → D ⊎ (a.x ≡ m.x) → D ⊎ (a.y ≡ m.y) → D ⊎ (a ≡ m)
both_agree a m (inl d) t = inl d
both_agree a m (inr h) (inl d) = inl d
both_agree a m (inr h) (inr k) = inr (ap₂ corner h k)

-- m is in line with a and b, and with p and q
module _ (a b m p q : Corner) (line : lefts a b m ≡ rights a b m) (zero : lefts p q m ≡ rights p q m) where
  lefts_x : Evenly (lefts p q a) (lefts p q b) (lefts p q m) a.x b.x m.x
  lefts_x =
      even_sum a.x b.x m.x (p.x * q.y) q.x p.y a.y b.y m.y a.x b.x m.x (omega (arith, line))
      (even_self a.x b.x m.x)

  rights_x : Evenly (rights p q a) (rights p q b) (rights p q m) a.x b.x m.x
  rights_x =
      even_sum a.x b.x m.x (p.y * q.x) q.y p.x a.x b.x m.x a.y b.y m.y (even_self a.x b.x m.x)
      (omega (arith, line))

  lefts_y : Evenly (lefts p q a) (lefts p q b) (lefts p q m) a.y b.y m.y
  lefts_y =
      even_sum a.y b.y m.y (p.x * q.y) q.x p.y a.y b.y m.y a.x b.x m.x (even_self a.y b.y m.y)
      (omega (arith, line))

  rights_y : Evenly (rights p q a) (rights p q b) (rights p q m) a.y b.y m.y
  rights_y =
      even_sum a.y b.y m.y (p.y * q.x) q.y p.x a.x b.x m.x a.y b.y m.y (omega (arith, line))
      (even_self a.y b.y m.y)

  -- where a is in line with p and q, b is too, unless a is m
  pub other_in_line : lefts p q a ≡ rights p q a → (lefts p q b ≡ rights p q b) ⊎ (a ≡ m)
  other_in_line e =
      both_agree a m
      (zero_at_other (lefts p q a) (rights p q a) (lefts p q b) (rights p q b) (lefts p q m) (rights p q m) a.x b.x m.x lefts_x rights_x zero e)
      (zero_at_other (lefts p q a) (rights p q a) (lefts p q b) (rights p q b) (lefts p q m) (rights p q m) a.y b.y m.y lefts_y rights_y zero e)

  -- and the other way round
  pub one_in_line : lefts p q b ≡ rights p q b → (lefts p q a ≡ rights p q a) ⊎ (m ≡ b)
  one_in_line e =
      both_agree m b
      (zero_at_one (lefts p q a) (rights p q a) (lefts p q b) (rights p q b) (lefts p q m) (rights p q m) a.x b.x m.x lefts_x rights_x zero e)
      (zero_at_one (lefts p q a) (rights p q a) (lefts p q b) (rights p q b) (lefts p q m) (rights p q m) a.y b.y m.y lefts_y rights_y zero e)

  -- where a is left of the line from p to q, and b right of it, m is between them
  pub parted_between : rights p q a < lefts p q a → lefts p q b < rights p q b → (between a.x b.x m.x ≡ true) × (between a.y b.y m.y ≡ true)
  parted_between h k = (
    left_right_between (lefts p q a) (rights p q a) (lefts p q b) (rights p q b) (lefts p q m) (rights p q m) a.x b.x m.x lefts_x rights_x zero h k,
    left_right_between (lefts p q a) (rights p q a) (lefts p q b) (rights p q b) (lefts p q m) (rights p q m) a.y b.y m.y lefts_y rights_y zero h k,
  )

  module _ (held_x : between a.x b.x m.x ≡ true) (held_y : between a.y b.y m.y ≡ true) where
    -- a and b, with m between them, are not both left of the line from p to q, unless they are m
    pub both_left : rights p q a < lefts p q a → rights p q b < lefts p q b → a ≡ m
    both_left h k =
        ap₂ corner
        (lefts_meet (lefts p q a) (rights p q a) (lefts p q b) (rights p q b) (lefts p q m) (rights p q m) a.x b.x m.x lefts_x rights_x zero
        held_x h k)
        (lefts_meet (lefts p q a) (rights p q a) (lefts p q b) (rights p q b) (lefts p q m) (rights p q m) a.y b.y m.y lefts_y rights_y zero
        held_y h k)

-- nor both right of it
pub both_right :
    (a b m p q : Corner) → lefts a b m ≡ rights a b m → lefts p q m ≡ rights p q m → between a.x b.x m.x ≡ true →
    between a.y b.y m.y ≡ true → lefts p q a < rights p q a → lefts p q b < rights p q b → a ≡ m
both_right a b m p q line zero held_x held_y h k =
    both_left a b m q p line (omega (arith, zero)) held_x held_y (omega (arith, h)) (omega (arith, k))
