-- Products of two differences, told without differences.
use Rattle.std.proofs.Common.{◌≡◌, ℕ, suc, ◌+◌, ◌*◌, ◌<◌, ◌≤◌, true, false, leb, ℤ, pos, negsuc, ◌*ℤ◌, ap, arith, w64, SFits}
use borrow.Author.Differences.{ints, product_is}
use mathlib.Core.Bool.{beq}
use Rattle.std.specs.Int.{abs_diff}
use Rattle.std.proofs.lemmas.Nat.{mul-lt}
use Rattle.plane.specs.Areas.{above, below}

-- u * v, multiplied out, where u is b - a and v is d - c
spread : (a b c d u v : ℕ) → b ≡ a + u → d ≡ c + v → u * v + (a * d + b * c) ≡ a * c + b * d
spread a b c d u v e f = omega (arith, ap (λ n. a * n) f, ap (λ n. n * c) e, ap (λ n. b * n) f, ap (λ n. n * v) e)

module _ (a b c d u v : ℕ) (e : u ≡ abs_diff a b) (f : v ≡ abs_diff c d) where
  -- where u and v are the sizes of the two differences, the product is added if both go the same way
  pub spread_alike : beq (leb a b) (leb c d) ≡ true → u * v + (a * d + b * c) ≡ a * c + b * d
  spread_alike alike =
      let forth : a ≤ b → c ≤ d → u * v + (a * d + b * c) ≡ a * c + b * d = λ h k. spread a b c d u v (omega arith) (omega arith) in
      let back : b < a → d < c → u * v + (a * d + b * c) ≡ a * c + b * d = λ h k. omega (arith, spread b a d c u v (omega arith) (omega arith)) in
      grind (arith, forth, back)

  -- and taken away if they do not
  pub spread_apart : beq (leb a b) (leb c d) ≡ false → a * d + b * c ≡ u * v + (a * c + b * d)
  spread_apart apart =
      let forth : a ≤ b → d < c → a * d + b * c ≡ u * v + (a * c + b * d) = λ h k. omega (arith, spread a b d c u v (omega arith) (omega arith)) in
      let back : b < a → c ≤ d → a * d + b * c ≡ u * v + (a * c + b * d) = λ h k. omega (arith, spread b a c d u v (omega arith) (omega arith)) in
      grind (arith, forth, back)

-- the difference of two numbers below m is below m in size
size : (z : ℤ) (a b m : ℕ) → above z + a ≡ below z + b → a < m → b < m → (above z < m) × (below z < m)
size (pos n) a b m e h k = (omega arith, omega arith)
size (negsuc n) a b m e h k = (omega arith, omega arith)

module _ (y z : ℤ) (a b c d : ℕ) (e : above y + a ≡ below y + b) (f : above z + c ≡ below z + d) where
  -- the same with signs: y is b - a, and z is d - c
  pub signed_spread : above (y *ℤ z) + (a * d + b * c) ≡ below (y *ℤ z) + (a * c + b * d)
  signed_spread =
      omega (arith, product_is y z, ap (λ n. n * above z) e, ap (λ n. n * below z) e, ap (λ n. a * n) f, ap (λ n. b * n) f)

  -- and it fits a word, where the sizes of the two differences say so
  pub span_fits : (m n : ℕ) → (a < m) × (b < m) → (c < n) × (d < n) → m * n < 9223372036854775808 → SFits w64 (y *ℤ z)
  span_fits m n h k l = fit y z (size y a b m e h.0 h.1) (size z c d n f k.0 k.1)
    where
      fit : (y z : ℤ) → (above y < m) × (below y < m) → (above z < n) × (below z < n) → SFits w64 (y *ℤ z)
      fit (pos i) (pos j) p q = omega (arith, ints, mul-lt i j m n p.0 q.0)
      fit (pos i) (negsuc j) p q = omega (arith, ints, mul-lt i (suc j) m n p.0 q.1)
      fit (negsuc i) (pos j) p q = omega (arith, ints, mul-lt (suc i) j m n p.1 q.0)
      fit (negsuc i) (negsuc j) p q = omega (arith, ints, mul-lt (suc i) (suc j) m n p.1 q.1)
