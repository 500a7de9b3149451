-- Turns told by the difference of two numbers, and by areas.
use Rattle.std.proofs.Common.{◌≡◌, ℕ, ◌+◌, ◌*◌, ◌<◌, ◌≤◌, ℤ, ap, arith}
use native.Mathlib.Nat.{mul-lt-mul_of_pos_left}
use Rattle.std.proofs.lemmas.Bool.{lt-ltb, le-ltb, eq-eqb, ne_eqb}
use Rattle.plane.specs.Corners.{Corner, grown, lefts, rights}
use Rattle.plane.specs.Code.{TurnsSo}
use Rattle.plane.specs.Areas.{above, below, Leans}
use Rattle.plane.specs.declared.turning.Turn.{Turn}
use Rattle.plane.specs.declared.turning.Turn.TheVariants.{Left, Right, Straight}

-- the determinant is l - r: three corners turn to the side of the larger one
pub leans_turn : (t : Turn) (a b c : Corner) (l r : ℕ) → lefts a b c + r ≡ rights a b c + l → Leans l r t → TurnsSo a b c t
leans_turn Left a b c l r e h =
    let k : rights a b c < lefts a b c = omega (arith, e) in
    (lt-ltb (rights a b c) (lefts a b c) k, le-ltb (lefts a b c) (rights a b c) (omega (arith, k)), ne_eqb (lefts a b c) (rights a b c) (λ s. omega (arith, k, s)))
leans_turn Right a b c l r e h =
    let k : lefts a b c < rights a b c = omega (arith, e) in
    (le-ltb (rights a b c) (lefts a b c) (omega (arith, k)), lt-ltb (lefts a b c) (rights a b c) k, ne_eqb (lefts a b c) (rights a b c) (λ s. omega (arith, k, s)))
leans_turn Straight a b c l r e h =
    let k : lefts a b c ≡ rights a b c = omega (arith, e) in
    (le-ltb (rights a b c) (lefts a b c) (omega (arith, k)), le-ltb (lefts a b c) (rights a b c) (omega (arith, k)), eq-eqb (lefts a b c) (rights a b c) k)

-- grown alike, two numbers lean the same way
pub leans_times : (t : Turn) (w l r : ℕ) → 1 ≤ w → Leans l r t → Leans (w * l) (w * r) t
leans_times Left w l r pos h = mul-lt-mul_of_pos_left h pos
leans_times Right w l r pos h = mul-lt-mul_of_pos_left h pos
leans_times Straight w l r pos h = ap (λ n. w * n) h

-- THE TWO AREAS beside the way from a over b to c: (bx - ax) * (cy - ay) and (by - ay) * (cx - ax)
module _ (l r : ℤ) (a b c : Corner)
    (left : above l + (a.x * c.y + b.x * a.y) ≡ below l + (a.x * a.y + b.x * c.y))
    (right : above r + (a.y * c.x + b.y * a.x) ≡ below r + (a.y * a.x + b.y * c.x)) (t : Turn) (h : Leans (above l + below r) (above r + below l) t) where
  pub areas_turn : TurnsSo a b c t
  areas_turn = leans_turn t a b c (above l + below r) (above r + below l) (omega (arith, left, right)) h

-- the same for corners grown w times, with differences of the corners as they were
module _ (l r : ℤ) (w : ℕ) (pos : 1 ≤ w) (a b c : Corner)
    (left : above l + (a.x * c.y + b.x * (w * a.y)) ≡ below l + (a.x * (w * a.y) + b.x * c.y))
    (right : above r + (a.y * c.x + b.y * (w * a.x)) ≡ below r + (a.y * (w * a.x) + b.y * c.x)) (t : Turn) (h : Leans (above l + below r) (above r + below l) t) where
  pub grown_turn : TurnsSo (grown w a) (grown w b) c t
  grown_turn =
      leans_turn t (grown w a) (grown w b) c (w * (above l + below r)) (w * (above r + below l)) (omega (arith, ap (λ n. w * n) left, ap (λ n. w * n) right))
      (leans_times t w (above l + below r) (above r + below l) pos h)
