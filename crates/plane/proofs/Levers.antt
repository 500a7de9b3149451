-- Signs of the four determinants of an edge and a segment, from where their heights stand. Over plain numbers: heights, and a pair (l, r) for each determinant
-- l − r.
use Rattle.std.proofs.Common.{◌≡◌, ℕ, ◌+◌, ◌*◌, ◌<◌, ◌≤◌, ap, ⊎_elim, le_of_lt, arith}
use Rattle.std.proofs.lemmas.Bool.{cases_lt}
use Rattle.plane.proofs.Products.{product_le, product_lt, product_sign}
use Rattle.plane.proofs.Turns.{Balance, Weighed}

-- the heights ay and by seen from the level h: D p q b · (ay − h) − D p q a · (by − h) is z · (qy − py), where z is D a b p at h = py and D a b q at h = qy
abbrev pub Lever : (la ra lb rb lz rz ay by h py qy : ℕ) → Type 0
Lever la ra lb rb lz rz ay by h py qy =
    lb * ay + rb * h + (ra * by + la * h) + (rz * qy + lz * py) ≡ rb * ay + lb * h + (la * by + ra * h) + (lz * qy + rz * py)

module _ (la ra lb rb lp rp lq rq ay by py qy : ℕ) (bal : Balance la ra lb rb lp rp lq rq) (wei : Weighed la ra lb rb lp rp lq rq ay by py qy) where
  pub lever_low : Lever la ra lb rb lp rp ay by py py qy
  lever_low = omega (arith, ap (λ (n : ℕ). n * py) bal)

  pub lever_high : Lever la ra lb rb lq rq ay by qy py qy
  lever_high = omega (arith, ap (λ (n : ℕ). n * qy) bal)

module _ (la ra lb rb lz rz ay by h py qy : ℕ) (lever : Lever la ra lb rb lz rz ay by h py qy) (up : py ≤ qy) (right : la < ra) (left : rb < lb) where
  -- a right of the line and b left of it, neither of them below the level: z is on the left
  pub both_above : h < ay → h ≤ by → rz < lz
  both_above ya yb = product_sign lz rz py qy up (omega (arith, product_lt rb lb h ay left ya, product_le la ra h by (le_of_lt right) yb))

  -- neither of them above it: z is on the right
  pub both_below : ay ≤ h → by < h → lz < rz
  both_below ya yb = product_sign rz lz py qy up (omega (arith, product_le rb lb ay h (le_of_lt left) ya, product_lt la ra by h right yb))

  pub both_below' : ay < h → by ≤ h → lz < rz
  both_below' ya yb = product_sign rz lz py qy up (omega (arith, product_lt rb lb ay h left ya, product_le la ra by h (le_of_lt right) yb))

module _ (la ra lb rb lz rz ay by h py qy : ℕ) (lever : Lever la ra lb rb lz rz ay by h py qy) (up : py ≤ qy) (low : ay ≤ h) (high : h < by) where
  -- the edge goes up through the level: z and b on the left, then a on the right
  pub right_below : py < qy → rz < lz → rb < lb → la < ra
  right_below u z b = product_sign ra la h by (le_of_lt high) (omega (arith, product_lt rz lz py qy z u, product_le rb lb ay h (le_of_lt b) low))

  -- z and a on the right, then b on the left
  pub left_above : lz < rz → la < ra → rb < lb
  left_above z a = product_sign lb rb ay h low (omega (arith, product_le lz rz py qy (le_of_lt z) up, product_lt la ra h by a high))

module _ (la ra lb rb lp rp lq rq ay by py qy : ℕ) (bal : Balance la ra lb rb lp rp lq rq) (low : Lever la ra lb rb lp rp ay by py py qy) (up : py ≤ qy) where
  -- where p and q are on the two sides of the edge, a on the right, b on the left, neither higher than p: then all four stand at one height
  pub all_level : la < ra → rb < lb → rp < lp → ay ≤ py → by ≤ py → (py ≡ qy) × (ay ≡ py)
  all_level a b p ya yb =
      ⊎_elim (λ u. absurd (steep u))
      (λ u. (omega arith, ⊎_elim (λ d. absurd (deep (omega arith) d)) (λ d. omega arith) (cases_lt ay py))) (cases_lt py qy)
    where
      steep : py < qy → ⊥
      steep u = omega (arith, product_lt rp lp py qy p u, product_le rb lb ay py (le_of_lt b) ya, product_le la ra by py (le_of_lt a) yb)

      deep : py ≡ qy → ay < py → ⊥
      deep e d =
          omega
          (arith, product_lt rb lb ay py b d, product_le la ra by py (le_of_lt a) yb, ap (λ (n : ℕ). rp * n) e, ap (λ (n : ℕ). lp * n) e)

module _ (la ra lb rb lp rp lq rq ay by py qy : ℕ) (bal : Balance la ra lb rb lp rp lq rq) (low : Lever la ra lb rb lp rp ay by py py qy) (high : Lever la ra lb rb lq rq ay by qy py qy) (up : py ≤ qy) (p : rp < lp) (q : lq < rq) (ya : ay ≤ py) (yb : qy < by) where
  -- the edge goes up past the whole segment, p on its left and q on its right: then b is on the left of the line from p to q
  pub left_past : rb < lb
  left_past = ⊎_elim (λ d. d) (λ d. absurd (no_right d)) (cases_lt rb lb)
    where
      no_right : lb ≤ rb → ⊥
      no_right d =
          omega (arith, product_le lb rb ay qy d (omega arith), product_lt la ra qy by (omega arith) yb, product_le lq rq py qy (le_of_lt q) up)

  -- and a is on the right of it, unless a stands at the height of a level segment
  pub right_past : (py ≡ qy → ay ≡ py → ⊥) → la < ra
  right_past off = ⊎_elim (λ d. d) (λ d. absurd (off (level d) (foot d))) (cases_lt la ra)
    where
      lean : ra ≤ la → py < qy → ⊥
      lean d u =
          omega (arith, product_lt rp lp py qy p u, product_le rb lb ay py (le_of_lt left_past) ya, product_le ra la py by d (omega arith))

      level : ra ≤ la → py ≡ qy
      level d = ⊎_elim (λ u. absurd (lean d u)) (λ u. omega arith) (cases_lt py qy)

      deep : ra ≤ la → py ≡ qy → ay < py → ⊥
      deep d e u =
          omega
          (arith, product_lt rb lb ay py left_past u, product_le ra la py by d (omega arith), ap (λ (n : ℕ). rp * n) e, ap (λ (n : ℕ). lp * n) e)

      foot : ra ≤ la → ay ≡ py
      foot d = ⊎_elim (λ u. absurd (deep d (level d) u)) (λ u. omega arith) (cases_lt ay py)
