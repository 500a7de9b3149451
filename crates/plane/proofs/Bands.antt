-- Where an edge and a segment may lie to each other, by bands of height: not above the segment's lower end, between its ends, above its upper one. Over plain
-- numbers: heights, and a pair (l, r) for each of the four determinants l − r.
use Rattle.std.proofs.Common.{◌≡◌, ℕ, ◌*◌, ◌<◌, ◌≤◌, Bool, ◌&&◌, ltb, leb, ◌⊎◌, sym, ap, ⊎_elim, arith}
use Rattle.std.proofs.lemmas.Bool.{cases_lt}
use Rattle.std.proofs.lemmas.Bool.Decides.{nat_tests}
use Rattle.plane.specs.Lists.{or}
use Rattle.plane.specs.Parity.{xor}
use Rattle.plane.proofs.Products.{product_zero}
use Rattle.plane.proofs.Turns.{Balance}
use Rattle.plane.proofs.Levers.{Lever, both_above, both_below, both_below', right_below, left_above, all_level, left_past, right_past}

-- an edge from height ay to height by is crossed at the height cy, its determinant with the point being l − r
abbrev pub passes : (ay by cy l r : ℕ) → Bool
passes ay by cy l r = or ((leb ay cy && ltb cy by) && ltb r l) ((leb by cy && ltb cy ay) && ltb l r)

-- two determinants have opposite signs
abbrev pub opposite : (l r l₁ r₁ : ℕ) → Bool
opposite l r l₁ r₁ = or (ltb r l && ltb l₁ r₁) (ltb l r && ltb r₁ l₁)

-- a corner of height h is between the heights of the segment and on its right
abbrev pub beyond : (h py qy l r : ℕ) → Bool
beyond h py qy l r = (ltb py h && leb h qy) && ltb l r

abbrev pub Carried : (la ra lb rb lp rp lq rq ay by py qy : ℕ) → Type 0
Carried la ra lb rb lp rp lq rq ay by py qy =
    xor (passes ay by py lp rp) (passes ay by qy lq rq)
    ≡ xor (xor (beyond ay py qy la ra) (beyond by py qy lb rb)) (opposite lp rp lq rq && opposite la ra lb rb)

module _ (la ra lb rb lp rp lq rq ay by py qy : ℕ) (bal : Balance la ra lb rb lp rp lq rq) (low : Lever la ra lb rb lp rp ay by py py qy) (high : Lever la ra lb rb lq rq ay by qy py qy) (up : py ≤ qy) where
  -- the edge is above the segment
  both_high : qy < ay → qy < by → Carried la ra lb rb lp rp lq rq ay by py qy
  both_high ya yb =
      let p₁ : la < ra → rb < lb → rp < lp = λ a b. both_above la ra lb rb lp rp ay by py py qy low up a b (omega arith) (omega arith) in
      let p₂ : ra < la → lb < rb → lp < rp = λ a b. both_above ra la rb lb rp lp ay by py py qy (sym low) up a b (omega arith) (omega arith) in
      let q₁ : la < ra → rb < lb → rq < lq = λ a b. both_above la ra lb rb lq rq ay by qy py qy high up a b (omega arith) (omega arith) in
      let q₂ : ra < la → lb < rb → lq < rq = λ a b. both_above ra la rb lb rq lq ay by qy py qy (sym high) up a b (omega arith) (omega arith) in
      grind (arith, nat_tests)

  -- the edge is below the segment
  both_low : ay ≤ py → by ≤ py → (py ≡ qy → ay ≡ py → la ≡ ra) → Carried la ra lb rb lp rp lq rq ay by py qy
  both_low ya yb flat =
      let p₁ : la < ra → rb < lb → rp < lp → la ≡ ra = λ a b p. let w = all_level la ra lb rb lp rp lq rq ay by py qy bal low up a b p ya yb in flat w.0 w.1 in
      let p₂ : ra < la → lb < rb → lp < rp → la ≡ ra = λ a b p. let w = all_level ra la rb lb rp lp rq lq ay by py qy (sym bal) (sym low) up a b p ya yb in flat w.0 w.1 in
      grind (arith, nat_tests)

  -- the edge comes from below into the middle
  low_middle : ay ≤ py → py < by → by ≤ qy → (lp ≡ rp → ⊥) → (lb ≡ rb → ⊥) → Carried la ra lb rb lp rp lq rq ay by py qy
  low_middle ya yb yq p b =
      let q₁ : la < ra → rb < lb → lq < rq = λ a b. both_below' la ra lb rb lq rq ay by qy py qy high up a b (omega arith) (omega arith) in
      let q₂ : ra < la → lb < rb → rq < lq = λ a b. both_below' ra la rb lb rq lq ay by qy py qy (sym high) up a b (omega arith) (omega arith) in
      let a₁ : rp < lp → rb < lb → la < ra = λ z b. right_below la ra lb rb lp rp ay by py py qy low up ya yb (omega arith) z b in
      let a₂ : lp < rp → lb < rb → ra < la = λ z b. right_below ra la rb lb rp lp ay by py py qy (sym low) up ya yb (omega arith) z b in
      grind (arith, nat_tests)

  -- the edge goes from the middle upward out of it
  middle_high : py < ay → ay ≤ qy → qy < by → (lq ≡ rq → ⊥) → (la ≡ ra → ⊥) → Carried la ra lb rb lp rp lq rq ay by py qy
  middle_high ya yq yb q a =
      let p₁ : la < ra → rb < lb → rp < lp = λ a b. both_above la ra lb rb lp rp ay by py py qy low up a b (omega arith) (omega arith) in
      let p₂ : ra < la → lb < rb → lp < rp = λ a b. both_above ra la rb lb rp lp ay by py py qy (sym low) up a b (omega arith) (omega arith) in
      let b₁ : lq < rq → la < ra → rb < lb = λ z a. left_above la ra lb rb lq rq ay by qy py qy high up yq yb z a in
      let b₂ : rq < lq → ra < la → lb < rb = λ z a. left_above ra la rb lb rq lq ay by qy py qy (sym high) up yq yb z a in
      grind (arith, nat_tests)

  -- the edge goes up past the whole segment; and where that is level, it does not begin between the segment's ends
  low_high :
      ay ≤ py → qy < by → (lp ≡ rp → ⊥) → (lq ≡ rq → ⊥) → (py ≡ qy → ay ≡ py → rp < lp → lq < rq → ⊥) →
      (py ≡ qy → ay ≡ py → lp < rp → rq < lq → ⊥) → Carried la ra lb rb lp rp lq rq ay by py qy
  low_high ya yb p q off₁ off₂ =
      let b₁ : rp < lp → lq < rq → rb < lb = λ c d. left_past la ra lb rb lp rp lq rq ay by py qy bal low high up c d ya yb in
      let b₂ : lp < rp → rq < lq → lb < rb = λ c d. left_past ra la rb lb rp lp rq lq ay by py qy (sym bal) (sym low) (sym high) up c d ya yb in
      let a₁ : rp < lp → lq < rq → la < ra =
      λ c d. right_past la ra lb rb lp rp lq rq ay by py qy bal low high up c d ya yb (λ u v. off₁ u v c d)
      in
      let a₂ : lp < rp → rq < lq → ra < la =
      λ c d. right_past ra la rb lb rp lp rq lq ay by py qy (sym bal) (sym low) (sym high) up c d ya yb (λ u v. off₂ u v c d)
      in
      grind (arith, nat_tests)

  -- the edge is in the middle; and where it is level at the segment's upper end, that is not between its ends
  both_middle :
      py < ay → ay ≤ qy → py < by → by ≤ qy → (la ≡ ra → ⊥) → (lb ≡ rb → ⊥) → (ay ≡ qy → by ≡ qy → la < ra → rb < lb → ⊥) →
      (ay ≡ qy → by ≡ qy → ra < la → lb < rb → ⊥) → Carried la ra lb rb lp rp lq rq ay by py qy
  both_middle ya ka yb kb a b off₁ off₂ =
      let p₁ : la < ra → rb < lb → rp < lp = λ c d. both_above la ra lb rb lp rp ay by py py qy low up c d (omega arith) (omega arith) in
      let p₂ : ra < la → lb < rb → lp < rp = λ c d. both_above ra la rb lb rp lp ay by py py qy (sym low) up c d (omega arith) (omega arith) in
      let q₁ : la < ra → rb < lb → ay < qy → lq < rq = λ c d u. both_below' la ra lb rb lq rq ay by qy py qy high up c d u kb in
      let q₂ : ra < la → lb < rb → ay < qy → rq < lq = λ c d u. both_below' ra la rb lb rq lq ay by qy py qy (sym high) up c d u kb in
      let q₃ : la < ra → rb < lb → by < qy → lq < rq = λ c d u. both_below la ra lb rb lq rq ay by qy py qy high up c d ka u in
      let q₄ : ra < la → lb < rb → by < qy → rq < lq = λ c d u. both_below ra la rb lb rq lq ay by qy py qy (sym high) up c d ka u in
      grind (arith, nat_tests)

  -- the edge rises, or is level, anywhere; and none of the four corners is where the other two would have it on their line
  pub rising :
      ay ≤ by → (ay ≤ py → py < by → lp ≡ rp → ⊥) → (ay ≤ qy → qy < by → lq ≡ rq → ⊥) → (py < ay → ay ≤ qy → la ≡ ra → ⊥) →
      (py < by → by ≤ qy → lb ≡ rb → ⊥) → (py ≡ qy → ay ≡ py → la ≡ ra) → (py ≡ qy → ay ≡ py → rp < lp → lq < rq → ⊥) →
      (py ≡ qy → ay ≡ py → lp < rp → rq < lq → ⊥) → (ay ≡ qy → by ≡ qy → la < ra → rb < lb → ⊥) → (ay ≡ qy → by ≡ qy → ra < la → lb < rb → ⊥) →
      Carried la ra lb rb lp rp lq rq ay by py qy
  rising rise p q a b flat foot₁ foot₂ top₁ top₂ = ⊎_elim above below (cases_lt py ay)
    where
      above : py < ay → Carried la ra lb rb lp rp lq rq ay by py qy
      above ya =
          ⊎_elim (λ ka. both_high ka (omega arith))
          (λ ka.
          ⊎_elim (λ kb. middle_high ya ka kb (q ka kb) (a ya ka))
          (λ kb. both_middle ya ka (omega arith) kb (a ya ka) (b (omega arith) kb) top₁ top₂) (cases_lt qy by))
          (cases_lt qy ay)

      below : ay ≤ py → Carried la ra lb rb lp rp lq rq ay by py qy
      below ya =
          ⊎_elim
          (λ yb.
          ⊎_elim (λ kb. low_high ya kb (p ya yb) (q (omega arith) kb) foot₁ foot₂) (λ kb. low_middle ya yb kb (p ya yb) (b yb kb))
          (cases_lt qy by))
          (λ yb. both_low ya yb flat) (cases_lt py by)

-- where a and b are in line with p and q, so are p and q with a and b, unless p and q are one
pub all_in_line :
    (la ra lb rb lp rp lq rq ay by py qy : ℕ) → Balance la ra lb rb lp rp lq rq → Lever la ra lb rb lp rp ay by py py qy → la ≡ ra → lb ≡ rb →
    Carried la ra lb rb lp rp lq rq ay by py qy
all_in_line la ra lb rb lp rp lq rq ay by py qy bal low a b =
    let both : (lp ≡ rp) ⊎ (py ≡ qy) =
    product_zero lp rp py qy
    (omega (arith, ap (λ (n : ℕ). n * by) a, ap (λ (n : ℕ). n * py) a, ap (λ (n : ℕ). n * ay) b, ap (λ (n : ℕ). n * py) b))
    in
    grind (arith, nat_tests)
