-- Where an edge passes the level line at height k + 1/2: a whole number of d-th parts from the west, if d is a multiple of twice the edge's height.
use Rattle.std.proofs.Common.{◌≡◌, ℕ, zero, suc, ◌+◌, ◌-◌, ◌*◌, ◌/◌, ◌<◌, ◌≤◌, Bool, true, false, ◌&&◌, eqb, ltb, leb, sym, refl, ap, ◌∙◌, ap₂, subst₂, ⊎_elim, add-sub_of_le, div-add-mod', zero-mul, mul_left_comm, arith}
use Rattle.std.proofs.lemmas.Bool.{and_parts, and_from, ltb-true, leb-true, eqb-true}
use Rattle.std.proofs.lemmas.Bool.Decides.{nat_tests}
use Rattle.plane.specs.Lists.{or}
use Rattle.plane.specs.Corners.{Corner, grown, lefts, rights, left_turn, in_line, between}
use Rattle.plane.specs.Edges.{Edge, edge, grown_edge, on_edge, rises, falls}
use Rattle.plane.specs.Multiples.{DividesAll}
use Rattle.plane.proofs.Booleans.{same_from_both, or_left, or_right, or_cases}
use Rattle.plane.proofs.Products.{ltb_times, leb_times, eqb_times}
use Rattle.plane.proofs.Growth.{between_grown}
use Rattle.plane.proofs.Sides.{on_edge_parts}
use Rattle.plane.proofs.Incidence.{on_steep}
use Rattle.plane.proofs.Reversal.{on_edge_reversed, rises_reversed}

-- the strip between the heights k and k + 1 is between the heights low and high
abbrev pub spans : ℕ → ℕ → ℕ → Bool
spans low high k = leb low k && ltb k high

-- how far east the way up from a to b is at height k + 1/2, in parts of which there are part * (2 * (b.y - a.y)) to one: the ends weigh by how near they are
abbrev weighted : ℕ → Corner → Corner → ℕ → ℕ
weighted part a b k = part * (a.x * (2 * (b.y - suc k) + 1) + b.x * (2 * (k - a.y) + 1))

-- the same in d-th parts
abbrev pub wall : ℕ → Corner → Corner → ℕ → ℕ
wall d a b k = weighted (d / (2 * (b.y - a.y))) a b k

-- THE SIDE OF THE WALL. In the numbers of the ends, a and b, and of a point at height k + 1/2, all made w times as large; m is 2 * k + 1
-- the two sums of the determinant, twice, have a factor w
doubled : (w ax ay bx by px py m : ℕ) → 2 * py ≡ w * m → 2 * (w * ax * (w * by) + w * bx * py + px * (w * ay))
    ≡ w * (2 * (w * (ax * by)) + bx * (w * m) + 2 * (px * ay))
doubled w ax ay bx by px py m mid = omega (arith, ap (λ z. w * bx * z) mid)

-- and their difference, made so much larger that the wall is whole, is that between the wall and the point; here a and b are i + 1/2 below and r + 1/2 above
weighed : (w part d ax bx ay px i r : ℕ) → part * (2 * (i + 1 + r)) ≡ d →
    part * (2 * (w * (ax * (ay + (i + 1 + r)))) + bx * (w * (2 * (ay + i) + 1)) + 2 * (px * ay)) + d * px
    ≡ part * (2 * (w * (bx * ay)) + ax * (w * (2 * (ay + i) + 1)) + 2 * (px * (ay + (i + 1 + r)))) + w * (part * (ax * (2 * r + 1) + bx * (2 * i + 1)))
weighed w part d ax bx ay px i r whole = omega (arith, ap (λ z. px * z) whole)

-- one sum of the determinant, without that factor
abbrev halved : ℕ → Corner → Corner → ℕ → ℕ → ℕ
halved w a b px k = 2 * (w * (a.x * b.y)) + b.x * (w * (2 * k + 1)) + 2 * (px * a.y)

-- sums that balance: the one is the larger by as much as the other is
same_excess : (x y u v : ℕ) → x + u ≡ y + v → ltb y x ≡ ltb u v
same_excess x y u v e = grind (arith, nat_tests)

-- and they are the same if the others are
same_balance : (x y u v : ℕ) → x + u ≡ y + v → eqb x y ≡ eqb u v
same_balance x y u v e = grind (arith, nat_tests)

-- a point at height k + 1/2 and the way up from a to b through that height
pub record Passing (w part d : ℕ) (a b c : Corner) (k : ℕ) : Type 0 where
  pub large : 1 ≤ w
  pub some : 1 ≤ part
  pub mid : 2 * c.y ≡ w * (2 * k + 1)
  pub whole : part * (2 * (b.y - a.y)) ≡ d
  pub below : a.y ≤ k
  pub above : k < b.y

module _ (w part d : ℕ) (a b c : Corner) (k : ℕ) (here : Passing w part d a b c k) where
  -- the two sums of the determinant, in halves of w
  left_doubled : 2 * lefts (grown w a) (grown w b) c ≡ w * (halved w a b c.x k)
  left_doubled = doubled w a.x a.y b.x b.y c.x c.y (2 * k + 1) here.mid

  right_doubled : 2 * rights (grown w a) (grown w b) c ≡ w * (halved w b a c.x k)
  right_doubled = omega (arith, doubled w b.x b.y a.x a.y c.x c.y (2 * k + 1) here.mid)

  -- their difference is that between the wall and the point
  inner_weighed : part * (halved w a b c.x k) + d * c.x ≡ part * (halved w b a c.x k) + w * weighted part a b k
  inner_weighed =
      subst₂ (λ (m n : ℕ). part * (2 * (w * (a.x * n)) + b.x * (w * (2 * m + 1)) + 2 * (c.x * a.y)) + d * c.x
      ≡ part * (2 * (w * (b.x * a.y)) + a.x * (w * (2 * m + 1)) + 2 * (c.x * n)) + w * weighted part a b k) (add-sub_of_le here.below) up
      (weighed w part d a.x b.x a.y c.x (k - a.y) (b.y - suc k) (ap (λ z. part * (2 * z)) high ∙ here.whole))
    where
      high : k - a.y + 1 + (b.y - suc k) ≡ b.y - a.y
      high = omega (arith, here.below, here.above)

      up : a.y + (k - a.y + 1 + (b.y - suc k)) ≡ b.y
      up = omega (arith, here.below, here.above)

  -- the point is left of the edge if it is west of the wall
  pub left_of_wall : left_turn (grown w a) (grown w b) c ≡ ltb (d * c.x) (w * weighted part a b k)
  left_of_wall =
      let l = lefts (grown w a) (grown w b) c in
      let r = rights (grown w a) (grown w b) c in
      sym (ltb_times 2 (omega arith) r l) ∙ ap₂ ltb right_doubled left_doubled ∙ ltb_times w here.large (halved w b a c.x k) (halved w a b c.x k)
      ∙ sym (ltb_times part here.some (halved w b a c.x k) (halved w a b c.x k))
      ∙ same_excess (part * (halved w a b c.x k)) (part * (halved w b a c.x k)) (d * c.x) (w * weighted part a b k) inner_weighed

  -- and in line with the edge if it is at the wall
  pub on_wall : in_line (grown w a) (grown w b) c ≡ eqb (d * c.x) (w * weighted part a b k)
  on_wall =
      let l = lefts (grown w a) (grown w b) c in
      let r = rights (grown w a) (grown w b) c in
      sym (eqb_times 2 (omega arith) l r) ∙ ap₂ eqb left_doubled right_doubled ∙ eqb_times w here.large (halved w a b c.x k) (halved w b a c.x k)
      ∙ sym (eqb_times part here.some (halved w a b c.x k) (halved w b a c.x k))
      ∙ same_balance (part * (halved w a b c.x k)) (part * (halved w b a c.x k)) (d * c.x) (w * weighted part a b k) inner_weighed

-- WHICH EDGES ARE CROSSED, AND WHICH TOUCHED, at a point c of height k + 1/2, all made w times as large
-- two tests behind a third need to agree only where that holds
and_when : (t a b : Bool) → (t ≡ true → a ≡ b) → (t && a) ≡ (t && b)
and_when true a b h = h refl
and_when false a b h = refl

-- a factor of what isn't 0 isn't
factor_above : (p m d : ℕ) → 1 ≤ d → p * m ≡ d → 1 ≤ p
factor_above zero m d h e = omega (arith, zero-mul m)
factor_above (suc p) m d h e = omega arith

-- d in so many parts as twice the height of an edge needs
pub parts_of : (d n h : ℕ) → DividesAll d n → 1 ≤ h → h ≤ n → d / (2 * h) * (2 * h) ≡ d
unfolding DividesAll
parts_of d n h divides above high = let rest = divides h above high in let all = div-add-mod' d (2 * h) in omega arith

-- an odd number against even ones
even_odd : (y k : ℕ) → leb (2 * y) (2 * k + 1) ≡ leb y k
even_odd y k = grind (arith, nat_tests)

pub odd_even : (k y : ℕ) → ltb (2 * k + 1) (2 * y) ≡ ltb k y
odd_even k y = grind (arith, nat_tests)

-- an odd number is between even ones if its half is in the strip
odd_between : (y z k : ℕ) → between (2 * y) (2 * z) (2 * k + 1) ≡ or (spans y z k) (spans z y k)
odd_between y z k = grind (arith, nat_tests)

-- the way up from a to b goes through c
abbrev pub through : ℕ → ℕ → ℕ → Corner → Corner → Corner → Bool
through d w k c a b = spans a.y b.y k && eqb (d * c.x) (w * wall d a b k)

module _ (d n w k : ℕ) (c : Corner) (fine : 1 ≤ d) (divides : DividesAll d n) (large : 1 ≤ w) (mid : 2 * c.y ≡ w * (2 * k + 1)) where
  -- made w times as large, and twice
  twice_grown : (y : ℕ) → 2 * (w * y) ≡ w * (2 * y)
  twice_grown y = mul_left_comm 2 w y

  -- a corner is below c if its height is k or less
  height_below : (y : ℕ) → leb (w * y) c.y ≡ leb y k
  height_below y =
      sym (leb_times 2 (omega arith) (w * y) c.y) ∙ ap₂ leb (twice_grown y) mid ∙ leb_times w large (2 * y) (2 * k + 1) ∙ even_odd y k

  -- and above c if it is more
  height_above : (y : ℕ) → ltb c.y (w * y) ≡ ltb k y
  height_above y =
      sym (ltb_times 2 (omega arith) c.y (w * y)) ∙ ap₂ ltb mid (twice_grown y) ∙ ltb_times w large (2 * k + 1) (2 * y) ∙ odd_even k y

  -- c is between the heights of the ends if the strip is
  height_between : (y z : ℕ) → between (w * y) (w * z) c.y ≡ or (spans y z k) (spans z y k)
  height_between y z =
      sym (between_grown 2 (omega arith) (w * y) (w * z) c.y) ∙ ap₃_between ∙ between_grown w large (2 * y) (2 * z) (2 * k + 1) ∙ odd_between y z k
    where
      ap₃_between : between (2 * (w * y)) (2 * (w * z)) (2 * c.y) ≡ between (w * (2 * y)) (w * (2 * z)) (w * (2 * k + 1))
      ap₃_between = ap₂ (λ u v. between u v (2 * c.y)) (twice_grown y) (twice_grown z) ∙ ap (between (w * (2 * y)) (w * (2 * z))) mid

  module _ (a b : Corner) (high : b.y ≤ n) where
    -- the way up from a to b passes that height
    passing : spans a.y b.y k ≡ true → Passing w (d / (2 * (b.y - a.y))) d a b c k
    passing h = record {
      large = large;
      some = factor_above (d / (2 * (b.y - a.y))) (2 * (b.y - a.y)) d fine whole_parts;
      mid = mid;
      whole = whole_parts;
      below = low;
      above = up;
    }
      where
        low : a.y ≤ k
        low = leb-true a.y k (and_parts (leb a.y k) (ltb k b.y) h).0

        up : k < b.y
        up = ltb-true k b.y (and_parts (leb a.y k) (ltb k b.y) h).1

        whole_parts : d / (2 * (b.y - a.y)) * (2 * (b.y - a.y)) ≡ d
        whole_parts = parts_of d n (b.y - a.y) divides (omega (arith, low, up)) (omega arith)

    -- an edge is crossed upward if it passes the height going up, with its wall further east
    pub rises_at : rises (grown_edge w (edge a b)) c ≡ (spans a.y b.y k && ltb (d * c.x) (w * wall d a b k))
    rises_at =
        ap (λ t. t && left_turn (grown w a) (grown w b) c) (ap₂ ◌&&◌ (height_below a.y) (height_above b.y))
        ∙ and_when (spans a.y b.y k) _ _ (λ h. left_of_wall w (d / (2 * (b.y - a.y))) d a b c k (passing h))

    -- what lies on an edge, at a height that the way up passes, lies on that way
    on_through : on_edge (grown_edge w (edge a b)) c ≡ true → spans a.y b.y k ≡ true → through d w k c a b ≡ true
    on_through on h =
        and_from _ _ h (sym (on_wall w (d / (2 * (b.y - a.y))) d a b c k (passing h)) ∙ (on_edge_parts (grown_edge w (edge a b)) c on).0)

    -- and what lies on the way up lies on the edge
    through_on : through d w k c a b ≡ true → on_edge (grown_edge w (edge a b)) c ≡ true
    through_on t =
        let both = and_parts (spans a.y b.y k) (eqb (d * c.x) (w * wall d a b k)) t in
        let ends = and_parts (leb a.y k) (ltb k b.y) both.0 in
        let low = leb-true (w * a.y) c.y (height_below a.y ∙ ends.0) in
        let up = ltb-true c.y (w * b.y) (height_above b.y ∙ ends.1) in
        on_steep (grown w a) (grown w b) c
        (eqb-true (lefts (grown w a) (grown w b) c) (rights (grown w a) (grown w b) c)
        (on_wall w (d / (2 * (b.y - a.y))) d a b c k (passing both.0) ∙ both.1))
        low (omega arith) (omega arith)

  module _ (e : Edge) (first : e.one.y ≤ n) (second : e.other.y ≤ n) where
    -- an edge that falls is the way up from its other end
    pub falls_at : falls (grown_edge w e) c ≡ (spans e.other.y e.one.y k && ltb (d * c.x) (w * wall d e.other e.one k))
    falls_at = sym (rises_reversed (grown_edge w e) c) ∙ rises_at e.other e.one first

    -- an edge has the points that it goes through, up or down
    pub on_at : on_edge (grown_edge w e) c ≡ or (through d w k c e.one e.other) (through d w k c e.other e.one)
    on_at = same_from_both _ _ there back
      where
        there : on_edge (grown_edge w e) c ≡ true → or (through d w k c e.one e.other) (through d w k c e.other e.one) ≡ true
        there on =
            ⊎_elim (λ h. or_left _ _ (on_through e.one e.other second on h))
            (λ h. or_right _ _ (on_through e.other e.one first (on_edge_reversed (grown_edge w e) c ∙ on) h))
            (or_cases (spans e.one.y e.other.y k) (spans e.other.y e.one.y k)
            (sym (height_between e.one.y e.other.y) ∙ (on_edge_parts (grown_edge w e) c on).2))

        back : or (through d w k c e.one e.other) (through d w k c e.other e.one) ≡ true → on_edge (grown_edge w e) c ≡ true
        back h =
            ⊎_elim (through_on e.one e.other second)
            (λ t. sym (on_edge_reversed (grown_edge w e) c) ∙ through_on e.other e.one first t)
            (or_cases (through d w k c e.one e.other) (through d w k c e.other e.one) h)
