-- Edges that cannot meet: their bounding boxes are apart, or the one has both ends on one side of the other.
use Rattle.std.proofs.Common.{◌≡◌, ℕ, suc, ◌*◌, ◌<◌, ◌≤◌, true, false, ◌&&◌, eqb, ltb, ◌⊎◌, sym, ap, ◌∙◌, subst, inl, inr, arith}
use Rattle.std.proofs.lemmas.Bool.{eqb-true, and_cases, and_left, and_right, and_parts}
use Rattle.std.proofs.lemmas.Bool.Decides.{nat_tests}
use Rattle.plane.specs.Lists.{or}
use Rattle.plane.specs.Corners.{Corner, lefts, rights, in_line, larger, between}
use Rattle.plane.specs.Edges.{Edge, edge, on_edge, cross_over, meet}
use Rattle.plane.specs.Extents.{ranges_meet, boxes_meet}
use Rattle.plane.specs.Sides.{parts, leaves_aside}
use Rattle.plane.proofs.Booleans.{false_from, or_from}
use Rattle.plane.proofs.Products.{product_le}
use Rattle.plane.proofs.Proportion.{both_left, both_right}
use Rattle.plane.proofs.Reversal.{cross_over_comm}
use Rattle.plane.proofs.Turns.{Balance, Weighed, balance, weighed_x, weighed_y}

-- two edges do not meet if they do not cross over, and no end of the one is on the other
unmet :
    (e f : Edge) → cross_over e f ≡ false → on_edge e f.one ≡ false → on_edge e f.other ≡ false → on_edge f e.one ≡ false →
    on_edge f e.other ≡ false → meet e f ≡ false
unmet e f c h i j k = or_from (cross_over e f) _ c (or_from _ _ (or_from (on_edge e f.one) (on_edge e f.other) h i) (or_from (on_edge f e.one) (on_edge f e.other) j k))

-- BOXES APART
-- a and b are at most m, and c and d above it
abbrev Below : (a b c d m : ℕ) → Type 0
Below a b c d m = (a ≤ m) × (b ≤ m) × (m < c) × (m < d)

-- of ranges that are apart the one lies below the other
apart_told : (a b c d : ℕ) → ranges_meet a b c d ≡ false → Below a b c d (larger a b) ⊎ Below c d a b (larger c d)
apart_told a b c d h = grind (arith, nat_tests)

-- and no end of the one lies in the other
abbrev EndsOutside : (a b c d : ℕ) → Type 0
EndsOutside a b c d = (between a b c ≡ false) × (between a b d ≡ false) × (between c d a ≡ false) × (between c d b ≡ false)

ends_outside : (a b c d : ℕ) → ranges_meet a b c d ≡ false → EndsOutside a b c d
ends_outside a b c d h = (grind (arith, nat_tests), grind (arith, nat_tests), grind (arith, nat_tests), grind (arith, nat_tests))

module _
    (la ra lb rb lp rp lq rq va vb vp vq m : ℕ) (even : Balance la ra lb rb lp rp lq rq) (weighed : Weighed la ra lb rb lp rp lq rq va vb vp vq)
    (h : Below va vb vp vq m)
  where
    -- where a and b lie below p and q, not all four ends are on the sides that they would have to be on
    low : la < ra → rb < lb → rp < lp → lq < rq → ⊥
    low a b p q =
        omega (
          arith,
          product_le rb lb va m (omega arith) h.0,
          product_le la ra vb m (omega arith) h.1,
          product_le lq rq (suc m) vp (omega arith) h.2,
          product_le rp lp (suc m) vq (omega arith) h.3,
          ap (λ n. n * m) even,
        )

-- the same for all signs, as the test of crossing over
uncut :
    (la ra lb rb lp rp lq rq va vb vp vq m : ℕ) → Balance la ra lb rb lp rp lq rq → Weighed la ra lb rb lp rp lq rq va vb vp vq → Below va vb vp vq m →
    or (ltb rp lp && ltb lq rq) (ltb lp rp && ltb rq lq) && or (ltb ra la && ltb lb rb) (ltb la ra && ltb rb lb) ≡ false
uncut la ra lb rb lp rp lq rq va vb vp vq m even weighed h =
    apart even (low la ra lb rb lp rp lq rq va vb vp vq m even weighed h) (low ra la rb lb rp lp rq lq va vb vp vq m (sym even) (sym weighed) h)
  where
    apart :
        Balance la ra lb rb lp rp lq rq → (la < ra → rb < lb → rp < lp → lq < rq → ⊥) → (ra < la → lb < rb → lp < rp → rq < lq → ⊥) →
        or (ltb rp lp && ltb lq rq) (ltb lp rp && ltb rq lq) && or (ltb ra la && ltb lb rb) (ltb la ra && ltb rb lb) ≡ false
    apart even one other = grind (arith, nat_tests)

-- in a direction v
module _
    (v : Corner → ℕ)
    (weighed : (a b p q : Corner) →
    Weighed (lefts p q a) (rights p q a) (lefts p q b) (rights p q b) (lefts a b p) (rights a b p) (lefts a b q) (rights a b q) (v a) (v b) (v p) (v q))
  where
    -- edges of which the first lies below the other do not cross over
    below_uncut : (a b p q : Corner) (m : ℕ) → Below (v a) (v b) (v p) (v q) m → cross_over (edge a b) (edge p q) ≡ false
    below_uncut a b p q m h =
        uncut (lefts p q a) (rights p q a) (lefts p q b) (rights p q b) (lefts a b p) (rights a b p) (lefts a b q) (rights a b q) (v a) (v b) (v p) (v q) m
        (balance a b p q) (weighed a b p q) h

    -- nor do edges that are apart
    apart_uncut : (a b p q : Corner) → ranges_meet (v a) (v b) (v p) (v q) ≡ false → cross_over (edge a b) (edge p q) ≡ false
    apart_uncut a b p q h =
        elim (apart_told (v a) (v b) (v p) (v q) h) [
          | inl k ↦ below_uncut a b p q (larger (v a) (v b)) k
          | inr k ↦ cross_over_comm (edge a b) (edge p q) ∙ below_uncut p q a b (larger (v p) (v q)) k
        ]

-- a corner outside the extent of an edge, in one direction, is not on it
module _ (e : Edge) (c : Corner) where
  off_by_x : between e.one.x e.other.x c.x ≡ false → on_edge e c ≡ false
  off_by_x h = and_right (in_line e.one e.other c) _ (and_left _ (between e.one.y e.other.y c.y) h)

  off_by_y : between e.one.y e.other.y c.y ≡ false → on_edge e c ≡ false
  off_by_y h = and_right (in_line e.one e.other c) _ (and_right (between e.one.x e.other.x c.x) _ h)

-- edges whose bounding boxes are apart do not meet
pub apart_unmet : (e f : Edge) → boxes_meet e f ≡ false → meet e f ≡ false
apart_unmet e f h =
    elim (and_cases (ranges_meet e.one.x e.other.x f.one.x f.other.x) (ranges_meet e.one.y e.other.y f.one.y f.other.y) h) [
      | inl k ↦ by_x k (ends_outside e.one.x e.other.x f.one.x f.other.x k)
      | inr k ↦ by_y k (ends_outside e.one.y e.other.y f.one.y f.other.y k)
    ]
  where
    by_x :
        ranges_meet e.one.x e.other.x f.one.x f.other.x ≡ false →
        EndsOutside e.one.x e.other.x f.one.x f.other.x → meet e f ≡ false
    by_x k o =
        unmet e f (apart_uncut (λ a. a.x) weighed_x e.one e.other f.one f.other k) (off_by_x e f.one o.0) (off_by_x e f.other o.1)
        (off_by_x f e.one o.2) (off_by_x f e.other o.3)

    by_y :
        ranges_meet e.one.y e.other.y f.one.y f.other.y ≡ false →
        EndsOutside e.one.y e.other.y f.one.y f.other.y → meet e f ≡ false
    by_y k o =
        unmet e f (apart_uncut (λ a. a.y) weighed_y e.one e.other f.one f.other k) (off_by_y e f.one o.0) (off_by_y e f.other o.1)
        (off_by_y f e.one o.2) (off_by_y f e.other o.3)

-- BOTH ENDS ON ONE SIDE
-- p and q are both left of a b, or both right of it
abbrev Aside : (a b p q : Corner) → Type 0
Aside a b p q =
    ((rights a b p < lefts a b p) × (rights a b q < lefts a b q)) ⊎ ((lefts a b p < rights a b p) × (lefts a b q < rights a b q))

-- an edge with both ends on one side of a b does not hold a: its ends would be a themselves
aside_off : (a b p q : Corner) → Aside a b p q → on_edge (edge p q) a ≡ false
aside_off a b p q aside = false_from (on_edge (edge p q) a) held
  where
    self : lefts a b a ≡ rights a b a
    self = omega arith

    held : on_edge (edge p q) a ≡ true → ⊥
    held on =
        let all = and_parts (in_line p q a) (between p.x q.x a.x && between p.y q.y a.y) on in
        let ranges = and_parts (between p.x q.x a.x) (between p.y q.y a.y) all.1 in
        let line = eqb-true (lefts p q a) (rights p q a) all.0 in
        elim aside [
          | inl s ↦ omega (arith, self, subst (λ c. rights a b c < lefts a b c) (both_left p q a a b line self ranges.0 ranges.1 s.0 s.1) s.0)
          | inr s ↦ omega (arith, self, subst (λ c. lefts a b c < rights a b c) (both_right p q a a b line self ranges.0 ranges.1 s.0 s.1) s.0)
        ]

-- one side of a b is one side of b a: so it does not hold b either
aside_swapped : (a b p q : Corner) → Aside a b p q → Aside b a p q
aside_swapped a b p q aside =
    elim aside [
      | inl s ↦ inr (omega arith, omega arith)
      | inr s ↦ inl (omega arith, omega arith)
    ]

module _ (lp rp lq rq : ℕ) (h : or (ltb rp lp && ltb rq lq) (ltb lp rp && ltb lq rq) ≡ true) where
  -- what the test of one side tells
  aside_told : ((rp < lp) × (rq < lq)) ⊎ ((lp < rp) × (lq < rq))
  aside_told = grind (arith, nat_tests)

  -- ends on one side are not on the two sides, and not in line
  aside_tests : (or (ltb rp lp && ltb lq rq) (ltb lp rp && ltb rq lq) ≡ false) × (eqb lp rp ≡ false) × (eqb lq rq ≡ false)
  aside_tests = (grind (arith, nat_tests), grind (arith, nat_tests), grind (arith, nat_tests))

-- an edge with both ends on one side of another does not meet it
pub aside_unmet : (e f : Edge) → leaves_aside e f ≡ true → meet e f ≡ false
aside_unmet e f h =
    let aside : Aside a b p q = aside_told (lefts a b p) (rights a b p) (lefts a b q) (rights a b q) h in
    let tests = aside_tests (lefts a b p) (rights a b p) (lefts a b q) (rights a b q) h in
    unmet e f (and_left (parts e f) (parts f e) tests.0) (and_left (in_line a b p) _ tests.1) (and_left (in_line a b q) _ tests.2)
    (aside_off a b p q aside) (aside_off b a p q (aside_swapped a b p q aside))
  where
    a : Corner
    a = e.one

    b : Corner
    b = e.other

    p : Corner
    p = f.one

    q : Corner
    q = f.other
