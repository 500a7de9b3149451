-- Two edges meet exactly if they have a point in common, written with some denominator: where they cross over, that point is a mean of the ends of the one,
-- weighed by how far each is from the other edge.
use Rattle.std.proofs.Common.{◌≡◌, ℕ, ◌+◌, ◌-◌, ◌*◌, ◌<◌, ◌≤◌, Bool, true, false, ◌&&◌, eqb, ltb, sym, ap, ◌∙◌, ap₂, ⊎_elim, mul-le-mul_left, arith}
use Rattle.std.proofs.lemmas.Bool.{and_parts, and_from, eqb-true, eq-eqb, ltb-true}
use Rattle.std.proofs.lemmas.Bool.Decides.{nat_tests}
use Rattle.plane.specs.Lists.{or}
use Rattle.plane.specs.Corners.{Corner, corner, grown, lefts, rights, left_turn, right_turn, in_line, between}
use Rattle.plane.specs.Edges.{Edge, edge, grown_edge, on_edge, cross_over, meet}
use Rattle.plane.specs.Parity.{touches}
use Rattle.plane.proofs.Booleans.{or_cases, not_both}
use Rattle.plane.proofs.Reversal.{parts, on_edge_reversed, parts_by_reversed, parts_reversed, between_comm}
use Rattle.plane.proofs.Incidence.{between_cases, between_up}
use Rattle.plane.proofs.Products.{ltb_times, eqb_times}
use Rattle.plane.proofs.Proportion.{parted_between}
use Rattle.plane.proofs.Growth.{left_turn_grown, right_turn_grown, in_line_grown, on_edge_grown}
use Rattle.plane.proofs.Chains.{reversed}
use Rattle.plane.proofs.Sides.{on_edge_parts}

-- THE ENDS of an edge are on it
between_one : (a b : ℕ) → between a b a ≡ true
between_one a b = grind (arith, nat_tests)

-- the first end
pub one_on : (e : Edge) → on_edge e e.one ≡ true
one_on e =
    and_from _ _ (eq-eqb (lefts a b a) (rights a b a) (omega arith)) (and_from _ _ (between_one a.x b.x) (between_one a.y b.y))
  where
    a : Corner
    a = e.one

    b : Corner
    b = e.other

-- the other end
pub other_on : (e : Edge) → on_edge e e.other ≡ true
other_on e = sym (on_edge_reversed e e.other) ∙ one_on (reversed e)

-- THE MEAN of a and b, weighed: v for a and u for b, all made u + v times as large
abbrev pub mean : ℕ → ℕ → Corner → Corner → Corner
mean u v a b = corner (v * a.x + u * b.x) (v * a.y + u * b.y)

module _ (u v : ℕ) where
  -- between a and b, if both numbers are
  mean_up : (a b c z : ℕ) → a ≤ c → c ≤ b → a ≤ z → z ≤ b → between ((u + v) * a) ((u + v) * b) (v * c + u * z) ≡ true
  mean_up a b c z ac cb az zb =
      between_up ((u + v) * a) ((u + v) * b) (v * c + u * z) (omega (arith, mul-le-mul_left v ac, mul-le-mul_left u az))
      (omega (arith, mul-le-mul_left v cb, mul-le-mul_left u zb))

  -- in whichever order
  mean_held : (a b c z : ℕ) → between a b c ≡ true → between a b z ≡ true → between ((u + v) * a) ((u + v) * b) (v * c + u * z) ≡ true
  mean_held a b c z h k =
      ⊎_elim
      (λ y.
      ⊎_elim (λ x. mean_up a b c z y.0 y.1 x.0 x.1) (λ x. mean_up a b c z y.0 y.1 (omega arith) (omega arith)) (between_cases a b z k))
      (λ y.
      between_comm ((u + v) * b) ((u + v) * a) (v * c + u * z)
      ∙ ⊎_elim (λ x. mean_up b a c z y.0 y.1 (omega arith) (omega arith)) (λ x. mean_up b a c z y.0 y.1 x.0 x.1) (between_cases a b z k))
      (between_cases a b c h)

  -- the two sums of the mean with p and q are the weighed sums of those of a and of b
  module _ (a b p q : Corner) where
    pub mean_lefts : lefts (grown (u + v) p) (grown (u + v) q) (mean u v a b) ≡ (u + v) * (v * lefts p q a + u * lefts p q b)
    mean_lefts = omega arith

    pub mean_rights : rights (grown (u + v) p) (grown (u + v) q) (mean u v a b) ≡ (u + v) * (v * rights p q a + u * rights p q b)
    mean_rights = omega arith

    -- so it is in line with p and q if a and b are
    pub mean_line :
        lefts p q a ≡ rights p q a → lefts p q b ≡ rights p q b →
        lefts (grown (u + v) p) (grown (u + v) q) (mean u v a b) ≡ rights (grown (u + v) p) (grown (u + v) q) (mean u v a b)
    mean_line h k = mean_lefts ∙ ap₂ (λ (l r : ℕ). (u + v) * (v * l + u * r)) h k ∙ sym mean_rights

  -- AN EDGE IS CONVEX: the mean of two of its points is on it
  pub convex : (e : Edge) (c z : Corner) → on_edge e c ≡ true → on_edge e z ≡ true → on_edge (grown_edge (u + v) e) (mean u v c z) ≡ true
  convex e c z h k =
      let s = on_edge_parts e c h in
      let t = on_edge_parts e z k in
      and_from _ _
      (eq-eqb _ _
      (mean_line c z e.one e.other (eqb-true (lefts e.one e.other c) (rights e.one e.other c) s.0)
      (eqb-true (lefts e.one e.other z) (rights e.one e.other z) t.0)))
      (and_from _ _ (mean_held e.one.x e.other.x c.x z.x s.1 t.1) (mean_held e.one.y e.other.y c.y z.y s.2 t.2))

-- A LITTLE ON from c, which is on the line of p and q, towards z: it turns there as at z
module _ (v : ℕ) (c z p q : Corner) (line : lefts p q c ≡ rights p q c) where
  -- it has grown
  above : 1 ≤ 1 + v
  above = omega arith

  -- over plain numbers: of unequal ones
  less_aside : (m n l r : ℕ) → m ≡ n → ltb (v * n + 1 * r) (v * m + 1 * l) ≡ ltb r l
  less_aside m n l r h = let e = ap (λ (k : ℕ). v * k) h in grind (arith, nat_tests)

  -- and of equal ones
  same_aside : (m n l r : ℕ) → m ≡ n → eqb (v * m + 1 * l) (v * n + 1 * r) ≡ eqb l r
  same_aside m n l r h = let e = ap (λ (k : ℕ). v * k) h in grind (arith, nat_tests)

  -- to the left, to the right, or in line
  pub left_aside : left_turn (grown (1 + v) p) (grown (1 + v) q) (mean 1 v c z) ≡ left_turn p q z
  left_aside =
      ap₂ ltb (mean_rights 1 v c z p q) (mean_lefts 1 v c z p q) ∙ ltb_times (1 + v) above _ _
      ∙ less_aside (lefts p q c) (rights p q c) (lefts p q z) (rights p q z) line

  pub right_aside : right_turn (grown (1 + v) p) (grown (1 + v) q) (mean 1 v c z) ≡ right_turn p q z
  right_aside =
      ap₂ ltb (mean_lefts 1 v c z p q) (mean_rights 1 v c z p q) ∙ ltb_times (1 + v) above _ _
      ∙ less_aside (rights p q c) (lefts p q c) (rights p q z) (lefts p q z) (sym line)

  pub line_aside : in_line (grown (1 + v) p) (grown (1 + v) q) (mean 1 v c z) ≡ in_line p q z
  line_aside =
      ap₂ eqb (mean_lefts 1 v c z p q) (mean_rights 1 v c z p q) ∙ eqb_times (1 + v) above _ _
      ∙ same_aside (lefts p q c) (rights p q c) (lefts p q z) (rights p q z) line

-- a point of both edges, all made k times as large
abbrev pub PointOfBoth : Edge → Edge → Type 0
PointOfBoth e f = (k : ℕ) × (c : Corner) × (1 ≤ k) × (on_edge (grown_edge k e) c ≡ true) × (on_edge (grown_edge k f) c ≡ true)

-- a is left of the line from p to q by u, and b right of it by v: then the mean is on that line
module _ (a b p q : Corner) (u v : ℕ) (left : u + rights p q a ≡ lefts p q a) (right : v + lefts p q b ≡ rights p q b) where
  pub mean_crosses : lefts (grown (u + v) p) (grown (u + v) q) (mean u v a b) ≡ rights (grown (u + v) p) (grown (u + v) q) (mean u v a b)
  mean_crosses = mean_lefts u v a b p q ∙ ap (λ (n : ℕ). (u + v) * n) weights ∙ sym (mean_rights u v a b p q)
    where
      weights : v * lefts p q a + u * lefts p q b ≡ v * rights p q a + u * rights p q b
      weights = weighed (lefts p q a) (rights p q a) (lefts p q b) (rights p q b) left right
        where
          weighed : (la ra lb rb : ℕ) → u + ra ≡ la → v + lb ≡ rb → v * la + u * lb ≡ v * ra + u * rb
          weighed la ra lb rb h k = omega (arith, ap (λ (n : ℕ). v * n) h, ap (λ (n : ℕ). u * n) k)

-- CROSSING OVER
module _ (a b p q : Corner) (u v : ℕ) (left : u + rights p q a ≡ lefts p q a) (right : v + lefts p q b ≡ rights p q b) (many : 1 ≤ u + v) where
  crossing_line : lefts (grown (u + v) p) (grown (u + v) q) (mean u v a b) ≡ rights (grown (u + v) p) (grown (u + v) q) (mean u v a b)
  crossing_line = mean_crosses a b p q u v left right

  -- the mean is between p and q too, where these are on the two sides of a b
  held : parts (edge a b) (edge p q) ≡ true →
      (between ((u + v) * p.x) ((u + v) * q.x) (mean u v a b).x ≡ true) × (between ((u + v) * p.y) ((u + v) * q.y) (mean u v a b).y ≡ true)
  held h = ⊎_elim left_first right_first (or_cases _ _ h)
    where
      n : ℕ
      n = u + v

      c : Corner
      c = mean u v a b

      Held : Type 0
      Held = (between (n * p.x) (n * q.x) c.x ≡ true) × (between (n * p.y) (n * q.y) c.y ≡ true)

      left_first : (left_turn a b p && right_turn a b q) ≡ true → Held
      left_first k =
          let w = and_parts (left_turn a b p) (right_turn a b q) k in
          parted_between (grown n p) (grown n q) c (grown n a) (grown n b) crossing_line (mean_line u v a b a b (omega arith) (omega arith))
          (ltb-true _ _ (left_turn_grown n many a b p ∙ w.0)) (ltb-true _ _ (right_turn_grown n many a b q ∙ w.1))

      right_first : (right_turn a b p && left_turn a b q) ≡ true → Held
      right_first k =
          let w = and_parts (right_turn a b p) (left_turn a b q) k in
          let z = parted_between (grown n q) (grown n p) c (grown n a) (grown n b) (omega (arith, crossing_line)) (mean_line u v a b a b (omega arith) (omega arith))
          (ltb-true _ _ (left_turn_grown n many a b q ∙ w.1)) (ltb-true _ _ (right_turn_grown n many a b p ∙ w.0)) in
          (sym (between_comm (n * p.x) (n * q.x) c.x) ∙ z.0, sym (between_comm (n * p.y) (n * q.y) c.y) ∙ z.1)

  -- so it is a point of both edges
  crossing_at : parts (edge a b) (edge p q) ≡ true → PointOfBoth (edge a b) (edge p q)
  crossing_at h = (u + v, mean u v a b, many, convex u v (edge a b) a b (one_on (edge a b)) (other_on (edge a b)), and_from _ _ (eq-eqb _ _ crossing_line) (and_from _ _ (held h).0 (held h).1))

-- edges that cross over have a point in common
pub cross_point : (e f : Edge) → cross_over e f ≡ true → PointOfBoth e f
cross_point e f h =
    let w = and_parts (parts e f) (parts f e) h in
    ⊎_elim (forth w.0) (back w.0) (or_cases _ _ w.1)
  where
    a : Corner
    a = e.one

    b : Corner
    b = e.other

    p : Corner
    p = f.one

    q : Corner
    q = f.other

    parted : (a b : Corner) → rights p q a < lefts p q a → lefts p q b < rights p q b → parts (edge a b) f ≡ true → PointOfBoth (edge a b) f
    parted a b h k =
        crossing_at a b p q (lefts p q a - rights p q a) (rights p q b - lefts p q b) (less (rights p q a) (lefts p q a) h)
        (less (lefts p q b) (rights p q b) k) (some (rights p q a) (lefts p q a) (rights p q b - lefts p q b) h)
      where
        less : (m n : ℕ) → m < n → (n - m) + m ≡ n
        less m n h = omega arith

        some : (m n z : ℕ) → m < n → 1 ≤ (n - m) + z
        some m n z h = omega arith

    forth : parts e f ≡ true → (left_turn p q a && right_turn p q b) ≡ true → PointOfBoth e f
    forth h k =
        let w = and_parts (left_turn p q a) (right_turn p q b) k in
        parted a b (ltb-true _ _ w.0) (ltb-true _ _ w.1) h

    back : parts e f ≡ true → (right_turn p q a && left_turn p q b) ≡ true → PointOfBoth e f
    back h k =
        let w = and_parts (right_turn p q a) (left_turn p q b) k in
        let z = parted b a (ltb-true _ _ w.1) (ltb-true _ _ w.0) (parts_reversed e f ∙ h) in
        (z.0, z.1, z.2, sym (on_edge_reversed (grown_edge z.0 e) z.1) ∙ z.3, z.4)

-- edges that meet have a point in common
pub meet_point : (e f : Edge) → meet e f ≡ true → PointOfBoth e f
meet_point e f h =
    ⊎_elim (cross_point e f)
    (λ t.
    ⊎_elim
    (λ k. ⊎_elim (λ z. whole f.one z (one_on f)) (λ z. whole f.other z (other_on f)) (or_cases (on_edge e f.one) (on_edge e f.other) k))
    (λ k. ⊎_elim (λ z. whole e.one (one_on e) z) (λ z. whole e.other (other_on e) z) (or_cases (on_edge f e.one) (on_edge f e.other) k))
    (or_cases (or (on_edge e f.one) (on_edge e f.other)) (or (on_edge f e.one) (on_edge f e.other)) t))
    (or_cases (cross_over e f) (touches f.one f.other e) h)
  where
    once : 1 ≤ 1
    once = omega arith

    whole : (c : Corner) → on_edge e c ≡ true → on_edge f c ≡ true → PointOfBoth e f
    whole c z y = (1, grown 1 c, once, on_edge_grown 1 once e c ∙ z, on_edge_grown 1 once f c ∙ y)

-- an edge one of whose ends is in line with another does not have them on its two sides
pub parts_off : (e : Edge) (c d : Corner) → in_line e.one e.other c ≡ true → parts e (edge c d) ≡ false
parts_off e c d h = level (lefts e.one e.other c) (rights e.one e.other c) (left_turn e.one e.other d) (right_turn e.one e.other d) (eqb-true _ _ h)
  where
    level : (l r : ℕ) (s t : Bool) → l ≡ r → or (ltb r l && t) (ltb l r && s) ≡ false
    level l r s t e = grind (arith, nat_tests)

-- where two edges cross over, no end of the one is on the other
pub uncrossed_ends : (k : ℕ) → 1 ≤ k → (e f : Edge) (c : Corner) → cross_over e f ≡ true → on_edge (grown_edge k f) c ≡ true →
    (grown k e.one ≡ c → ⊥) × (grown k e.other ≡ c → ⊥)
uncrossed_ends k above e f c h on = (
  (λ d. not_both (parts f e) both (parts_off f e.one e.other (lined e.one d))),
  (λ d. not_both (parts f e) both (sym (parts_by_reversed f e) ∙ parts_off f e.other e.one (lined e.other d))),
)
  where
    both : parts f e ≡ true
    both = (and_parts (parts e f) (parts f e) h).1

    lined : (z : Corner) → grown k z ≡ c → in_line f.one f.other z ≡ true
    lined z d =
        sym (in_line_grown k above f.one f.other z) ∙ ap (in_line (grown k f.one) (grown k f.other)) d ∙ (on_edge_parts (grown_edge k f) c on).0
