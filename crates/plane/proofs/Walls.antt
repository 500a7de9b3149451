-- The first wall to the west of a corner: from the nearest edge there, at the same height, the same edges are crossed as from the corner itself.
use Rattle.std.proofs.Common.{◌≡◌, ℕ, ◌+◌, ◌-◌, ◌*◌, ◌<◌, ◌≤◌, Bool, true, false, ◌&&◌, ltb, leb, ◌⊎◌, List, [], ◌∷◌, sym, refl, ap, ◌∙◌, subst, inl, inr, ⊎_elim, le_of_lt, mul_assoc, mul-le-mul, mul-le-mul_left, arith}
use Rattle.std.proofs.lemmas.Bool.{cases_Bool, and_parts, and_from, ltb-true, ltb-false, leb-true, lt-ltb}
use Rattle.std.proofs.lemmas.Bool.Decides.{nat_tests}
use Rattle.plane.specs.Lists.{or}
use Rattle.plane.specs.Corners.{Corner, corner, grown, lefts, rights, left_turn}
use Rattle.plane.specs.Edges.{Edge, edge, grown_edge, on_edge, rises, falls}
use Rattle.plane.specs.Parity.{crosses}
use Rattle.plane.proofs.Booleans.{same_from_both, or_cases, or_left, or_right, or_parts, contrapose}
use Rattle.plane.proofs.Lists.{In}
use Rattle.plane.proofs.Products.{product_le}
use Rattle.plane.proofs.Growth.{grown_edge_twice, crosses_grown}
use Rattle.plane.proofs.Reversal.{on_edge_reversed, crosses_reversed, rises_reversed}
use Rattle.plane.proofs.Chains.{reversed}
use Rattle.plane.proofs.Incidence.{on_steep}
use Rattle.plane.proofs.Crossings.{mean, mean_crosses}

-- FARTHER WEST more is crossed
-- what is left of a rising edge stays so to the west
rises_west : (a b c d : Corner) → c.y ≡ d.y → c.x ≤ d.x → rises (edge a b) d ≡ true → rises (edge a b) c ≡ true
rises_west a b c d level west h =
    let w = and_parts (leb a.y d.y && ltb d.y b.y) (left_turn a b d) h in
    let v = and_parts (leb a.y d.y) (ltb d.y b.y) w.0 in
    let lo = leb-true a.y d.y v.0 in
    let hi = ltb-true d.y b.y v.1 in
    and_from _ _ (ap (λ y. leb a.y y && ltb y b.y) level ∙ w.0)
    (lt-ltb (rights a b c) (lefts a b c)
    (omega (
      arith,
      ltb-true (rights a b d) (lefts a b d) w.1,
      product_le c.x d.x a.y b.y west (omega arith),
      ap (λ (n : ℕ). b.x * n) level,
      ap (λ (n : ℕ). n * a.x) level,
    )))

-- and so does an edge that falls: what is crossed stays crossed to the west
pub crosses_farther : (e : Edge) (c d : Corner) → c.y ≡ d.y → c.x ≤ d.x → crosses e d ≡ true → crosses e c ≡ true
crosses_farther e c d level west h =
    ⊎_elim (λ k. or_left (rises e c) (falls e c) (rises_west e.one e.other c d level west k))
    (λ k.
    or_right (rises e c) (falls e c)
    (sym (rises_reversed e c) ∙ rises_west e.other e.one c d level west (rises_reversed e d ∙ k)))
    (or_cases (rises e d) (falls e d) h)

-- what is the same at two places of one height is the same between them
sandwiched : (e : Edge) (q m p : Corner) → q.y ≡ m.y → m.y ≡ p.y → q.x ≤ m.x → m.x ≤ p.x → crosses e q ≡ crosses e p → crosses e m ≡ crosses e p
sandwiched e q m p ql lp qw wp same =
    same_from_both (crosses e m) (crosses e p) (λ h. sym same ∙ crosses_farther e q m ql qw h) (λ h. crosses_farther e m p lp wp h)

-- AN EDGE BETWEEN q and p, at one height: from q it is crossed, and from p it isn't
-- all made k times as large there is a corner on the edge between the two, at their height
pub record Stop (e : Edge) (q p : Corner) : Type 0 where
  pub times : ℕ
  pub place : Corner
  pub above : 1 ≤ times
  pub level : place.y ≡ times * p.y
  pub east_of : times * q.x ≤ place.x
  pub west_of : place.x ≤ times * p.x
  pub on : on_edge (grown_edge times e) place ≡ true
  pub uncrossed : crosses (grown_edge times e) place ≡ false

-- a corner in line with an edge does not cross it
line_uncrossed : (e : Edge) (c : Corner) → lefts e.one e.other c ≡ rights e.one e.other c → crosses e c ≡ false
line_uncrossed e c line =
    told (leb e.one.y c.y && ltb c.y e.other.y) (leb e.other.y c.y && ltb c.y e.one.y) (lefts e.one e.other c)
    (rights e.one e.other c) line
  where
    told : (s t : Bool) (l r : ℕ) → l ≡ r → or (s && ltb r l) (t && ltb l r) ≡ false
    told s t l r h = grind (arith, nat_tests)

-- q is left of a rising edge by u, and p not left of it, by v
stop_between : (a b q p : Corner) (u v : ℕ) → u + rights a b q ≡ lefts a b q → v + lefts a b p ≡ rights a b p → 1 ≤ u + v → q.y ≡ p.y → q.x ≤ p.x →
    a.y ≤ q.y → q.y < b.y → Stop (edge a b) q p
stop_between a b q p u v left right some level west lo hi =
    record {
      times = u + v;
      place = mean u v q p;
      above = some;
      level = omega (arith, ap (λ (n : ℕ). v * n) level);
      east_of = omega (arith, mul-le-mul_left u west);
      west_of = omega (arith, mul-le-mul_left v west);
      on =
          on_steep (grown (u + v) a) (grown (u + v) b) (mean u v q p) line (omega (arith, mul-le-mul_left (u + v) lo, ap (λ (n : ℕ). u * n) level))
          (omega (arith, mul-le-mul_left (u + v) hi, ap (λ (n : ℕ). u * n) level)) (omega (arith, some, mul-le-mul_left (u + v) hi, mul-le-mul_left (u + v) lo));
      uncrossed = line_uncrossed (grown_edge (u + v) (edge a b)) (mean u v q p) line;
    }
  where
    line : lefts (grown (u + v) a) (grown (u + v) b) (mean u v q p) ≡ rights (grown (u + v) a) (grown (u + v) b) (mean u v q p)
    line = mean_crosses q p a b u v left right

-- of a rising edge
rising_stop : (a b q p : Corner) → q.y ≡ p.y → q.x ≤ p.x → rises (edge a b) q ≡ true → rises (edge a b) p ≡ false → Stop (edge a b) q p
rising_stop a b q p level west h k =
    let w = and_parts (leb a.y q.y && ltb q.y b.y) (left_turn a b q) h in
    let z = and_parts (leb a.y q.y) (ltb q.y b.y) w.0 in
    let not_left : left_turn a b p ≡ false =
    contrapose (left_turn a b p) (rises (edge a b) p) (λ t. and_from _ _ (ap (λ y. leb a.y y && ltb y b.y) (sym level) ∙ w.0) t) k
    in
    let left = ltb-true (rights a b q) (lefts a b q) w.1 in
    stop_between a b q p (lefts a b q - rights a b q) (rights a b p - lefts a b p) (gap (rights a b q) (lefts a b q) (le_of_lt left))
    (gap (lefts a b p) (rights a b p) (ltb-false (rights a b p) (lefts a b p) not_left)) (some (rights a b q) (lefts a b q) (rights a b p - lefts a b p) left) level
    west (leb-true a.y q.y z.0) (ltb-true q.y b.y z.1)
  where
    gap : (m n : ℕ) → m ≤ n → (n - m) + m ≡ n
    gap m n h = omega arith

    some : (m n z : ℕ) → m < n → 1 ≤ (n - m) + z
    some m n z h = omega arith

-- of any edge
pub stop : (e : Edge) (q p : Corner) → q.y ≡ p.y → q.x ≤ p.x → crosses e q ≡ true → crosses e p ≡ false → Stop e q p
stop e q p level west h k =
    ⊎_elim (λ r. rising_stop e.one e.other q p level west r (falser (rises e p) (falls e p) k))
    (λ r. turned (rising_stop e.other e.one q p level west (rises_reversed e q ∙ r) (rises_reversed e p ∙ falser₁ (rises e p) (falls e p) k)))
    (or_cases (rises e q) (falls e q) h)
  where
    falser : (s t : Bool) → or s t ≡ false → s ≡ false
    falser s t h = (or_parts s t h).0

    falser₁ : (s t : Bool) → or s t ≡ false → t ≡ false
    falser₁ s t h = (or_parts s t h).1

    turned : Stop (reversed e) q p → Stop e q p
    turned s =
        record {
          times = s.times;
          place = s.place;
          above = s.above;
          level = s.level;
          east_of = s.east_of;
          west_of = s.west_of;
          on = sym (on_edge_reversed (grown_edge s.times e) s.place) ∙ s.on;
          uncrossed = sym (crosses_reversed (grown_edge s.times e) s.place) ∙ s.uncrossed;
        }

-- THE FIRST WALL: a place at the height of p, not east of it, from which the same edges are crossed; it is on one of them, or on the western border of all
pub record Wall (es : List Edge) (p : Corner) : Type 0 where
  pub times : ℕ
  pub place : Corner
  pub above : 1 ≤ times
  pub level : place.y ≡ times * p.y
  pub west_of : place.x ≤ times * p.x
  pub same : (g : Edge) → In g es → crosses (grown_edge times g) place ≡ crosses g p
  pub standing : ((e : Edge) × In e es × (on_edge (grown_edge times e) place ≡ true)) ⊎ (place.x ≡ 0)

-- one edge more: it stands farther east than the wall so far, or it doesn't
wall_more : (f : Edge) (es : List Edge) (p : Corner) → Wall es p → Wall (f ∷ es) p
wall_more f es p w =
    ⊎_elim (λ h. ⊎_elim (λ k. keep (h ∙ sym k)) (λ k. move h k) (cases_Bool (crosses f p))) (λ h. keep (h ∙ sym (west_too h)))
    (cases_Bool (crosses (grown_edge w.times f) w.place))
  where
    n : ℕ
    n = w.times

    q : Corner
    q = w.place

    p' : Corner
    p' = grown n p

    at_p : (g : Edge) → crosses (grown_edge n g) p' ≡ crosses g p
    at_p g = crosses_grown n w.above g p

    west_too : crosses (grown_edge n f) q ≡ false → crosses f p ≡ false
    west_too h =
        sym (at_p f) ∙ contrapose (crosses (grown_edge n f) p') (crosses (grown_edge n f) q) (crosses_farther (grown_edge n f) q p' w.level w.west_of) h

    keep : crosses (grown_edge n f) q ≡ crosses f p → Wall (f ∷ es) p
    keep h =
        record {
          times = n;
          place = q;
          above = w.above;
          level = w.level;
          west_of = w.west_of;
          same = λ g i. ⊎_elim (λ e. ap (λ z. crosses (grown_edge n z) q) e ∙ h ∙ ap (λ z. crosses z p) (sym e)) (λ j. w.same g j) i;
          standing = ⊎_elim (λ s. inl (s.0, inr s.1, s.2)) (λ s. inr s) w.standing;
        }

    move : crosses (grown_edge n f) q ≡ true → crosses f p ≡ false → Wall (f ∷ es) p
    move h k = moved (stop (grown_edge n f) q p' w.level w.west_of h (at_p f ∙ k))
      where
        moved : Stop (grown_edge n f) q p' → Wall (f ∷ es) p
        moved s =
            record {
              times = s.times * n;
              place = s.place;
              above = mul-le-mul s.above w.above;
              level = s.level ∙ sym (mul_assoc s.times n p.y);
              west_of = subst (λ z. s.place.x ≤ z) (sym (mul_assoc s.times n p.x)) s.west_of;
              same = λ g i. ap (λ z. crosses z s.place) (grown_edge_twice s.times n g) ∙ ⊎_elim (λ e. here g e) (λ j. there g j) i;
              standing = inl (f, inl refl, ap (λ z. on_edge z s.place) (grown_edge_twice s.times n f) ∙ s.on);
            }
          where
            here : (g : Edge) → g ≡ f → crosses (grown_edge s.times (grown_edge n g)) s.place ≡ crosses g p
            here g e =
                ap (λ z. crosses (grown_edge s.times (grown_edge n z)) s.place) e ∙ s.uncrossed ∙ sym (ap (λ z. crosses z p) e ∙ k)

            there : (g : Edge) → In g es → crosses (grown_edge s.times (grown_edge n g)) s.place ≡ crosses g p
            there g j =
                sandwiched (grown_edge s.times (grown_edge n g)) (grown s.times q) s.place (grown s.times p')
                (ap (λ (z : ℕ). s.times * z) w.level ∙ sym s.level) s.level s.east_of s.west_of
                (crosses_grown s.times s.above (grown_edge n g) q ∙ w.same g j ∙ sym (at_p g)
                ∙ sym (crosses_grown s.times s.above (grown_edge n g) p'))
                ∙ crosses_grown s.times s.above (grown_edge n g) p' ∙ at_p g

-- to the west of every corner there is such a wall
pub wall : (es : List Edge) (p : Corner) → Wall es p
wall [] p =
    record {
      times = 1;
      place = corner 0 (1 * p.y);
      above = omega arith;
      level = refl;
      west_of = omega arith;
      same = λ g i. absurd i;
      standing = inr refl;
    }
wall (f ∷ es) p = wall_more f es p (wall es p)
