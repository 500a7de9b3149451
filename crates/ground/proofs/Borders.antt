-- Beside each point of a ground's border there is a point inside it; and so near that it lies to another list of edges as the border point does, if that is on
-- none of them.
use Rattle.std.proofs.Common.{◌≡◌, ℕ, ◌+◌, ◌*◌, ◌<◌, ◌≤◌, Bool, true, false, ◌&&◌, ltb, leb, List, ◌∷◌, ◌++◌, sym, ap, ◌∙◌, subst, ⊎_elim, le_of_lt, mul-le-mul, mul-le-mul_left, arith}
use Rattle.std.proofs.lemmas.Bool.{cases_eq, and_parts, eqb-true, ltb-true}
use Rattle.std.proofs.lemmas.Bool.Decides.{nat_tests}
use Rattle.plane.specs.Lists.{or, any, each}
use Rattle.plane.specs.Corners.{Corner, grown, in_line, between}
use Rattle.plane.specs.Edges.{Edge, grown_edge, on_edge}
use Rattle.plane.specs.Parity.{Closed, crosses, parity}
use Rattle.plane.proofs.Lists.{In, each_in, each_append, each_each, each_same, in_each, any_one, any_each, any_same, every_at}
use Rattle.plane.proofs.Xors.{xors_each, xors_same}
use Rattle.plane.proofs.Chains.{moved, closed_grown, closed_moved}
use Rattle.plane.proofs.Turns.{mirrored}
use Rattle.plane.proofs.Northward.{on_edge_mirrored, parity_mirrored}
use Rattle.plane.proofs.Sides.{on_edge_parts}
use Rattle.plane.proofs.Incidence.{between_cases}
use Rattle.plane.proofs.Reversal.{between_comm}
use Rattle.plane.proofs.Growth.{grown_edge_twice, crosses_grown, square_above}
use Rattle.plane.proofs.Beside.{Below}
use Rattle.plane.proofs.Stepping.{AllBelow, Alone, PlaceBeside, one_side}
use Rattle.plane.proofs.Nearby.{Near}
use Rattle.plane.proofs.Vicinity.{parity_near, free_near}
use Rattle.plane.proofs.Crossings.{mean, convex, one_on, other_on}
use Rattle.plane.proofs.Boxes.{both_ends}
use Rattle.ground.specs.Shapes.{Shape, edges, a_shape}
use Rattle.ground.proofs.Rings.{closed_edges, every_end, shape_parts}
use Rattle.ground.proofs.Clearance.{fine, fine_comm, ring_fine, pairwise, pairwise_around, split_in, alone}
use Rattle.ground.proofs.Symmetry.{fine_grown, fine_mirrored, pairwise_each, ring_distinct, ends_apart, distinct_grown}

-- a place inside, all made so many times as large, on no edge of the one list or the other
pub record PlaceInside (es ts : List Edge) (odd : Bool) : Type 0 where
  pub times : ℕ
  pub place : Corner
  pub above : 1 ≤ times
  pub inside_one : parity (each (grown_edge times) es) place ≡ true
  pub off_one : any (λ e. on_edge e place) (each (grown_edge times) es) ≡ false
  pub in_other : parity (each (grown_edge times) ts) place ≡ odd
  pub off_other : any (λ e. on_edge e place) (each (grown_edge times) ts) ≡ false

-- made n times as large and k times before that
pub grown_both : (n k : ℕ) (es : List Edge) → each (grown_edge n) (each (grown_edge k) es) ≡ each (grown_edge (n * k)) es
grown_both n k es =
    each_each (grown_edge n) (grown_edge k) es ∙ sym (each_same (grown_edge (n * k)) (λ e. grown_edge n (grown_edge k e)) es (grown_edge_twice n k))

-- a corner's parity is the same when all grows
pub parity_grown : (k : ℕ) → 1 ≤ k → (es : List Edge) (c : Corner) → parity (each (grown_edge k) es) (grown k c) ≡ parity es c
parity_grown k above es c =
    xors_each (λ e. crosses e (grown k c)) (grown_edge k) es
    ∙ xors_same (λ e. crosses (grown_edge k e) (grown k c)) (λ e. crosses e c) es (λ e. crosses_grown k above e c)

-- OVER PLAIN NUMBERS: p between a and b, and not b; a little on from p towards b
module _ (v a b p : ℕ) (some : 1 ≤ v) (held : between a b p ≡ true) (short : p ≡ b → ⊥) where
  slid_off_one : v * p + 1 * b ≡ (1 + v) * a → ⊥
  slid_off_one e =
      ⊎_elim (λ h. omega (arith, mul-le-mul_left v h.0)) (λ h. omega (arith, mul-le-mul_left v h.1)) (between_cases a b p held)

  -- nor is it at b
  slid_off_other : v * p + 1 * b ≡ (1 + v) * b → ⊥
  slid_off_other e =
      ⊎_elim (λ h. let k : p < b = omega arith in omega (arith, mul-le-mul_left v k)) (λ h. let k : b < p = omega arith in omega (arith, mul-le-mul_left v k))
      (between_cases a b p held)

-- what is strictly between, going up or down
past_strictly : (a b c : ℕ) → between a b c ≡ true → (c ≡ a → ⊥) → (c ≡ b → ⊥) → or (leb a c && ltb c b) (leb b c && ltb c a) ≡ true
past_strictly a b c h k l = grind (arith, nat_tests)

-- what is between two numbers below m is below m
below_between : (a b c m : ℕ) → between a b c ≡ true → a < m → b < m → c < m
below_between a b c m h k l = ⊎_elim (λ z. omega arith) (λ z. omega arith) (between_cases a b c h)

-- what is on an edge has coordinates below m, if its ends have
pub below_on : (e : Edge) (p : Corner) (m : ℕ) → on_edge e p ≡ true → Below m e.one → Below m e.other → Below m p
below_on e p m on a b =
    let h = on_edge_parts e p on in
    (below_between e.one.x e.other.x p.x m h.1 a.0 b.0, below_between e.one.y e.other.y p.y m h.2 a.1 b.1)

-- a little on from p towards z is near p
pub near_mean : (v m : ℕ) (p z : Corner) → Below m p → Below m z → Near (1 + v) m p (mean 1 v p z)
near_mean v m p z below_p below_z =
    let px = below_p.0 in
    let py = below_p.1 in
    let zx = below_z.0 in
    let zy = below_z.1 in
    record { not_west = omega arith; not_east = omega arith; not_south = omega arith; not_north = omega arith }

-- A LITTLE ON FROM A POINT of an edge that is not level, all made 1 + v times as large: amid the edge, and near the point
record Slid (e : Edge) (p : Corner) (m v : ℕ) : Type 0 where
  place : Corner
  on : on_edge (grown_edge (1 + v) e) place ≡ true
  off_one : place.y ≡ (1 + v) * e.one.y → ⊥
  off_other : place.y ≡ (1 + v) * e.other.y → ⊥
  near : Near (1 + v) m p place

-- towards the end that the point is not at the height of
slid : (e : Edge) (p : Corner) (m v : ℕ) → 1 ≤ v → on_edge e p ≡ true → (e.one.y ≡ e.other.y → ⊥) → Below m e.one → Below m e.other → Slid e p m v
slid e p m v some on steep below_one below_other =
    ⊎_elim
    (λ h.
    let short : p.y ≡ a.y → ⊥ = λ k. steep (sym k ∙ h) in
    let held_back = between_comm a.y b.y p.y ∙ held in
    towards a (one_on e) below_one (slid_off_other v b.y a.y p.y some held_back short) (slid_off_one v b.y a.y p.y some held_back short))
    (λ short.
    towards b (other_on e) below_other (slid_off_one v a.y b.y p.y some held short)
    (slid_off_other v a.y b.y p.y some held short))
    (cases_eq p.y b.y)
  where
    a : Corner
    a = e.one

    b : Corner
    b = e.other

    here : (in_line a b p ≡ true) × (between a.x b.x p.x ≡ true) × (between a.y b.y p.y ≡ true)
    here = on_edge_parts e p on

    held : between a.y b.y p.y ≡ true
    held = here.2

    towards : (z : Corner) → on_edge e z ≡ true → Below m z → (v * p.y + 1 * z.y ≡ (1 + v) * a.y → ⊥) → (v * p.y + 1 * z.y ≡ (1 + v) * b.y → ⊥) → Slid e p m v
    towards z on_z below off_a off_b =
        record {
          place = mean 1 v p z;
          on = convex 1 v e p z on on_z;
          off_one = off_a;
          off_other = off_b;
          near = near_mean v m p z (below_on e p m on below_one below_other) below;
        }

-- a corner is near itself
near_self : (k m : ℕ) (p : Corner) → Near k m p (grown k p)
near_self k m p = record { not_west = omega arith; not_east = omega arith; not_south = omega arith; not_north = omega arith }

-- grown k times, what was below m is below k * m + 2
pub below_grown : (k m : ℕ) (es : List Edge) → AllBelow m es → 1 ≤ k → AllBelow (k * m + 2) (each (grown_edge k) es)
below_grown k m es small above g i =
    let w = each_in (grown_edge k) g es i in
    let s = small w.0 w.1 in
    subst (λ t. Below (k * m + 2) t.one × Below (k * m + 2) t.other) (sym w.2) (
      (less w.0.one.x s.0.0, less w.0.one.y s.0.1),
      (less w.0.other.x s.1.0, less w.0.other.y s.1.1),
    )
  where
    less : (n : ℕ) → n < m → k * n < k * m + 2
    less n h = omega (arith, mul-le-mul_left k (le_of_lt h))

-- BESIDE A POINT OF AN EDGE THAT IS NOT LEVEL
beside_steep : (m : ℕ) (es ts : List Edge) → Closed es → Closed ts → pairwise fine es ≡ true → AllBelow m es → AllBelow m ts → (e : Edge) →
    In e es → (p : Corner) → on_edge e p ≡ true → (e.one.y ≡ e.other.y → ⊥) → any (λ f. on_edge f p) ts ≡ false → PlaceInside es ts (parity ts p)
unfolding each
beside_steep m es ts closed closed_ts clear small small_ts e i p on steep off =
    told (one_side n two before₁ e₁ after₁ q closed₁ small₁ lone ts₁ small_ts₁ off₁)
  where
    some : 1 ≤ m
    some = let h = (small e i).0.0 in omega arith

    v : ℕ
    v = 4 * (m * m)

    some_v : 1 ≤ 4 * (m * m)
    some_v = omega (arith, mul-le-mul some some)

    k : ℕ
    k = 1 + v

    above : 1 ≤ 1 + 4 * (m * m)
    above = omega arith

    n : ℕ
    n = k * m + 2

    two : 2 ≤ (1 + 4 * (m * m)) * m + 2
    two = omega arith

    one : 1 ≤ (1 + 4 * (m * m)) * m + 2
    one = omega arith

    s : Slid e p m v
    s = slid e p m v some_v on steep (small e i).0 (small e i).1

    q : Corner
    q = s.place

    cut : (before : List Edge) × (after : List Edge) × (es ≡ before ++ e ∷ after)
    cut = split_in e es i

    before₁ : List Edge
    before₁ = each (grown_edge k) cut.0

    e₁ : Edge
    e₁ = grown_edge k e

    after₁ : List Edge
    after₁ = each (grown_edge k) cut.1

    ts₁ : List Edge
    ts₁ = each (grown_edge k) ts

    ring : each (grown_edge k) es ≡ before₁ ++ e₁ ∷ after₁
    ring = ap (each (grown_edge k)) cut.2 ∙ each_append (grown_edge k) cut.0 (e ∷ cut.1)

    closed₁ : Closed (before₁ ++ e₁ ∷ after₁)
    closed₁ = subst Closed ring (closed_grown k es closed)

    small₁ : AllBelow n (before₁ ++ e₁ ∷ after₁)
    small₁ = subst (AllBelow n) ring (below_grown k m es small above)

    small_ts₁ : AllBelow n ts₁
    small_ts₁ = below_grown k m ts small_ts above

    around : ((f : Edge) → In f cut.0 → fine e f ≡ true) × ((f : Edge) → In f cut.1 → fine e f ≡ true)
    around = pairwise_around fine fine_comm cut.0 e cut.1 (subst (λ fs. pairwise fine fs ≡ true) cut.2 clear)

    others : (fs : List Edge) → ((f : Edge) → In f fs → fine e f ≡ true) → (g : Edge) → In g (each (grown_edge k) fs) → on_edge g q ≡ false
    others fs each_fine g j =
        let w = each_in (grown_edge k) g fs j in
        ap (λ t. on_edge t q) w.2 ∙ alone k above q e s.on (λ _ h. s.off_one h) (λ _ h. s.off_other h) w.0 (each_fine w.0 w.1)

    lone : Alone before₁ e₁ after₁ q
    lone =
        record {
          line = eqb-true _ _ (on_edge_parts e₁ q s.on).0;
          past = past_strictly (k * e.one.y) (k * e.other.y) q.y (on_edge_parts e₁ q s.on).2 s.off_one s.off_other;
          off_before = others cut.0 around.0;
          off_after = others cut.1 around.1;
        }

    large : 4 * (m * m) < 1 + 4 * (m * m)
    large = omega arith

    off₁ : any (λ f. on_edge f q) ts₁ ≡ false
    off₁ = free_near k m m large p q q s.near s.near ts small_ts off

    stays : parity ts₁ q ≡ parity ts p
    stays = parity_near k m m large p q (grown k p) s.near (near_self k m p) ts small_ts off closed_ts ∙ parity_grown k above ts p

    told : PlaceBeside (each (grown_edge (n * n)) (before₁ ++ e₁ ∷ after₁)) (each (grown_edge (n * n)) ts₁) (parity ts₁ q) → PlaceInside es ts (parity ts p)
    told w =
        record {
          times = (n * n) * k;
          place = w.0;
          above = mul-le-mul (square_above n one) above;
          inside_one = ap (λ fs. parity fs w.0) (sym whole) ∙ w.1;
          off_one = ap (any (λ f. on_edge f w.0)) (sym whole) ∙ w.2;
          in_other = ap (λ fs. parity fs w.0) (sym (grown_both (n * n) k ts)) ∙ w.3 ∙ stays;
          off_other = ap (any (λ f. on_edge f w.0)) (sym (grown_both (n * n) k ts)) ∙ w.4;
        }
      where
        whole : each (grown_edge (n * n)) (before₁ ++ e₁ ∷ after₁) ≡ each (grown_edge ((n * n) * k)) es
        whole = ap (each (grown_edge (n * n))) (sym ring) ∙ grown_both (n * n) k es

-- IN THE MIRROR, east for north
mirrored_grown : (k : ℕ) (es : List Edge) → each (grown_edge k) (each (moved mirrored) es) ≡ each (moved mirrored) (each (grown_edge k) es)
mirrored_grown k es = each_each (grown_edge k) (moved mirrored) es ∙ sym (each_each (moved mirrored) (grown_edge k) es)

-- a corner is on the same edges in the mirror
mirrored_off : (es : List Edge) (c : Corner) → any (λ e. on_edge e (mirrored c)) (each (moved mirrored) es) ≡ any (λ e. on_edge e c) es
mirrored_off es c =
    any_each (λ e. on_edge e (mirrored c)) (moved mirrored) es
    ∙ any_same (λ e. on_edge (moved mirrored e) (mirrored c)) (λ e. on_edge e c) es (λ e. on_edge_mirrored e c)

-- and coordinates keep their bound
mirrored_below : (m : ℕ) (es : List Edge) → AllBelow m es → AllBelow m (each (moved mirrored) es)
mirrored_below m es small g i =
    let w = each_in (moved mirrored) g es i in
    let s = small w.0 w.1 in
    subst (λ t. Below m t.one × Below m t.other) (sym w.2) ((s.0.1, s.0.0), (s.1.1, s.1.0))

-- BESIDE A POINT OF THE BORDER: es are the edges of a ground, or so placed two by two, and none of them is a single corner
pub beside_border : (m : ℕ) (es ts : List Edge) → Closed es → Closed ts → pairwise fine es ≡ true →
    ((e : Edge) → In e es → e.one.x ≡ e.other.x → e.one.y ≡ e.other.y → ⊥) → AllBelow m es → AllBelow m ts → (p : Corner) → any (λ e. on_edge e p) es ≡ true → any (λ f. on_edge f p) ts ≡ false → PlaceInside es ts (parity ts p)
beside_border m es ts closed closed_ts clear distinct small small_ts p on off = at_edge (any_one (λ e. on_edge e p) es on)
  where
    at_edge : (e : Edge) × In e es × (on_edge e p ≡ true) → PlaceInside es ts (parity ts p)
    at_edge (e, i, h) =
        ⊎_elim (λ level. back (across level)) (λ steep. beside_steep m es ts closed closed_ts clear small small_ts e i p h steep off)
        (cases_eq e.one.y e.other.y)
      where
        across : e.one.y ≡ e.other.y → PlaceInside (each (moved mirrored) es) (each (moved mirrored) ts) (parity (each (moved mirrored) ts) (mirrored p))
        across level =
            beside_steep m (each (moved mirrored) es) (each (moved mirrored) ts) (closed_moved mirrored es closed) (closed_moved mirrored ts closed_ts)
            (pairwise_each fine (moved mirrored) fine_mirrored es ∙ clear) (mirrored_below m es small) (mirrored_below m ts small_ts) (moved mirrored e)
            (in_each (moved mirrored) e es i) (mirrored p) (on_edge_mirrored e p ∙ h) (λ k. distinct e i k level) (mirrored_off ts p ∙ off)

        back : PlaceInside (each (moved mirrored) es) (each (moved mirrored) ts) (parity (each (moved mirrored) ts) (mirrored p)) → PlaceInside es ts (parity ts p)
        back w =
            record {
              times = k;
              place = c;
              above = w.above;
              inside_one =
                  sym (parity_mirrored (each (grown_edge k) es) c (closed_grown k es closed) free_es) ∙ ap (λ fs. parity fs w.place) (sym (mirrored_grown k es))
                  ∙ w.inside_one;
              off_one = free_es;
              in_other =
                  sym (parity_mirrored (each (grown_edge k) ts) c (closed_grown k ts closed_ts) free_ts) ∙ ap (λ fs. parity fs w.place) (sym (mirrored_grown k ts))
                  ∙ w.in_other ∙ parity_mirrored ts p closed_ts off;
              off_other = free_ts;
            }
          where
            k : ℕ
            k = w.times

            c : Corner
            c = mirrored w.place

            free : (fs : List Edge) → any (λ f. on_edge f w.place) (each (grown_edge k) (each (moved mirrored) fs)) ≡ false →
                any (λ f. on_edge f c) (each (grown_edge k) fs) ≡ false
            free fs h = sym (mirrored_off (each (grown_edge k) fs) c) ∙ ap (any (λ f. on_edge f w.place)) (sym (mirrored_grown k fs)) ∙ h

            free_es : any (λ f. on_edge f c) (each (grown_edge k) es) ≡ false
            free_es = free es w.off_one

            free_ts : any (λ f. on_edge f c) (each (grown_edge k) ts) ≡ false
            free_ts = free ts w.off_other

-- THE BORDER OF A GROUND: its corners are below 2^20, and its edges placed so
pub below_edges : (s : Shape) → a_shape s ≡ true → AllBelow 1048576 (edges s)
below_edges s shaped e i =
    let p = and_parts (small e.one) (small e.other) (every_at (both_ends small) e (edges s) i (every_end small s (shape_parts s shaped).small)) in
    (below e.one p.0, below e.other p.1)
  where
    small : Corner → Bool
    small c = ltb c.x 1048576 && ltb c.y 1048576

    below : (c : Corner) → small c ≡ true → Below 1048576 c
    below c h = let q = and_parts (ltb c.x 1048576) (ltb c.y 1048576) h in (ltb-true c.x 1048576 q.0, ltb-true c.y 1048576 q.1)

-- beside a point of it, all made w times as large
pub beside_ground : (w : ℕ) → 1 ≤ w → (s : Shape) → a_shape s ≡ true → (ts : List Edge) → Closed ts → AllBelow (w * 1048576 + 2) ts → (p : Corner) →
    any (λ e. on_edge e p) (each (grown_edge w) (edges s)) ≡ true → any (λ f. on_edge f p) ts ≡ false → PlaceInside (each (grown_edge w) (edges s)) ts (parity ts p)
beside_ground w above s shaped ts closed small p =
    beside_border (w * 1048576 + 2) (each (grown_edge w) (edges s)) ts (closed_grown w (edges s) (closed_edges s)) closed
    (pairwise_each fine (grown_edge w) (fine_grown w above) (edges s) ∙ ring_fine (edges s) (shape_parts s shaped).clear)
    (ends_apart (each (grown_edge w) (edges s)) (distinct_grown w above (edges s) ∙ ring_distinct (edges s) (shape_parts s shaped).clear))
    (below_grown w 1048576 (edges s) (below_edges s shaped) above) small p
