-- Near a corner, all made k times as large: a small step changes the parity by the edges that pass through the corner and have the step's ends on their two
-- sides.
use Rattle.std.proofs.Common.{◌≡◌, ℕ, ◌+◌, ◌*◌, ◌<◌, ◌≤◌, Bool, true, false, not, ◌&&◌, ◌⊎◌, List, sym, ap, ◌∙◌, inl, inr, ⊎_elim, le_of_lt, mul-le-mul_right, mul-le-mul_left, arith}
use native.Mathlib.Nat.{mul-lt-mul_of_pos_left}
use Rattle.std.proofs.lemmas.Bool.{cases_eq, cases_order, cases_Bool, and_cases, and_parts, and_left, and_from, eqb-true, eqb-false, eq-eqb}
use Rattle.std.proofs.lemmas.Bool.Decides.{nat_tests}
use Rattle.plane.specs.Lists.{each}
use Rattle.plane.specs.Corners.{Corner, grown, same_corner, lefts, rights, in_line, between}
use Rattle.plane.specs.Edges.{Edge, edge, grown_edge, on_edge, cross_over, meet}
use Rattle.plane.specs.Parity.{xor, xors, Closed, parity, touches, spoils, CrossingParity}
use Rattle.plane.specs.Orientation.{amid}
use Rattle.plane.proofs.Booleans.{not_both, false_from_not, or_parts}
use Rattle.plane.proofs.Lists.{In, any_each, any_false_from}
use Rattle.plane.proofs.Xors.{xors_in, xors_each}
use Rattle.plane.proofs.Products.{product_zero}
use Rattle.plane.proofs.Incidence.{between_cases}
use Rattle.plane.proofs.Strips.{Inside, Passed, passed_east, passed_west, passed_north, passed_south}
use Rattle.plane.proofs.Chains.{reversed, closed_grown}
use Rattle.plane.proofs.Reversal.{parts}
use Rattle.plane.proofs.Parity.{crossing_parity}

-- OVER PLAIN NUMBERS: p in line with a and b, and not a
-- where b is at another height than a, so is p
off_end :
    (ax ay bx by px py : ℕ) → ax * by + bx * py + px * ay ≡ ay * bx + by * px + py * ax → (ax ≡ px → ay ≡ py → ⊥) → (ay ≡ by → ⊥) → ay ≡ py → ⊥
off_end ax ay bx by px py line no_a steep e =
    ⊎_elim (λ h. no_a h e) steep (product_zero ax px ay by (omega (arith, ap (λ (n : ℕ). bx * n) e, ap (λ (n : ℕ). n * ax) e)))

-- nor b, and between them: so it is strictly, in some direction
strictly :
    (ax ay bx by px py : ℕ) → ax * by + bx * py + px * ay ≡ ay * bx + by * px + py * ax → (ax ≡ px → ay ≡ py → ⊥) → (bx ≡ px → by ≡ py → ⊥) →
    ((ax ≤ px) × (px ≤ bx)) ⊎ ((bx ≤ px) × (px ≤ ax)) → ((ay ≤ py) × (py ≤ by)) ⊎ ((by ≤ py) × (py ≤ ay)) →
    ((ay < py) × (py < by)) ⊎ (((by < py) × (py < ay)) ⊎ (((ax < px) × (px < bx)) ⊎ ((bx < px) × (px < ax))))
strictly ax ay bx by px py line no_a no_b held_x held_y = ⊎_elim level (λ h. steep (omega arith)) (cases_eq ay by)
  where
    level : ay ≡ by → ((ay < py) × (py < by)) ⊎ (((by < py) × (py < ay)) ⊎ (((ax < px) × (px < bx)) ⊎ ((bx < px) × (px < ax))))
    level e =
        let ea : ay ≡ py = ⊎_elim (λ k. omega arith) (λ k. omega arith) held_y in
        let na : ax ≡ px → ⊥ = λ h. no_a h ea in
        let nb : bx ≡ px → ⊥ = λ h. no_b h (omega arith) in
        inr (inr (⊎_elim (λ k. inl (omega arith)) (λ k. inr (omega arith)) held_x))

    steep : (ay ≡ by → ⊥) → ((ay < py) × (py < by)) ⊎ (((by < py) × (py < ay)) ⊎ (((ax < px) × (px < bx)) ⊎ ((bx < px) × (px < ax))))
    steep s =
        let na : ay ≡ py → ⊥ = off_end ax ay bx by px py line no_a s in
        let nb : by ≡ py → ⊥ = off_end bx by ax ay px py (omega arith) no_b (omega arith) in
        ⊎_elim (λ k. inl (omega arith)) (λ k. inr (inl (omega arith))) held_y

-- a number that grows k times, and one that is near to where another comes
pub near_above : (k t a p c : ℕ) → t < k → a < p → k * p ≤ c + t → k * a < c
near_above k t a p c small h near = omega (arith, mul-le-mul_left k h)

pub near_below : (k t b p c : ℕ) → t < k → p < b → c ≤ k * p + t → c < k * b
near_below k t b p c small h near = omega (arith, mul-le-mul_left k h)

-- AMID AN EDGE
-- c is at most t away from where p comes when all is made k times as large, eastward and northward
pub record Near (k t : ℕ) (p c : Corner) : Type 0 where
  pub not_west : k * p.x ≤ c.x + t
  pub not_east : c.x ≤ k * p.x + t
  pub not_south : k * p.y ≤ c.y + t
  pub not_north : c.y ≤ k * p.y + t

-- in some direction p is strictly between the ends of an edge that it is amid
amid_inside :
    (e : Edge) (p : Corner) → amid e p ≡ true →
    Inside (λ c. c.y) e p ⊎ (Inside (λ c. c.y) (reversed e) p ⊎ (Inside (λ c. c.x) e p ⊎ Inside (λ c. c.x) (reversed e) p))
amid_inside e p h =
    let u = and_parts (on_edge e p) (not (same_corner a p) && not (same_corner b p)) h in
    let w = and_parts (not (same_corner a p)) (not (same_corner b p)) u.1 in
    let i = and_parts (in_line a b p) (between a.x b.x p.x && between a.y b.y p.y) u.0 in
    let j = and_parts (between a.x b.x p.x) (between a.y b.y p.y) i.1 in
    strictly a.x a.y b.x b.y p.x p.y (eqb-true (lefts a b p) (rights a b p) i.0) (differ a w.0) (differ b w.1)
    (between_cases a.x b.x p.x j.0) (between_cases a.y b.y p.y j.1)
  where
    a : Corner
    a = e.one

    b : Corner
    b = e.other

    differ : (c : Corner) → not (same_corner c p) ≡ true → c.x ≡ p.x → c.y ≡ p.y → ⊥
    differ c k hx hy =
        not_both (same_corner c p) (and_from _ _ (eq-eqb c.x p.x hx) (eq-eqb c.y p.y hy)) (false_from_not (same_corner c p) k)

-- a small step near p, off the line of an edge that p is amid, touches it nowhere, and is crossed over if its ends are on the two sides of it
module _
    (k t : ℕ) (small : t < k) (e : Edge) (p c d : Corner) (near_c : Near k t p c) (near_d : Near k t p d)
    (off_c : in_line (grown k e.one) (grown k e.other) c ≡ false) (off_d : in_line (grown k e.one) (grown k e.other) d ≡ false)
  where
    inside_y : (a b : Corner) (z : Corner) → Near k t p z → Inside (λ c. c.y) (edge a b) p → Inside (λ c. c.y) (grown_edge k (edge a b)) z
    inside_y a b z near h =
        (near_above k t a.y p.y z.y small h.0 near.not_south, near_below k t b.y p.y z.y small h.1 near.not_north)

    inside_x : (a b : Corner) (z : Corner) → Near k t p z → Inside (λ c. c.x) (edge a b) p → Inside (λ c. c.x) (grown_edge k (edge a b)) z
    inside_x a b z near h =
        (near_above k t a.x p.x z.x small h.0 near.not_west, near_below k t b.x p.x z.x small h.1 near.not_east)

    pub amid_passed : amid e p ≡ true → Passed (grown_edge k e) c d
    amid_passed h =
        ⊎_elim (λ i. passed_north (grown_edge k e) c d off_c off_d (inside_y a b c near_c i) (inside_y a b d near_d i))
        (⊎_elim (λ i. passed_south (grown_edge k e) c d off_c off_d (inside_y b a c near_c i) (inside_y b a d near_d i))
        (⊎_elim (λ i. passed_east (grown_edge k e) c d off_c off_d (inside_x a b c near_c i) (inside_x a b d near_d i))
        (λ i. passed_west (grown_edge k e) c d off_c off_d (inside_x b a c near_c i) (inside_x b a d near_d i))))
        (amid_inside e p h)
      where
        a : Corner
        a = e.one

        b : Corner
        b = e.other

-- an edge through p has the ends of the step from c to d on its two sides
abbrev pub stepped : ℕ → Corner → Corner → Corner → Edge → Bool
stepped k p c d e = on_edge e p && parts (grown_edge k e) (edge c d)

-- ALL EDGES: each that p is on has p amid it, and the step's ends off its line; each other does not meet the step
module _
    (k t : ℕ) (small : t < k) (es : List Edge) (p c d : Corner) (near_c : Near k t p c) (near_d : Near k t p d)
    (through : (e : Edge) → In e es → on_edge e p ≡ true →
    (amid e p ≡ true) × (in_line (grown k e.one) (grown k e.other) c ≡ false) × (in_line (grown k e.one) (grown k e.other) d ≡ false))
    (aside : (e : Edge) → In e es → on_edge e p ≡ false → meet (grown_edge k e) (edge c d) ≡ false)
  where
    one_edge : (e : Edge) → In e es → (spoils c d (grown_edge k e) ≡ false) × (cross_over (grown_edge k e) (edge c d) ≡ stepped k p c d e)
    one_edge e m = ⊎_elim met (λ off. missed off (or_parts (cross_over f s) (touches c d f) (aside e m off))) (cases_Bool (on_edge e p))
      where
        f : Edge
        f = grown_edge k e

        s : Edge
        s = edge c d

        met : on_edge e p ≡ true → (spoils c d f ≡ false) × (cross_over f s ≡ stepped k p c d e)
        met on =
            let w = through e m on in
            let z = amid_passed k t small e p c d near_c near_d w.1 w.2 w.0 in
            (and_left (touches c d f) _ z.0, z.1 ∙ sym (ap (λ b. b && parts f s) on))

        missed : on_edge e p ≡ false → (cross_over f s ≡ false) × (touches c d f ≡ false) → (spoils c d f ≡ false) × (cross_over f s ≡ stepped k p c d e)
        missed off w = (and_left (touches c d f) _ w.1, w.0 ∙ sym (ap (λ b. b && parts f s) off))

    -- the parity changes by the edges through p that the step passes
    pub local : Closed es → xor (parity (each (grown_edge k) es) c) (parity (each (grown_edge k) es) d) ≡ xors (stepped k p c d) es
    unfolding CrossingParity
    local closed =
        crossing_parity (each (grown_edge k) es) c d (closed_grown k es closed)
        (any_each (spoils c d) (grown_edge k) es ∙ any_false_from (λ e. spoils c d (grown_edge k e)) es (λ e m. (one_edge e m).0))
        ∙ xors_each (λ e. cross_over e (edge c d)) (grown_edge k) es
        ∙ xors_in (λ e. cross_over (grown_edge k e) (edge c d)) (stepped k p c d) es (λ e m. (one_edge e m).1)

-- AN EDGE THAT MISSES p
-- what is left of an edge stays so nearby, where coordinates are below m, and k is large
near_turn :
    (k m t ax ay bx by px py cx cy : ℕ) → 4 * (m * t) < k → ax < m → ay < m → bx < m → by < m → k * px ≤ cx + t → cx ≤ k * px + t → k * py ≤ cy + t →
    cy ≤ k * py + t → ay * bx + by * px + py * ax < ax * by + bx * py + px * ay → k * (ay * bx) + by * cx + cy * ax < k * (ax * by) + bx * cy + cx * ay
near_turn k m t ax ay bx by px py cx cy large ha ha₁ hb hb₁ west east south north h =
    omega (
      arith,
      mul-le-mul_left k h,
      mul-le-mul_left bx south,
      mul-le-mul_left ay west,
      mul-le-mul_left by east,
      mul-le-mul_left ax north,
      mul-le-mul_right t (le_of_lt ha),
      mul-le-mul_right t (le_of_lt ha₁),
      mul-le-mul_right t (le_of_lt hb),
      mul-le-mul_right t (le_of_lt hb₁),
    )

module _ (k m t : ℕ) (large : 4 * (m * t) < k) (p c : Corner) (near : Near k t p c) where
  pub near_left :
      (a b : Corner) → a.x < m → a.y < m → b.x < m → b.y < m → rights a b p < lefts a b p →
      rights (grown k a) (grown k b) c < lefts (grown k a) (grown k b) c
  near_left a b ax ay bx by h =
      let inner =
      near_turn k m t a.x a.y b.x b.y p.x p.y c.x c.y large ax ay bx by near.not_west near.not_east near.not_south
      near.not_north h
      in
      omega (arith, mul-lt-mul_of_pos_left {k = k} inner (omega arith))

-- a number beyond both of two
abbrev pub Beyond : (n a b : ℕ) → Type 0
Beyond n a b = ((n < a) × (n < b)) ⊎ ((a < n) × (b < n))

beyond_from : (a b n : ℕ) → between a b n ≡ false → Beyond n a b
beyond_from a b n h = grind (arith, nat_tests)

-- what is not on an edge is left or right of it, or beyond both its ends in one direction
pub missed_cases :
    (a b p : Corner) → on_edge (edge a b) p ≡ false →
    (rights a b p < lefts a b p) ⊎ ((lefts a b p < rights a b p) ⊎ (Beyond p.x a.x b.x ⊎ Beyond p.y a.y b.y))
missed_cases a b p h =
    ⊎_elim (λ off. aside (eqb-false (lefts a b p) (rights a b p) off) (cases_order (lefts a b p) (rights a b p)))
    (λ out.
    inr
    (inr (⊎_elim (λ x. inl (beyond_from a.x b.x p.x x)) (λ y. inr (beyond_from a.y b.y p.y y))
    (and_cases (between a.x b.x p.x) (between a.y b.y p.y) out))))
    (and_cases (in_line a b p) (between a.x b.x p.x && between a.y b.y p.y) h)
  where
    aside :
        (lefts a b p ≡ rights a b p → ⊥) → (lefts a b p ≡ rights a b p) ⊎ ((lefts a b p < rights a b p) ⊎ (rights a b p < lefts a b p)) →
        (rights a b p < lefts a b p) ⊎ ((lefts a b p < rights a b p) ⊎ (Beyond p.x a.x b.x ⊎ Beyond p.y a.y b.y))
    aside off (inl e) = absurd (off e)
    aside off (inr (inl r)) = inr (inl r)
    aside off (inr (inr l)) = inl l
