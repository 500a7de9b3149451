-- Near a corner that is on no edge of a closed list, all made k times as large: small steps meet no edge, and the parity stays.
use Rattle.std.proofs.Common.{◌≡◌, ℕ, ◌+◌, ◌*◌, ◌<◌, ◌≤◌, true, false, List, sym, ◌∙◌, subst, ⊎_elim, mul-le-mul_right, arith}
use native.Mathlib.Nat.{mul-lt-mul_of_pos_left}
use Rattle.std.proofs.lemmas.Bool.{eqb-true, ltb-true, lt-ltb}
use Rattle.plane.specs.Lists.{or, any, each}
use Rattle.plane.specs.Corners.{Corner, grown, lefts, rights, in_line, between}
use Rattle.plane.specs.Edges.{Edge, edge, grown_edge, on_edge, cross_over, meet}
use Rattle.plane.specs.Parity.{Closed, parity, touches}
use Rattle.plane.proofs.Booleans.{false_from, or_parts}
use Rattle.plane.proofs.Lists.{In, any_each, any_false_from, any_false_at}
use Rattle.plane.proofs.Growth.{left_turn_grown}
use Rattle.plane.proofs.Turns.{lefts_swapped, rights_swapped}
use Rattle.plane.proofs.Beside.{Below}
use Rattle.plane.proofs.Sides.{on_edge_parts}
use Rattle.plane.proofs.Incidence.{between_cases}
use Rattle.plane.proofs.Proportion.{both_left}
use Rattle.plane.proofs.Chains.{closed_grown}
use Rattle.plane.proofs.Parity.{parity_unmet}
use Rattle.plane.proofs.Crossings.{meet_point, PointOfBoth}
use Rattle.plane.proofs.Nearby.{Near, Beyond, near_above, near_below, near_left, missed_cases}

-- two ranges one of which is below the other have no number in common
ranges_apart : (j c d a b x : ℕ) → 1 ≤ j → c < a → c < b → d < a → d < b → between (j * c) (j * d) x ≡ true → between (j * a) (j * b) x ≡ true → ⊥
ranges_apart j c d a b x above ca cb da db h k =
    let ca' : j * c < j * a = mul-lt-mul_of_pos_left ca above in
    let cb' : j * c < j * b = mul-lt-mul_of_pos_left cb above in
    let da' : j * d < j * a = mul-lt-mul_of_pos_left da above in
    let db' : j * d < j * b = mul-lt-mul_of_pos_left db above in
    ⊎_elim (λ y. ⊎_elim (λ z. omega arith) (λ z. omega arith) (between_cases (j * a) (j * b) x k))
    (λ y. ⊎_elim (λ z. omega arith) (λ z. omega arith) (between_cases (j * a) (j * b) x k)) (between_cases (j * c) (j * d) x h)

-- what is less is not the same
less_not_same : (a b : ℕ) → a < b → a ≡ b → ⊥
less_not_same a b h e = omega arith

-- both ends of the edge have coordinates below m
abbrev pub EndsBelow : ℕ → Edge → Type 0
EndsBelow m e = Below m e.one × Below m e.other

module _ (k m t : ℕ) (large : 4 * (m * t) < k) (p c d : Corner) (near_c : Near k t p c) (near_d : Near k t p d) where
  small : 1 ≤ m → t < k
  small some = omega (arith, mul-le-mul_right t some)

  -- in one direction, p is beyond both ends of an edge: so are c and d
  beyond_apart : (j pv cv dv av bv x : ℕ) → 1 ≤ j → 1 ≤ m → k * pv ≤ cv + t → cv ≤ k * pv + t → k * pv ≤ dv + t → dv ≤ k * pv + t → Beyond pv av bv →
      between (j * cv) (j * dv) x ≡ true → between (j * (k * av)) (j * (k * bv)) x ≡ true → ⊥
  beyond_apart j pv cv dv av bv x above some cl ch dl dh b h z =
      ⊎_elim
      (λ lo.
      ranges_apart j cv dv (k * av) (k * bv) x above (near_below k t av pv cv (small some) lo.0 ch) (near_below k t bv pv cv (small some) lo.1 ch)
      (near_below k t av pv dv (small some) lo.0 dh) (near_below k t bv pv dv (small some) lo.1 dh) h z)
      (λ hi.
      ranges_apart j (k * av) (k * bv) cv dv x above (near_above k t av pv cv (small some) hi.0 cl) (near_above k t av pv dv (small some) hi.0 dl)
      (near_above k t bv pv cv (small some) hi.1 cl) (near_above k t bv pv dv (small some) hi.1 dl) z h)
      b

  -- p is left of an edge: so are c and d, and all between them
  left_apart : (a b : Corner) → Below m a → Below m b → rights a b p < lefts a b p → (j : ℕ) → 1 ≤ j → (x : Corner) →
      between (j * c.x) (j * d.x) x.x ≡ true → between (j * c.y) (j * d.y) x.y ≡ true → lefts (grown j c) (grown j d) x ≡ rights (grown j c) (grown j d) x →
      lefts (grown j (grown k a)) (grown j (grown k b)) x ≡ rights (grown j (grown k a)) (grown j (grown k b)) x → ⊥
  left_apart a b small_a small_b h j above x held_x held_y line zero =
      let same = both_left (grown j c) (grown j d) x A B line zero held_x held_y (at c near_c) (at d near_d) in
      less_not_same (rights A B x) (lefts A B x) (subst (λ z. rights A B z < lefts A B z) same (at c near_c)) (sym zero)
    where
      A : Corner
      A = grown j (grown k a)

      B : Corner
      B = grown j (grown k b)

      at : (z : Corner) → Near k t p z → rights A B (grown j z) < lefts A B (grown j z)
      at z near =
          ltb-true _ _
          (left_turn_grown j above (grown k a) (grown k b) z
          ∙ lt-ltb _ _ (near_left k m t large p z near a b small_a.0 small_a.1 small_b.0 small_b.1 h))

  -- an edge that misses p does not meet a small step near p
  pub aside_near : (e : Edge) → EndsBelow m e → on_edge e p ≡ false → meet (grown_edge k e) (edge c d) ≡ false
  aside_near e below off = false_from (meet (grown_edge k e) (edge c d)) (λ h. met (meet_point (grown_edge k e) (edge c d) h))
    where
      a : Corner
      a = e.one

      b : Corner
      b = e.other

      some : 1 ≤ m
      some = let h = below.0.0 in omega arith

      met : PointOfBoth (grown_edge k e) (edge c d) → ⊥
      met (j, x, above, here, there) =
          ⊎_elim left_of (⊎_elim right_of (⊎_elim east_west north_south)) (missed_cases a b p off)
        where
          on_e :
              (in_line (grown j (grown k a)) (grown j (grown k b)) x ≡ true) × (between (j * (k * a.x)) (j * (k * b.x)) x.x ≡ true)
              × (between (j * (k * a.y)) (j * (k * b.y)) x.y ≡ true)
          on_e = on_edge_parts (grown_edge j (grown_edge k e)) x here

          on_step : (in_line (grown j c) (grown j d) x ≡ true) × (between (j * c.x) (j * d.x) x.x ≡ true) × (between (j * c.y) (j * d.y) x.y ≡ true)
          on_step = on_edge_parts (grown_edge j (edge c d)) x there

          A : Corner
          A = grown j (grown k a)

          B : Corner
          B = grown j (grown k b)

          line : lefts (grown j c) (grown j d) x ≡ rights (grown j c) (grown j d) x
          line = eqb-true _ _ on_step.0

          zero : lefts A B x ≡ rights A B x
          zero = eqb-true _ _ on_e.0

          left_of : rights a b p < lefts a b p → ⊥
          left_of h = left_apart a b below.0 below.1 h j above x on_step.1 on_step.2 line zero

          right_of : lefts a b p < rights a b p → ⊥
          right_of h =
              left_apart b a below.1 below.0 (omega (arith, h)) j above x on_step.1 on_step.2 line
              (lefts_swapped A B x ∙ sym zero ∙ sym (rights_swapped A B x))

          east_west : Beyond p.x a.x b.x → ⊥
          east_west h =
              beyond_apart j p.x c.x d.x a.x b.x x.x above some near_c.not_west near_c.not_east near_d.not_west near_d.not_east h
              on_step.1 on_e.1

          north_south : Beyond p.y a.y b.y → ⊥
          north_south h =
              beyond_apart j p.y c.y d.y a.y b.y x.y above some near_c.not_south near_c.not_north near_d.not_south near_d.not_north h
              on_step.2 on_e.2

  -- nor is c on it
  pub off_near : (e : Edge) → EndsBelow m e → on_edge e p ≡ false → on_edge (grown_edge k e) c ≡ false
  off_near e below off =
      let w = or_parts (cross_over (grown_edge k e) (edge c d)) (touches c d (grown_edge k e)) (aside_near e below off) in
      let u = or_parts (or (on_edge (grown_edge k e) c) (on_edge (grown_edge k e) d)) _ w.1 in
      (or_parts (on_edge (grown_edge k e) c) (on_edge (grown_edge k e) d) u.0).0

  -- so where p is on no edge of a closed list, the parity is the same all about
  module _ (es : List Edge) (below : (e : Edge) → In e es → EndsBelow m e) (off : any (λ e. on_edge e p) es ≡ false) where
    pub parity_near : Closed es → parity (each (grown_edge k) es) c ≡ parity (each (grown_edge k) es) d
    parity_near closed =
        parity_unmet (each (grown_edge k) es) c d (closed_grown k es closed)
        (any_each (λ e. meet e (edge c d)) (grown_edge k) es
        ∙ any_false_from (λ e. meet (grown_edge k e) (edge c d)) es (λ e i. aside_near e (below e i) (any_false_at (λ e. on_edge e p) e es i off)))

    pub free_near : any (λ e. on_edge e c) (each (grown_edge k) es) ≡ false
    free_near =
        any_each (λ e. on_edge e c) (grown_edge k) es
        ∙ any_false_from (λ e. on_edge (grown_edge k e) c) es (λ e i. off_near e (below e i) (any_false_at (λ e. on_edge e p) e es i off))
