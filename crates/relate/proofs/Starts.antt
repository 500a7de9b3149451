-- The last corner on an edge before a point of it: between that point and the sample after the corner there is no other corner.
use Rattle.std.proofs.Common.{◌≡◌, ℕ, ◌+◌, ◌*◌, ◌<◌, ◌≤◌, Bool, true, ◌&&◌, leb, ◌⊎◌, List, sym, ap, ◌∙◌, ap₂, inl, inr, ⊎_elim, le_of_lt, mul-le-mul_left, arith}
use native.Mathlib.Nat.{lt_of_mul-lt-mul_left}
use Rattle.std.proofs.lemmas.Bool.{and_parts, and_from, cases_lt, leb-true, le-leb}
use Rattle.plane.specs.Corners.{Corner, corner, between}
use Rattle.plane.specs.Edges.{Edge, grown_edge, on_edge}
use Rattle.plane.proofs.Lists.{In, Best, largest, smallest}
use Rattle.plane.proofs.Sides.{on_edge_parts}
use Rattle.plane.proofs.Incidence.{between_cases}
use Rattle.plane.proofs.Crossings.{mean, convex, one_on, other_on}
use Rattle.plane.proofs.Alongside.{Amidst}
use Rattle.ground.specs.Shapes.{as_corner}
use Rattle.relate.specs.Samples.{sample}

-- a sample is amid its edge
sample_on : (e : Edge) (u : Corner) → on_edge e u ≡ true → on_edge (grown_edge 1048576 e) (as_corner (sample e u)) ≡ true
sample_on e u on = ap (on_edge (grown_edge 1048576 e)) here ∙ convex 1 1048575 e u e.other on (other_on e)
  where
    here : as_corner (sample e u) ≡ mean 1 1048575 u e.other
    here = ap₂ corner (omega arith) (omega arith)

-- and at the height of neither end
pub sample_amid : (e : Edge) (u : Corner) → on_edge e u ≡ true → (u.y ≡ e.other.y → ⊥) → Amidst (grown_edge 1048576 e) (as_corner (sample e u))
sample_amid e u on short = record { on = sample_on e u on; off_one = off_one held; off_other = λ h. short (omega arith) }
  where
    held : ((e.one.y ≤ u.y) × (u.y ≤ e.other.y)) ⊎ ((e.other.y ≤ u.y) × (u.y ≤ e.one.y))
    held = between_cases e.one.y e.other.y u.y (on_edge_parts e u on).2

    off_one : ((e.one.y ≤ u.y) × (u.y ≤ e.other.y)) ⊎ ((e.other.y ≤ u.y) × (u.y ≤ e.one.y)) →
        1048576 * e.one.y ≡ 1048575 * u.y + e.other.y → ⊥
    off_one (inl k) h = short (omega arith)
    off_one (inr k) h = short (omega arith)

-- OVER PLAIN NUMBERS: between the sample after u and the point at q, all made k times as large, there is no corner v, if none but those not beyond u are before q
blocked_up : (k q u b v : ℕ) → 1 ≤ k → u < b → b < 1048576 → k * u < q → (k * v ≤ q → v ≤ u) →
    between (1048576 * q) (k * (1048575 * u + b)) ((1048576 * k) * v) ≡ true → ⊥
blocked_up k q u b v above ub small uq last held = ⊎_elim after before (cases_lt q (k * v))
  where
    after : q < k * v → ⊥
    after h =
        let uv : u < v = lt_of_mul-lt-mul_left k (omega arith) in
        ⊎_elim (λ z. omega (arith, mul-le-mul_left k uv, mul-le-mul_left k small)) (λ z. omega (arith, mul-le-mul_left k uv, mul-le-mul_left k small))
        (between_cases (1048576 * q) (k * (1048575 * u + b)) ((1048576 * k) * v) held)

    before : k * v ≤ q → ⊥
    before h =
        ⊎_elim (λ z. omega (arith, mul-le-mul_left k (last h), mul-le-mul_left k ub)) (λ z. omega (arith, mul-le-mul_left k (last h), mul-le-mul_left k ub))
        (between_cases (1048576 * q) (k * (1048575 * u + b)) ((1048576 * k) * v) held)

-- the same downward
blocked_down : (k q u b v : ℕ) → 1 ≤ k → b < u → u < 1048576 → q < k * u → (q ≤ k * v → u ≤ v) →
    between (1048576 * q) (k * (1048575 * u + b)) ((1048576 * k) * v) ≡ true → ⊥
blocked_down k q u b v above bu small qu last held = ⊎_elim after before (cases_lt (k * v) q)
  where
    after : k * v < q → ⊥
    after h =
        let vu : v < u = lt_of_mul-lt-mul_left k (omega arith) in
        let low : k * u ≤ k * b + k * 1048575 = omega (arith, mul-le-mul_left k (room u b small)) in
        ⊎_elim (λ z. omega (arith, mul-le-mul_left k vu)) (λ z. omega (arith, mul-le-mul_left k vu))
        (between_cases (1048576 * q) (k * (1048575 * u + b)) ((1048576 * k) * v) held)
      where
        room : (u b : ℕ) → u < 1048576 → u ≤ b + 1048575
        room u b h = omega arith

    before : q ≤ k * v → ⊥
    before h =
        ⊎_elim (λ z. omega (arith, mul-le-mul_left k (last h), mul-le-mul_left k bu)) (λ z. omega (arith, mul-le-mul_left k (last h), mul-le-mul_left k bu))
        (between_cases (1048576 * q) (k * (1048575 * u + b)) ((1048576 * k) * v) held)

-- THE CORNER TO START FROM: between its sample and the point on the wall there is no corner
pub record Start (cs : List Corner) (e : Edge) (k : ℕ) (q : Corner) : Type 0 where
  pub from : Corner
  pub one_of : In from cs
  pub on : on_edge e from ≡ true
  pub short : from.y ≡ e.other.y → ⊥
  pub blocked : (v : Corner) → In v cs → on_edge e v ≡ true → between (1048576 * q.y) (k * (1048575 * from.y + e.other.y)) ((1048576 * k) * v.y) ≡ true → ⊥

module _
    (cs : List Corner) (small : (c : Corner) → In c cs → c.y < 1048576) (e : Edge) (first : In e.one cs) (other : In e.other cs) (k : ℕ)
    (above : 1 ≤ k) (q : Corner) (amid : Amidst (grown_edge k e) q) (off : (n : ℕ) → q.y ≡ k * n → ⊥)
  where
    held : between (k * e.one.y) (k * e.other.y) q.y ≡ true
    held = (on_edge_parts (grown_edge k e) q amid.on).2

    strictly : (a b : ℕ) → a ≤ b → (a ≡ b → ⊥) → a < b
    strictly a b h n = omega arith

    -- on an edge that rises it is the highest corner below the point
    start_up : k * e.one.y < q.y → q.y < k * e.other.y → Start cs e k q
    start_up low high = told (largest (λ c. c.y) before e.one cs first (and_from _ _ (one_on e) (le-leb _ _ (le_of_lt low))))
      where
        before : Corner → Bool
        before c = on_edge e c && leb (k * c.y) q.y

        told : Best (λ x y. x.y ≤ y.y) before cs → Start cs e k q
        told (u, m, ok, last) =
            let z = and_parts (on_edge e u) (leb (k * u.y) q.y) ok in
            let uq : k * u.y < q.y = strictly (k * u.y) q.y (leb-true _ _ z.1) (λ h. off u.y (sym h)) in
            let ub : u.y < e.other.y = lt_of_mul-lt-mul_left k (omega arith) in
            record {
              from = u;
              one_of = m;
              on = z.0;
              short = λ h. omega arith;
              blocked = λ v n on_v.
                  blocked_up k q.y u.y e.other.y v.y above ub (small e.other other) uq (λ h. last v n (and_from _ _ on_v (le-leb _ _ h)));
            }

    -- and on one that falls the lowest corner above it
    start_down : k * e.other.y < q.y → q.y < k * e.one.y → Start cs e k q
    start_down low high = told (smallest (λ c. c.y) before e.one cs first (and_from _ _ (one_on e) (le-leb _ _ (le_of_lt high))))
      where
        before : Corner → Bool
        before c = on_edge e c && leb q.y (k * c.y)

        told : Best (λ x y. y.y ≤ x.y) before cs → Start cs e k q
        told (u, m, ok, last) =
            let z = and_parts (on_edge e u) (leb q.y (k * u.y)) ok in
            let qu : q.y < k * u.y = strictly q.y (k * u.y) (leb-true _ _ z.1) (off u.y) in
            let bu : e.other.y < u.y = lt_of_mul-lt-mul_left k (omega arith) in
            record {
              from = u;
              one_of = m;
              on = z.0;
              short = λ h. omega arith;
              blocked = λ v n on_v.
                  blocked_down k q.y u.y e.other.y v.y above bu (small u m) qu (λ h. last v n (and_from _ _ on_v (le-leb _ _ h)));
            }

    pub start : Start cs e k q
    start =
        ⊎_elim
        (λ z.
        start_up (strictly (k * e.one.y) q.y z.0 amid.off_one) (strictly q.y (k * e.other.y) z.1 (λ h. amid.off_other (sym h))))
        (λ z.
        start_down (strictly (k * e.other.y) q.y z.0 amid.off_other) (strictly q.y (k * e.one.y) z.1 (λ h. amid.off_one (sym h))))
        (between_cases (k * e.one.y) (k * e.other.y) q.y held)
