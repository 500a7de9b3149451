-- A closed list of edges whose corners lie between two numbers, eastward or northward: what it encloses, and its edges, lie between them too.
use Rattle.std.proofs.Common.{◌≡◌, ℕ, ◌<◌, ◌≤◌, Bool, true, false, ◌&&◌, ltb, leb, List, ◌∙◌, ⊎_elim, arith}
use Rattle.std.proofs.lemmas.Bool.{and_parts, leb-true, cases_lt}
use Rattle.std.proofs.lemmas.Bool.Decides.{nat_tests}
use Rattle.plane.specs.Lists.{or, every, any}
use Rattle.plane.specs.Corners.{Corner, between}
use Rattle.plane.specs.Edges.{Edge, on_edge}
use Rattle.plane.specs.Parity.{changes, Closed, crosses, parity}
use Rattle.plane.proofs.Booleans.{or_cases, not_both}
use Rattle.plane.proofs.Lists.{In, every_at, any_one}
use Rattle.plane.proofs.Xors.{xors_in, xors_never}
use Rattle.plane.proofs.Sides.{none_from_east, all_from_west, none_from_north, none_from_south, on_edge_parts}

-- the test holds at both ends of the edge
abbrev pub both_ends : (Corner → Bool) → Edge → Bool
both_ends f e = f e.one && f e.other

-- the number lies from lo to hi
abbrev pub within : ℕ → ℕ → ℕ → Bool
within lo hi n = leb lo n && leb n hi

-- the corner is enclosed by an odd number of edges, or lies on one
abbrev pub covered : List Edge → Corner → Bool
covered es c = or (parity es c) (any (λ e. on_edge e c) es)

-- what the test says
within_bounds : (lo hi n : ℕ) → within lo hi n ≡ true → (lo ≤ n) × (n ≤ hi)
within_bounds lo hi n h = let p = and_parts (leb lo n) (leb n hi) h in (leb-true lo n p.0, leb-true n hi p.1)

-- what is between two numbers that are from lo to hi is so too
between_bounds : (a b c lo hi : ℕ) → between a b c ≡ true → ((lo ≤ a) × (a ≤ hi)) × ((lo ≤ b) × (b ≤ hi)) → (lo ≤ c) × (c ≤ hi)
between_bounds a b c lo hi h k = (grind (arith, nat_tests), grind (arith, nat_tests))

-- the corners lie from lo to hi, in the coordinate v
abbrev pub Held : ℕ → ℕ → (Corner → ℕ) → List Edge → Type 0
Held lo hi v es = every (both_ends (λ a. within lo hi (v a))) es ≡ true

module _ (es : List Edge) (c : Corner) (lo hi : ℕ) where
  -- the bounds at the ends of an edge
  ends : (v : Corner → ℕ) → Held lo hi v es → (e : Edge) → In e es → ((lo ≤ v e.one) × (v e.one ≤ hi)) × ((lo ≤ v e.other) × (v e.other ≤ hi))
  ends v h e m =
      let b = and_parts (within lo hi (v e.one)) (within lo hi (v e.other)) (every_at (both_ends (λ a. within lo hi (v a))) e es m h) in
      (within_bounds lo hi (v e.one) b.0, within_bounds lo hi (v e.other) b.1)

  -- beyond the corners the parity is even, and on an edge it is between its ends: so all is between the corners
  between_corners : (v : Corner → ℕ) → Held lo hi v es → (v c < lo → parity es c ≡ false) → (hi < v c → parity es c ≡ false) →
      ((e : Edge) → on_edge e c ≡ true → between (v e.one) (v e.other) (v c) ≡ true) → covered es c ≡ true → (lo ≤ v c) × (v c ≤ hi)
  between_corners v h short beyond on here =
      ⊎_elim
      (λ odd. (
        ⊎_elim (λ b. absurd (not_both (parity es c) odd (short b))) (λ b. b) (cases_lt (v c) lo),
        ⊎_elim (λ b. absurd (not_both (parity es c) odd (beyond b))) (λ b. b) (cases_lt hi (v c)),
      ))
      (λ touched.
      let w = any_one (λ e. on_edge e c) es touched in
      between_bounds (v w.0.one) (v w.0.other) (v c) lo hi (on w.0 w.2) (ends v h w.0 w.1))
      (or_cases (parity es c) (any (λ e. on_edge e c) es) here)

  -- where no edge is crossed the parity is even
  even_from_none : ((e : Edge) → In e es → crosses e c ≡ false) → parity es c ≡ false
  even_from_none h = xors_in (λ e. crosses e c) (λ e. false) es h ∙ xors_never es

  module _ (h : Held lo hi (λ a. a.x) es) where
    -- east of every corner nothing is crossed
    even_from_east : hi < c.x → parity es c ≡ false
    even_from_east b = even_from_none (λ e m. let k = ends (λ a. a.x) h e m in none_from_east e.one e.other c (omega arith) (omega arith))

    -- west of every corner the edges that are crossed lead from what is not above c to what is, or back: their number is even
    even_from_west : Closed es → c.x < lo → parity es c ≡ false
    even_from_west closed b =
        xors_in (λ e. crosses e c) (changes (λ a. ltb c.y a.y)) es
        (λ e m. let k = ends (λ a. a.x) h e m in all_from_west e.one e.other c (omega arith) (omega arith))
        ∙ closed (λ a. ltb c.y a.y)

    -- what is enclosed, and what is on an edge, lies between the corners eastward
    pub box_eastward : Closed es → covered es c ≡ true → (lo ≤ c.x) × (c.x ≤ hi)
    box_eastward closed = between_corners (λ a. a.x) h (even_from_west closed) even_from_east (λ e k. (on_edge_parts e c k).1)

  -- and northward
  pub box_northward : Held lo hi (λ a. a.y) es → covered es c ≡ true → (lo ≤ c.y) × (c.y ≤ hi)
  box_northward h =
      between_corners (λ a. a.y) h
      (λ b. even_from_none (λ e m. let k = ends (λ a. a.y) h e m in none_from_south e.one e.other c (omega arith) (omega arith)))
      (λ b. even_from_none (λ e m. let k = ends (λ a. a.y) h e m in none_from_north e.one e.other c (omega arith) (omega arith)))
      (λ e k. (on_edge_parts e c k).2)
