-- The shoelace sums of a closed list of edges, in cells: what the edges that go up have to their west, less what those that go down have.
use Rattle.std.proofs.Common.{◌≡◌, ℕ, ◌+◌, ◌-◌, ◌*◌, ◌<◌, ◌≤◌, List, [], ◌∷◌, sym, refl, ap, ◌∙◌, inl, inr, ⊎_elim, arith}
use Rattle.std.proofs.lemmas.Bool.{cases_lt}
use Rattle.plane.specs.Lists.{added_up}
use Rattle.plane.specs.Corners.{Corner}
use Rattle.plane.specs.Edges.{Edge, grown_edge, rises, falls}
use Rattle.plane.specs.Sums.{sum_below, tally}
use Rattle.plane.specs.Multiples.{DividesAll}
use Rattle.plane.proofs.Lists.{In}
use Rattle.plane.proofs.Sums.{added_up_below, sum_below_same}
use Rattle.plane.proofs.Reversal.{rises_reversed}
use Rattle.plane.proofs.Cells.{cell, cells_west}

-- both ends have coordinates up to n
abbrev pub Near : ℕ → Edge → Type 0
Near n e = ((e.one.x ≤ n) × (e.one.y ≤ n)) × ((e.other.x ≤ n) × (e.other.y ≤ n))

-- (ax + bx)(by − ay) is ax by − ay bx, and what the two ends differ in
trapezium : (d ax ay bx by : ℕ) →
    d * (ax * by) + d * (bx * by) + d * ((ay - by) * (bx + ax)) ≡ d * (ay * bx) + d * (ax * ay) + d * ((by - ay) * (ax + bx))
trapezium d ax ay bx by = ⊎_elim up down (cases_lt ay by)
  where
    up : ay < by → d * (ax * by) + d * (bx * by) + d * ((ay - by) * (bx + ax)) ≡ d * (ay * bx) + d * (ax * ay) + d * ((by - ay) * (ax + bx))
    up h =
        let rise : ay + (by - ay) ≡ by = omega arith in
        let none : ay - by ≡ 0 = omega arith in
        omega (arith, ap (λ z. d * (z * (ax + bx))) rise, ap (λ z. d * (z * (bx + ax))) none)

    down : by ≤ ay → d * (ax * by) + d * (bx * by) + d * ((ay - by) * (bx + ax)) ≡ d * (ay * bx) + d * (ax * ay) + d * ((by - ay) * (ax + bx))
    down h =
        let fall : by + (ay - by) ≡ ay = omega arith in
        let none : by - ay ≡ 0 = omega arith in
        omega (arith, ap (λ z. d * (z * (ax + bx))) fall, ap (λ z. d * (z * (ax + bx))) none)

-- the middles from which the line to the east crosses the edge upward; and downward
abbrev rising : ℕ → ℕ → Edge → ℕ
rising d n e = sum_below n (λ k. sum_below (d * n) (λ j. tally (rises (grown_edge (2 * d) e) (cell d j k))))

-- the same downward
abbrev falling : ℕ → ℕ → Edge → ℕ
falling d n e = sum_below n (λ k. sum_below (d * n) (λ j. tally (falls (grown_edge (2 * d) e) (cell d j k))))

module _ (d n : ℕ) (fine : 1 ≤ d) (divides : DividesAll d n) where
  -- one edge: its share of the shoelace sums, in cells, but for what its ends differ in
  edge_weighed : (e : Edge) → Near n e →
      d * (e.one.x * e.other.y) + d * (e.other.x * e.other.y) + 2 * falling d n e
      ≡ d * (e.one.y * e.other.x) + d * (e.one.x * e.one.y) + 2 * rising d n e
  edge_weighed e near = omega (arith, trapezium d e.one.x e.one.y e.other.x e.other.y, up, down)
    where
      up : 2 * rising d n e ≡ d * ((e.other.y - e.one.y) * (e.one.x + e.other.x))
      up = cells_west d n fine divides e.one e.other near.1.1 near.0.0 near.1.0

      down : 2 * falling d n e ≡ d * ((e.one.y - e.other.y) * (e.other.x + e.one.x))
      down =
          ap (λ z. 2 * z) (sum_below_same n _ _ (λ k l. sum_below_same (d * n) _ _
          (λ j m. ap tally (sym (rises_reversed (grown_edge (2 * d) e) (cell d j k))))))
          ∙ cells_west d n fine divides e.other e.one near.0.1 near.1.0 near.0.0

  -- all edges of a list
  chain_weighed : (es : List Edge) → ((e : Edge) → In e es → Near n e) →
      d * added_up (λ e. e.one.x * e.other.y) es + d * added_up (λ e. e.other.x * e.other.y) es + 2 * added_up (falling d n) es
      ≡ d * added_up (λ e. e.one.y * e.other.x) es + d * added_up (λ e. e.one.x * e.one.y) es + 2 * added_up (rising d n) es
  unfolding added_up
  chain_weighed [] near = refl
  chain_weighed (e ∷ es) near =
      let here = edge_weighed e (near e (inl refl)) in
      let rest = chain_weighed es (λ f m. near f (inr m)) in
      omega arith

  -- in a closed list the products of the ends cancel: what is left of the shoelace sums is counted cell by cell
  pub shoelace : (es : List Edge) → ((e : Edge) → In e es → Near n e) →
      added_up (λ e. e.one.x * e.one.y) es ≡ added_up (λ e. e.other.x * e.other.y) es →
      d * added_up (λ e. e.one.x * e.other.y) es + 2 * sum_below n
      (λ k. sum_below (d * n) (λ j. added_up (λ e. tally (falls (grown_edge (2 * d) e) (cell d j k))) es))
      ≡ d * added_up (λ e. e.one.y * e.other.x) es + 2 * sum_below n
      (λ k. sum_below (d * n) (λ j. added_up (λ e. tally (rises (grown_edge (2 * d) e) (cell d j k))) es))
  shoelace es near closed =
      omega (
        arith,
        chain_weighed es near,
        ap (λ z. d * z) closed,
        by_cells (λ e c. tally (rises (grown_edge (2 * d) e) c)),
        by_cells
            (λ e c. tally (falls (grown_edge (2 * d) e) c)),
      )
    where
      by_cells : (f : Edge → Corner → ℕ) →
          added_up (λ e. sum_below n (λ k. sum_below (d * n) (λ j. f e (cell d j k)))) es
          ≡ sum_below n (λ k. sum_below (d * n) (λ j. added_up (λ e. f e (cell d j k)) es))
      by_cells f =
          added_up_below n (λ e k. sum_below (d * n) (λ j. f e (cell d j k))) es
          ∙ sum_below_same n _ _ (λ k l. added_up_below (d * n) (λ e j. f e (cell d j k)) es)
