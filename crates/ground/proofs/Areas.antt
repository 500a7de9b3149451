-- Areas by cells: a ground has so much area as there are cells with their middles inside.
use Rattle.std.proofs.Common.{◌≡◌, ℕ, suc, ◌+◌, ◌-◌, ◌*◌, ◌<◌, ◌≤◌, Bool, true, false, not, ◌&&◌, ltb, List, [], ◌∷◌, sym, refl, ap, ◌∙◌, ap₂, ⊎_elim, le_of_lt, arith}
use native.Mathlib.Nat.{mul-lt-mul_of_pos_left, mul-sub}
use Rattle.std.proofs.lemmas.Bool.{and_parts, cases_Bool, ltb-true, leb-true}
use Rattle.plane.specs.Lists.{added_up}
use Rattle.plane.specs.Corners.{Corner}
use Rattle.plane.specs.Edges.{Edge, grown_edge, rises, falls}
use Rattle.plane.specs.Parity.{xors, crosses}
use Rattle.plane.specs.Sums.{sum_below, tally}
use Rattle.plane.specs.Multiples.{DividesAll}
use Rattle.plane.proofs.Booleans.{and_true_right, or_comm}
use Rattle.plane.proofs.Lists.{In, every_at, any_false_from}
use Rattle.plane.proofs.Xors.{xors_in, xors_same}
use Rattle.plane.proofs.Sums.{sum_below_same, sum_below_add}
use Rattle.plane.proofs.Multiples.{common_multiple}
use Rattle.plane.proofs.Boxes.{both_ends}
use Rattle.plane.proofs.Cells.{cell, crosses_within, off_within}
use Rattle.plane.proofs.Shoelace.{Near, shoelace}
use Rattle.ground.specs.Shapes.{Point, Shape, as_corner, edges, edges_from, inside, on_border, twice_area}
use Rattle.ground.specs.Areas.{middle, cross_section, AreaIsMeasure, CellsAreWhole}
use Rattle.ground.proofs.Closing.{edges_many}
use Rattle.ground.proofs.Rings.{closed_edges, every_end, Shaped, shape_parts}
use Rattle.ground.proofs.Points.{seen_from, touched_by, inside_sum}
use Rattle.ground.proofs.Orientation.{Ring, sense}
use Rattle.ground.proofs.Levels.{wound_left, wound_right}

-- ROUND A ROW OF CORNERS
-- what is added up over where edges begin is what is added up over where they end
path_ends : (g : Corner → ℕ) (f a : Corner) (bs : List Corner) →
    added_up (λ e. g e.one) (edges_from f a bs) + g f ≡ added_up (λ e. g e.other) (edges_from f a bs) + g a
unfolding edges_from added_up
path_ends g f a [] = omega arith
path_ends g f a (b ∷ bs) = let rest = path_ends g f b bs in omega arith

-- all the way round
ring_ends : (g : Corner → ℕ) (s : Shape) → added_up (λ e. g e.one) (edges s) ≡ added_up (λ e. g e.other) (edges s)
unfolding edges added_up
ring_ends g [] = refl
ring_ends g (a ∷ s) = omega (arith, path_ends g a a s)

-- THE RING OF A GROUND
pub ground_ring : (s : Shape) → Shaped s → Ring (edges s)
ground_ring s shaped = record { closed = closed_edges s; clear = shaped.clear; long = omega (arith, edges_many s, shaped.many.0) }

-- all its coordinates are up to 2^20
pub ground_near : (s : Shape) → Shaped s → (e : Edge) → In e (edges s) → Near 1048576 e
ground_near s shaped e m =
    let ends = every_at (both_ends low) e (edges s) m (every_end low s shaped.small) in
    let both = and_parts (low e.one) (low e.other) ends in
    (near e.one both.0, near e.other both.1)
  where
    low : Corner → Bool
    low c = ltb c.x 1048576 && ltb c.y 1048576

    near : (c : Corner) → low c ≡ true → (c.x ≤ 1048576) × (c.y ≤ 1048576)
    near c h =
        let p = and_parts (ltb c.x 1048576) (ltb c.y 1048576) h in
        (le_of_lt (ltb-true c.x 1048576 p.0), le_of_lt (ltb-true c.y 1048576 p.1))

-- CELL BY CELL
module _ (d n : ℕ) (fine : 1 ≤ d) (divides : DividesAll d n) (es : List Edge) (ring : Ring es) (near : (e : Edge) → In e es → Near n e) where
  -- how many edges that go up are further east than the middle of a cell; and how many that go down
  rising : ℕ → ℕ → ℕ
  rising k j = added_up (λ e. tally (rises (grown_edge (2 * d) e) (cell d j k))) es

  falling : ℕ → ℕ → ℕ
  falling k j = added_up (λ e. tally (falls (grown_edge (2 * d) e) (cell d j k))) es

  -- the cells from whose middles an odd number of edges is crossed
  odd_cells : ℕ
  odd_cells = sum_below n (λ k. sum_below (d * n) (λ j. tally (xors (λ e. crosses (grown_edge (2 * d) e) (cell d j k)) es)))

  -- cell by cell, so in all
  two_sums : (f g h : ℕ → ℕ → ℕ) → ((k j : ℕ) → f k j ≡ g k j + h k j) →
      sum_below n (λ k. sum_below (d * n) (f k)) ≡ sum_below n (λ k. sum_below (d * n) (g k)) + sum_below n (λ k. sum_below (d * n) (h k))
  two_sums f g h e =
      sum_below_same n _ _ (λ k l. sum_below_same (d * n) (f k) (λ j. g k j + h k j) (λ j m. e k j) ∙ sum_below_add (d * n) (g k) (h k))
      ∙ sum_below_add n (λ k. sum_below (d * n) (g k)) (λ k. sum_below (d * n) (h k))

  -- with the one sense, the edges that go up have more to their west, by the odd cells
  more_rising : sense es ≡ true → sum_below n (λ k. sum_below (d * n) (rising k)) ≡ sum_below n (λ k. sum_below (d * n) (falling k)) + odd_cells
  unfolding rising falling odd_cells
  more_rising s =
      two_sums (λ k j. rising k j) (λ k j. falling k j) (λ k j. tally (xors (λ e. crosses (grown_edge (2 * d) e) (cell d j k)) es))
      (λ k j. wound_left d n k fine divides es ring near s (2 * j + 1))

  -- with the other, those that go down
  more_falling : sense es ≡ false → sum_below n (λ k. sum_below (d * n) (falling k)) ≡ sum_below n (λ k. sum_below (d * n) (rising k)) + odd_cells
  unfolding rising falling odd_cells
  more_falling s =
      two_sums (λ k j. falling k j) (λ k j. rising k j) (λ k j. tally (xors (λ e. crosses (grown_edge (2 * d) e) (cell d j k)) es))
      (λ k j. wound_right d n k fine divides es ring near s (2 * j + 1)
      ∙ ap (λ odd. rising k j + tally odd)
      (xors_same _ _ es (λ e. or_comm (falls (grown_edge (2 * d) e) (cell d j k)) (rises (grown_edge (2 * d) e) (cell d j k)))))

  module _ (ends : added_up (λ e. e.one.x * e.one.y) es ≡ added_up (λ e. e.other.x * e.other.y) es) where
    -- the shoelace sums
    lefts_sum : ℕ
    lefts_sum = added_up (λ e. e.one.x * e.other.y) es

    rights_sum : ℕ
    rights_sum = added_up (λ e. e.one.y * e.other.x) es

    -- they differ by the cells west of the edges that go up, less those west of the edges that go down
    weighed : d * lefts_sum + 2 * sum_below n (λ k. sum_below (d * n) (falling k)) ≡ d * rights_sum + 2 * sum_below n (λ k. sum_below (d * n) (rising k))
    unfolding lefts_sum rights_sum rising falling
    weighed = shoelace d n fine divides es near ends

    -- a ring gone round to the left has the right sense
    sensed_left : rights_sum < lefts_sum → sense es ≡ true
    sensed_left h =
        ⊎_elim (λ s. s)
        (λ s.
        absurd
        (let w = weighed in let m = more_falling s in let more = mul-lt-mul_of_pos_left {k = d} h fine in omega arith)) (cases_Bool (sense es))

    -- and its area is that of its odd cells
    area_odd : rights_sum < lefts_sum → d * (lefts_sum - rights_sum) ≡ 2 * odd_cells
    area_odd h = let w = weighed in let m = more_rising (sensed_left h) in omega (arith, mul-sub d lefts_sum rights_sum)

-- A GROUND
-- the middle of a cell is between its sides
middle_west : (d j : ℕ) → 1 ≤ d → 2 * d * j < d * (2 * j + 1)
middle_west d j fine = omega arith

middle_east : (d j : ℕ) → 1 ≤ d → d * (2 * j + 1) < 2 * d * suc j
middle_east d j fine = omega arith

-- every ground has the right sense
pub ground_sense : (s : Shape) → Shaped s → sense (edges s) ≡ true
unfolding lefts_sum rights_sum
ground_sense s shaped =
    let c = common_multiple 1048576 in
    sensed_left c.0 1048576 c.1 c.2 (edges s) (ground_ring s shaped) (ground_near s shaped) (ring_ends (λ a. a.x * a.y) s) shaped.area

module _ (d : ℕ) (fine : 1 ≤ d) (divides : DividesAll d 1048576) where
  -- along the level line at height k + 1/2, what is within a cell is on no border
  pub cell_off : (s : Shape) → Shaped s → (j k : ℕ) (p : Point) → 1 ≤ p.w → 2 * p.py ≡ p.w * (2 * k + 1) → p.w * j < d * p.px →
      d * p.px < p.w * suc j →
      on_border s p ≡ false
  cell_off s shaped j k p large mid west east =
      any_false_from (touched_by p) (edges s)
      (λ e m.
      let near = ground_near s shaped e m in
      off_within d 1048576 p.w j k (as_corner p) fine divides large mid west east e near.0.1 near.1.1)

  -- so is the middle of a cell
  pub middle_off : (s : Shape) → Shaped s → (j k : ℕ) → on_border s (middle d j k) ≡ false
  middle_off s shaped j k = cell_off s shaped j k (middle d j k) (omega arith) (omega arith) (middle_west d j fine) (middle_east d j fine)

  -- all of a cell is inside if its middle is
  pub cell_inside : (s : Shape) → Shaped s → (j k : ℕ) (p : Point) → 1 ≤ p.w → 2 * p.py ≡ p.w * (2 * k + 1) → p.w * j < d * p.px →
      d * p.px < p.w * suc j →
      inside s p ≡ inside s (middle d j k)
  cell_inside s shaped j k p large mid west east =
      inside_sum s p ∙ ap₂ (λ t b. t && not b) (xors_in (seen_from p) (seen_from (middle d j k)) (edges s) same)
      (cell_off s shaped j k p large mid west east ∙ sym (middle_off s shaped j k))
      ∙ sym (inside_sum s (middle d j k))
    where
      same : (e : Edge) → In e (edges s) → seen_from p e ≡ seen_from (middle d j k) e
      same e m =
          let near = ground_near s shaped e m in
          crosses_within d 1048576 p.w j k (as_corner p) fine divides large mid west east e near.0.1 near.1.1
          ∙ sym
          (crosses_within d 1048576 (2 * d) j k (cell d j k) fine divides (omega arith) (omega arith) (middle_west d j fine) (middle_east d j fine) e
          near.0.1 near.1.1)

  -- at the middle of a cell, odd is inside
  middle_inside : (s : Shape) → Shaped s → (j k : ℕ) → xors (seen_from (middle d j k)) (edges s) ≡ inside s (middle d j k)
  middle_inside s shaped j k =
      sym (inside_sum s (middle d j k) ∙ ap (λ b. xors (seen_from (middle d j k)) (edges s) && not b) (middle_off s shaped j k) ∙ and_true_right _)

  -- the area of a ground, d-fold, is that of so many cells
  pub measured : (s : Shape) → Shaped s → d * twice_area s ≡ 2 * sum_below 1048576 (cross_section d s)
  unfolding lefts_sum rights_sum odd_cells cross_section
  measured s shaped =
      area_odd d 1048576 fine divides (edges s) (ground_ring s shaped) (ground_near s shaped) (ring_ends (λ a. a.x * a.y) s) shaped.area
      ∙ ap (λ z. 2 * z) (sum_below_same 1048576 _ _ (λ k l. sum_below_same (d * 1048576) _ _ (λ j m. ap tally (middle_inside s shaped j k))))

-- the area of a ground is the sum of its cross-sections
pub area_is_measure : AreaIsMeasure
unfolding AreaIsMeasure
area_is_measure s d ground fine divides = measured d fine divides s (shape_parts s ground)

-- the points of a cell at its middle height are all inside, or none is
pub cells_are_whole : CellsAreWhole
unfolding CellsAreWhole
cells_are_whole s d j k p ground fine divides pointed mid west east =
    cell_inside d fine divides s (shape_parts s ground) j k p (leb-true 1 p.w pointed) mid west east
