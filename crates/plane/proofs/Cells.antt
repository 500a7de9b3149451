-- Cells, 1/d wide and 1 high: how many of them have their middles west of an edge.
use Rattle.std.proofs.Common.{◌≡◌, ℕ, zero, suc, ◌+◌, ◌-◌, ◌*◌, ◌/◌, ◌<◌, ◌≤◌, Bool, true, false, ◌&&◌, eqb, ltb, leb, sym, refl, ap, ◌∙◌, ap₂, ⊎_elim, add-zero, mul-le-mul_right, add-sub_of_le, mul-le-mul_left, arith}
use native.Mathlib.Nat.{lt_of_mul-lt-mul_left}
use Rattle.std.proofs.lemmas.Bool.{and_parts, and_from, and_left, and_right, cases_lt, lt-ltb, le-ltb, lt-leb, le-leb, ltb-true, leb-true, ne_eqb}
use Rattle.plane.specs.Lists.{pick, or}
use Rattle.plane.specs.Corners.{Corner, corner}
use Rattle.plane.specs.Edges.{Edge, edge, grown_edge, on_edge, rises}
use Rattle.plane.specs.Parity.{crosses}
use Rattle.plane.specs.Sums.{sum_below, tally}
use Rattle.plane.specs.Multiples.{DividesAll}
use Rattle.plane.proofs.Booleans.{or_from, same_from_both, pick_true, pick_false}
use Rattle.plane.proofs.Products.{ltb_times}
use Rattle.plane.proofs.Sums.{sum_below_same, sum_below_zero, sum_below_ones, sum_below_times, sum_below_split, sum_below_window}
use Rattle.plane.proofs.Passages.{spans, wall, parts_of, odd_even, rises_at, falls_at, on_at}

-- COUNTING: so many numbers below m are below x
count_below : (m x : ℕ) → x ≤ m → sum_below m (λ j. tally (ltb j x)) ≡ x
count_below m x h =
    ap (λ n. sum_below n (λ j. tally (ltb j x))) (sym (add-sub_of_le h)) ∙ sum_below_split x (m - x) (λ j. tally (ltb j x))
    ∙ ap₂ ◌+◌ (sum_below_same x (λ j. tally (ltb j x)) (λ j. 1) (λ j l. ap tally (lt-ltb j x l)) ∙ sum_below_ones x)
    (sum_below_same (m - x) (λ j. tally (ltb (x + j) x)) (λ j. 0) (λ j l. ap tally (le-ltb (x + j) x (omega arith))) ∙ sum_below_zero (m - x))
    ∙ add-zero x

-- THE AREA WEST OF A WAY UP
-- the odd numbers, up and down: 1 + 3 + .. from the one end, and from the other, each r of them
ramp : (p q h r : ℕ) → r ≤ h → sum_below r (λ i. p * (2 * (h - suc i) + 1) + q * (2 * i + 1)) + p * (r * r) ≡ p * (2 * h * r) + q * (r * r)
unfolding sum_below
ramp p q h zero k = omega arith
ramp p q h (suc r) k =
    let rest = ramp p q h r (omega arith) in
    let odds : 2 * (h - suc r) + 1 + (2 * r + 1) ≡ 2 * h = omega arith in
    omega (arith, ap (λ z. p * z) odds)

-- so the means along a way of height h add up to h times their own mean
ramp_total : (part d p q h s : ℕ) → s + p * (h * h) ≡ p * (2 * h * h) + q * (h * h) → part * (2 * h) ≡ d → 2 * (part * s) ≡ d * (h * (p + q))
ramp_total part d p q h s e whole = omega (arith, ap (λ z. part * z) e, ap (λ z. h * (p + q) * z) whole)

-- a weighted mean of numbers up to n, whole
weighted_near : (part d n p q u v h : ℕ) → p ≤ n → q ≤ n → u + v ≡ 2 * h → part * (2 * h) ≡ d → part * (p * v + q * u) ≤ d * n
weighted_near part d n p q u v h hp hq e whole =
    let mean : p * v + q * u ≤ n * v + n * u = omega (arith, mul-le-mul_right v hp, mul-le-mul_right u hq) in
    omega (arith, mul-le-mul_left part mean, ap (λ z. part * n * z) e, ap (λ z. n * z) whole)

-- only where the test holds is anything counted
sum_when : (s : Bool) (m : ℕ) (f : ℕ → Bool) → sum_below m (λ j. tally (s && f j)) ≡ pick s (sum_below m (λ j. tally (f j))) 0
sum_when true m f = refl
sum_when false m f = sum_below_zero m

-- the middle of a cell, made 2 * d times as large
abbrev pub cell : ℕ → ℕ → ℕ → Corner
cell d j k = corner (2 * j + 1) (d * (2 * k + 1))

-- all heights and abscissas up to n
module _ (d n : ℕ) (fine : 1 ≤ d) (divides : DividesAll d n) where
  module _ (a b : Corner) (high : b.y ≤ n) where
    -- how many d-th parts go to half a step in height
    part : ℕ
    part = d / (2 * (b.y - a.y))

    -- the middles west of the wall
    pub rises_cell : (j k : ℕ) → rises (grown_edge (2 * d) (edge a b)) (cell d j k) ≡ (spans a.y b.y k && ltb j (wall d a b k))
    rises_cell j k =
        rises_at d n (2 * d) k (cell d j k) fine divides (omega arith) (omega arith) a b high ∙ ap (◌&&◌ (spans a.y b.y k)) west
      where
        west : ltb (d * (2 * j + 1)) (2 * d * wall d a b k) ≡ ltb j (wall d a b k)
        west = ap (ltb (d * (2 * j + 1))) (regroup (wall d a b k)) ∙ ltb_times d fine (2 * j + 1) (2 * wall d a b k) ∙ odd_even j (wall d a b k)
          where
            regroup : (x : ℕ) → 2 * d * x ≡ d * (2 * x)
            regroup x = omega arith

    -- outside its heights there is nothing west of it
    below_foot : (k : ℕ) → k < a.y → pick (spans a.y b.y k) (wall d a b k) 0 ≡ 0
    below_foot k l = pick_false (spans a.y b.y k) (wall d a b k) 0 (and_left (leb a.y k) (ltb k b.y) (lt-leb a.y k l))

    -- nor above its upper end
    above_top : (k : ℕ) → b.y ≤ k → pick (spans a.y b.y k) (wall d a b k) 0 ≡ 0
    above_top k l = pick_false (spans a.y b.y k) (wall d a b k) 0 (and_right (leb a.y k) (ltb k b.y) (le-ltb k b.y l))

    module _ (rise : a.y < b.y) where
      -- these parts make up d
      whole_parts : part * (2 * (b.y - a.y)) ≡ d
      unfolding part
      whole_parts = parts_of d n (b.y - a.y) divides (omega arith) (omega arith)

      -- the wall stands between the ends
      wall_near : (k : ℕ) → a.x ≤ n → b.x ≤ n → a.y ≤ k → k < b.y → wall d a b k ≤ d * n
      unfolding part
      wall_near k p q low up =
          weighted_near part d n a.x b.x (2 * (k - a.y) + 1) (2 * (b.y - suc k) + 1) (b.y - a.y) p q (omega arith) whole_parts

      -- between its heights the wall moves evenly from the one end to the other
      on_the_way : (i : ℕ) → i < b.y - a.y →
          pick (spans a.y b.y (a.y + i)) (wall d a b (a.y + i)) 0 ≡ part * (a.x * (2 * (b.y - a.y - suc i) + 1) + b.x * (2 * i + 1))
      unfolding part
      on_the_way i l =
          pick_true (spans a.y b.y (a.y + i)) (wall d a b (a.y + i)) 0
          (and_from (leb a.y (a.y + i)) (ltb (a.y + i) b.y) (le-leb a.y (a.y + i) (omega arith)) (lt-ltb (a.y + i) b.y (omega arith)))
          ∙ ap₂ (λ u v. part * (a.x * (2 * u + 1) + b.x * (2 * v + 1))) up down
        where
          up : b.y - suc (a.y + i) ≡ b.y - a.y - suc i
          up = omega arith

          down : a.y + i - a.y ≡ i
          down = omega arith

      -- all strips together, from the lower end on
      strips_sum : sum_below n (λ k. pick (spans a.y b.y k) (wall d a b k) 0)
          ≡ part * sum_below (b.y - a.y) (λ i. a.x * (2 * (b.y - a.y - suc i) + 1) + b.x * (2 * i + 1))
      strips_sum =
          sum_below_window a.y (b.y - a.y) n (λ k. pick (spans a.y b.y k) (wall d a b k) 0)
          (λ i. part * (a.x * (2 * (b.y - a.y - suc i) + 1) + b.x * (2 * i + 1))) (omega arith) below_foot (λ k l. above_top k (omega arith)) on_the_way
          ∙ sum_below_times part (b.y - a.y) (λ i. a.x * (2 * (b.y - a.y - suc i) + 1) + b.x * (2 * i + 1))

      -- twice the area west of the way up, made d times as large
      strips : 2 * sum_below n (λ k. pick (spans a.y b.y k) (wall d a b k) 0) ≡ d * ((b.y - a.y) * (a.x + b.x))
      strips =
          ap (λ z. 2 * z) strips_sum
          ∙ ramp_total part d a.x b.x (b.y - a.y) _ (ramp a.x b.x (b.y - a.y) (b.y - a.y) (omega arith)) whole_parts

    -- a way that does not go up has nothing
    no_strips : b.y ≤ a.y → 2 * sum_below n (λ k. pick (spans a.y b.y k) (wall d a b k) 0) ≡ d * ((b.y - a.y) * (a.x + b.x))
    no_strips fall =
        let none : b.y - a.y ≡ 0 = omega arith in
        omega (
          arith,
          sum_below_same n (λ k. pick (spans a.y b.y k) (wall d a b k) 0) (λ k. 0) nothing,
          sum_below_zero n,
          ap
              (λ z. d * (z * (a.x + b.x))) none,
        )
      where
        nothing : (k : ℕ) → k < n → pick (spans a.y b.y k) (wall d a b k) 0 ≡ 0
        nothing k l = ⊎_elim (below_foot k) (λ low. above_top k (omega arith)) (cases_lt k a.y)

    -- the wall is not further east than the ends may be
    pub wall_held : (k : ℕ) → a.x ≤ n → b.x ≤ n → spans a.y b.y k ≡ true → wall d a b k ≤ d * n
    wall_held k p q h =
        let low = leb-true a.y k (and_parts (leb a.y k) (ltb k b.y) h).0 in
        let up = ltb-true k b.y (and_parts (leb a.y k) (ltb k b.y) h).1 in
        wall_near (omega arith) k p q low up

    -- how many middles are west of the way up, in all strips
    pub cells_west : a.x ≤ n → b.x ≤ n →
        2 * sum_below n (λ k. sum_below (d * n) (λ j. tally (rises (grown_edge (2 * d) (edge a b)) (cell d j k)))) ≡ d * ((b.y - a.y) * (a.x + b.x))
    cells_west p q = ap (λ z. 2 * z) (sum_below_same n _ _ (λ k l. strip k)) ∙ ⊎_elim strips no_strips (cases_lt a.y b.y)
      where
        counted : (s : Bool) (x : ℕ) → (s ≡ true → x ≤ d * n) → pick s (sum_below (d * n) (λ j. tally (ltb j x))) 0 ≡ pick s x 0
        counted true x h = count_below (d * n) x (h refl)
        counted false x h = refl

        strip : (k : ℕ) → sum_below (d * n) (λ j. tally (rises (grown_edge (2 * d) (edge a b)) (cell d j k))) ≡ pick (spans a.y b.y k) (wall d a b k) 0
        strip k =
            sum_below_same (d * n) _ _ (λ j l. ap tally (rises_cell j k)) ∙ sum_when (spans a.y b.y k) (d * n) (λ j. ltb j (wall d a b k))
            ∙ counted (spans a.y b.y k) (wall d a b k) (wall_held k p q)

-- WITHIN A CELL: a point at height k + 1/2, strictly between the sides of cell j, is west of just the walls that the cell's middle is west of, and on none
module _ (d w j x px : ℕ) (large : 1 ≤ w) (west : w * j < d * px) (east : d * px < w * suc j) where
  -- west of the wall, if the middle is
  pub before_wall : ltb (d * px) (w * x) ≡ ltb j x
  before_wall =
      same_from_both _ _ (λ h. lt-ltb j x (lt_of_mul-lt-mul_left w (omega (arith, ltb-true (d * px) (w * x) h))))
      (λ h. lt-ltb (d * px) (w * x) (omega (arith, mul-le-mul_left w (ltb-true j x h))))

  -- not at the wall
  pub off_wall : eqb (d * px) (w * x) ≡ false
  off_wall = ne_eqb (d * px) (w * x) (λ e. strictly (lt_of_mul-lt-mul_left w (omega arith)) (lt_of_mul-lt-mul_left w (omega arith)))
    where
      strictly : j < x → x < suc j → ⊥
      strictly h k = omega arith

module _
    (d n w j k : ℕ) (c : Corner) (fine : 1 ≤ d) (divides : DividesAll d n) (large : 1 ≤ w) (mid : 2 * c.y ≡ w * (2 * k + 1)) (west : w * j < d * c.x)
    (east : d * c.x < w * suc j) (e : Edge) (first : e.one.y ≤ n) (second : e.other.y ≤ n)
  where
    -- which edges are crossed, told by the cell alone
    pub crosses_within : crosses (grown_edge w e) c
        ≡ or (spans e.one.y e.other.y k && ltb j (wall d e.one e.other k))
        (spans e.other.y e.one.y k && ltb j (wall d e.other e.one k))
    crosses_within =
        ap₂ or
        (rises_at d n w k c fine divides large mid e.one e.other second
        ∙ ap (◌&&◌ (spans e.one.y e.other.y k)) (before_wall d w j (wall d e.one e.other k) c.x large west east))
        (falls_at d n w k c fine divides large mid e first second
        ∙ ap (◌&&◌ (spans e.other.y e.one.y k)) (before_wall d w j (wall d e.other e.one k) c.x large west east))

    -- and no edge is touched
    pub off_within : on_edge (grown_edge w e) c ≡ false
    off_within =
        on_at d n w k c fine divides large mid e first second
        ∙ or_from _ _ (and_right (spans e.one.y e.other.y k) _ (off_wall d w j (wall d e.one e.other k) c.x large west east))
        (and_right (spans e.other.y e.one.y k) _ (off_wall d w j (wall d e.other e.one k) c.x large west east))
