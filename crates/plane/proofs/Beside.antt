-- A hair beside a corner. With n above all coordinates, and all made n * n times as large, the points n to the east or west of a corner and 1 to the north are
-- on no edge. From the eastern one just those edges are crossed that are crossed from the corner; from the western one those too that pass through it.
use Rattle.std.proofs.Common.{◌≡◌, ℕ, ◌+◌, ◌-◌, ◌*◌, ◌<◌, ◌≤◌, Bool, true, false, ◌&&◌, eqb, ltb, leb, sym, refl, ap, ◌∙◌, ap₂, ⊎_elim, mul-le-mul, mul-le-mul_left, arith}
use Rattle.std.proofs.lemmas.Bool.{cases_order, and_parts, and_left, leb-true, ltb-true}
use Rattle.std.proofs.lemmas.Bool.Decides.{nat_tests}
use Rattle.plane.specs.Lists.{or}
use Rattle.plane.specs.Corners.{Corner, corner, grown, lefts, rights, left_turn, in_line, between}
use Rattle.plane.specs.Edges.{Edge, edge, grown_edge, on_edge, rises}
use Rattle.plane.specs.Parity.{crosses}
use Rattle.plane.proofs.Products.{ltb_times, eqb_times, eqb_comm}
use Rattle.plane.proofs.Growth.{square_above}
use Rattle.plane.proofs.Turns.{lefts_swapped, rights_swapped}
use Rattle.plane.proofs.Booleans.{false_from, not_both}
use Rattle.plane.proofs.Reversal.{on_edge_reversed, rises_reversed}
use Rattle.plane.proofs.Sides.{on_edge_parts}

-- OVER PLAIN NUMBERS: l − r is a determinant, p < q are the heights of the ends, u and v their other coordinates
module _ (n l r u v p q : ℕ) (u_small : u < n) (v_small : v < n) (q_small : q < n) (up : p < q) where
  -- where the determinant is positive, the hair doesn't change that
  hair_within : r < l → (n * n) * r + n * q + u < (n * n) * l + v + n * p
  hair_within h = omega (arith, mul-le-mul_left (n * n) h, mul-le-mul_left n q_small)

  -- and where it isn't, it is negative beside
  hair_beyond : l ≤ r → (n * n) * l + v + n * p < (n * n) * r + n * q + u
  hair_beyond h = omega (arith, mul-le-mul_left (n * n) h, mul-le-mul_left n up)

  -- so the test of a turn comes out as before, and the three are never in line
  hair_test : ltb ((n * n) * r + n * q + u) ((n * n) * l + v + n * p) ≡ ltb r l
  hair_test = let i = hair_within in let o = hair_beyond in grind (arith, nat_tests)

  hair_back : ltb ((n * n) * l + v + n * p) ((n * n) * r + n * q + u) ≡ leb l r
  hair_back = let i = hair_within in let o = hair_beyond in grind (arith, nat_tests)

  hair_off : eqb ((n * n) * l + v + n * p) ((n * n) * r + n * q + u) ≡ false
  hair_off = let i = hair_within in let o = hair_beyond in grind (arith, nat_tests)

-- a test of numbers to which the same is added
module _ (a b s : ℕ) where
  ltb_shift : ltb a b ≡ ltb (a + s) (b + s)
  ltb_shift = grind (arith, nat_tests)

  eqb_shift : eqb a b ≡ eqb (a + s) (b + s)
  eqb_shift = grind (arith, nat_tests)

-- a height that is 1 above another, when both are grown
module _ (k a c : ℕ) (large : 2 ≤ k) where
  height_low : leb (k * a) (k * c + 1) ≡ leb a c
  height_low =
      let i : a ≤ c → k * a ≤ k * c = λ h. mul-le-mul_left k h in
      let o : c < a → k * c + k ≤ k * a = λ h. omega (arith, mul-le-mul_left k h) in
      grind (arith, nat_tests)

  height_high : ltb (k * c + 1) (k * a) ≡ ltb c a
  height_high =
      let i : c < a → k * c + k ≤ k * a = λ h. omega (arith, mul-le-mul_left k h) in
      let o : a ≤ c → k * a ≤ k * c = λ h. mul-le-mul_left k h in
      grind (arith, nat_tests)

  -- no corner has that height
  height_off : between (k * a) (k * a) (k * c + 1) ≡ false
  height_off =
      let i : c < a → k * c + k ≤ k * a = λ h. omega (arith, mul-le-mul_left k h) in
      let o : a ≤ c → k * a ≤ k * c = λ h. mul-le-mul_left k h in
      grind (arith, nat_tests)

-- what is not below 2 is smaller than its square
square_large : (n : ℕ) → 2 ≤ n → 2 ≤ n * n
square_large n h = omega (arith, mul-le-mul h h)

-- of two tests in a row the second counts only where the first holds
and_where : (s s' t t' : Bool) → s ≡ s' → (s' ≡ true → t ≡ t') → (s && t) ≡ (s' && t')
and_where s true t t' e h = ap₂ ◌&&◌ e (h refl)
and_where s false t t' e h = ap (λ b. b && t) e

-- what is not between the heights of an edge is not on it
off_level : (e : Edge) (c : Corner) → between e.one.y e.other.y c.y ≡ false → on_edge e c ≡ false
off_level e c h = false_from (on_edge e c) (λ on. not_both (between e.one.y e.other.y c.y) (on_edge_parts e c on).2 h)

-- EITHER HAIR
-- both coordinates below n
abbrev pub Below : ℕ → Corner → Type 0
Below n c = (c.x < n) × (c.y < n)

-- the edge goes up past the height of c: its lower end counts, its upper one doesn't
abbrev pub rises_past : Corner → Corner → Corner → Bool
rises_past a b c = leb a.y c.y && ltb c.y b.y

-- it does go up then
up_past : (a b c : Corner) → rises_past a b c ≡ true → a.y < b.y
up_past a b c h =
    let p = and_parts (leb a.y c.y) (ltb c.y b.y) h in
    omega (arith, leb-true a.y c.y p.0, ltb-true c.y b.y p.1)

-- a hair above c, all made n * n times as large, and at px eastward
abbrev hair : ℕ → Corner → ℕ → Corner
hair n c px = corner px ((n * n) * c.y + 1)

-- beside c, at px, it is `turns a b` that tells whether an edge from a up to b is crossed; and no such edge is in line with that place
module _ (n : ℕ) (large : 2 ≤ n) (c : Corner) (px : ℕ) (turns : Corner → Corner → Bool)
    (told : (a b : Corner) → Below n a → Below n b → a.y < b.y →
    (left_turn (grown (n * n) a) (grown (n * n) b) (hair n c px) ≡ turns a b)
    × (in_line (grown (n * n) a) (grown (n * n) b) (hair n c px) ≡ false)) where
  -- which edges are crossed from there
  rises_beside : (a b : Corner) → Below n a → Below n b → rises (grown_edge (n * n) (edge a b)) (hair n c px) ≡ (rises_past a b c && turns a b)
  rises_beside a b small_a small_b =
      and_where _ (rises_past a b c) _ (turns a b)
      (ap₂ ◌&&◌ (height_low (n * n) a.y c.y (square_large n large)) (height_high (n * n) b.y c.y (square_large n large)))
      (λ h. (told a b small_a small_b (up_past a b c h)).0)

  crosses_beside : (a b : Corner) → Below n a → Below n b →
      crosses (grown_edge (n * n) (edge a b)) (hair n c px) ≡ or (rises_past a b c && turns a b) (rises_past b a c && turns b a)
  crosses_beside a b small_a small_b =
      ap₂ or (rises_beside a b small_a small_b) (sym (rises_reversed (grown_edge (n * n) (edge a b)) (hair n c px)) ∙ rises_beside b a small_b small_a)

  -- an edge that goes up is not in line with the hair
  off_rising : (a b : Corner) → Below n a → Below n b → a.y < b.y → on_edge (grown_edge (n * n) (edge a b)) (hair n c px) ≡ false
  off_rising a b small_a small_b up = and_left _ _ (told a b small_a small_b up).1

  -- the hair is on no edge
  off_beside : (a b : Corner) → Below n a → Below n b → on_edge (grown_edge (n * n) (edge a b)) (hair n c px) ≡ false
  off_beside a b small_a small_b =
      ⊎_elim (λ level. off_level (grown_edge (n * n) (edge a b)) (hair n c px) (level_off level))
      (⊎_elim (λ up. off_rising a b small_a small_b up)
      (λ down. sym (on_edge_reversed (grown_edge (n * n) (edge a b)) (hair n c px)) ∙ off_rising b a small_b small_a down))
      (cases_order a.y b.y)
    where
      level_off : a.y ≡ b.y → between (n * n * a.y) (n * n * b.y) (n * n * c.y + 1) ≡ false
      level_off level = ap (λ m. between (n * n * a.y) (n * n * m) (n * n * c.y + 1)) (sym level) ∙ height_off (n * n) a.y c.y (square_large n large)

-- THE HAIR TO THE EAST
abbrev pub east_hair : ℕ → Corner → Corner
east_hair n c = corner ((n * n) * c.x + n) ((n * n) * c.y + 1)

-- the two sums of the determinant there, all made k times as large
module _ (k n : ℕ) (a b c : Corner) where
  lefts_east : lefts (grown k a) (grown k b) (corner (k * c.x + n) (k * c.y + 1)) ≡ k * (k * lefts a b c + b.x + n * a.y)
  lefts_east = omega arith

  rights_east : rights (grown k a) (grown k b) (corner (k * c.x + n) (k * c.y + 1)) ≡ k * (k * rights a b c + n * b.y + a.x)
  rights_east = omega arith

module _ (n : ℕ) (large : 2 ≤ n) (c : Corner) where
  -- an edge that goes up turns there as at the corner
  told_east : (a b : Corner) → Below n a → Below n b → a.y < b.y →
      (left_turn (grown (n * n) a) (grown (n * n) b) (east_hair n c) ≡ left_turn a b c)
      × (in_line (grown (n * n) a) (grown (n * n) b) (east_hair n c) ≡ false)
  told_east a b small_a small_b up = (
    ap₂ ltb (rights_east (n * n) n a b c) (lefts_east (n * n) n a b c)
        ∙ ltb_times (n * n) (square_above n (omega arith)) _ _
        ∙ hair_test n (lefts a b c) (rights a b c) a.x b.x a.y b.y small_a.0 small_b.0 small_b.1 up,
    ap₂ eqb (lefts_east (n * n) n a b c) (rights_east (n * n) n a b c)
        ∙ eqb_times (n * n) (square_above n (omega arith)) _ _
        ∙ hair_off n (lefts a b c) (rights a b c) a.x b.x a.y b.y small_a.0 small_b.0 small_b.1 up,
  )

  -- from the eastern hair the same edges are crossed as from the corner
  pub crosses_east : (e : Edge) → Below n e.one → Below n e.other → crosses (grown_edge (n * n) e) (east_hair n c) ≡ crosses e c
  crosses_east e small_a small_b =
      crosses_beside n large c (n * n * c.x + n) (λ a b. left_turn a b c) told_east e.one e.other small_a small_b
      ∙ ap (or (rises e c)) (rises_reversed e c)

  pub off_east : (e : Edge) → Below n e.one → Below n e.other → on_edge (grown_edge (n * n) e) (east_hair n c) ≡ false
  off_east e = off_beside n large c (n * n * c.x + n) (λ a b. left_turn a b c) told_east e.one e.other

-- THE HAIR TO THE WEST, of a corner that is not on the western border of all there is
abbrev pub west_hair : ℕ → Corner → Corner
west_hair n c = corner ((n * n) * c.x - n) ((n * n) * c.y + 1)

-- there is room for the hair
room : (n m : ℕ) → 1 ≤ n → 1 ≤ m → ((n * n) * m - n) + n ≡ (n * n) * m
room n m h k = let q : n * 1 ≤ n * (n * m) = mul-le-mul_left n (mul-le-mul h k) in omega arith

-- the two sums of the determinant there, the same added to both
module _ (k n px : ℕ) (a b c : Corner) (west : px + n ≡ k * c.x) where
  lefts_west : lefts (grown k a) (grown k b) (corner px (k * c.y + 1)) + (k * (n * a.y) + k * (n * b.y)) ≡ k * (k * lefts a b c + n * b.y + b.x)
  lefts_west = omega (arith, ap (λ (m : ℕ). m * (k * a.y)) west)

  rights_west : rights (grown k a) (grown k b) (corner px (k * c.y + 1)) + (k * (n * a.y) + k * (n * b.y)) ≡ k * (k * rights a b c + a.x + n * a.y)
  rights_west = omega (arith, ap (λ (m : ℕ). (k * b.y) * m) west)

-- the edge crosses the line from the corner to the east, or passes through the corner
abbrev pub reaches : Edge → Corner → Bool
reaches e c =
    or (rises_past e.one e.other c && leb (rights e.one e.other c) (lefts e.one e.other c))
    (rises_past e.other e.one c && leb (lefts e.one e.other c) (rights e.one e.other c))

module _ (n : ℕ) (large : 2 ≤ n) (c : Corner) (inland : 1 ≤ c.x) where
  -- an edge that goes up has the western hair on its left unless it has the corner on its right
  told_west : (a b : Corner) → Below n a → Below n b → a.y < b.y →
      (left_turn (grown (n * n) a) (grown (n * n) b) (west_hair n c) ≡ leb (rights a b c) (lefts a b c))
      × (in_line (grown (n * n) a) (grown (n * n) b) (west_hair n c) ≡ false)
  told_west a b small_a small_b up =
      let west = room n c.x (omega arith) inland in
      let added = (n * n) * (n * a.y) + (n * n) * (n * b.y) in
      let l = lefts_west (n * n) n ((n * n) * c.x - n) a b c west in
      let r = rights_west (n * n) n ((n * n) * c.x - n) a b c west in (
        ltb_shift _ _ added ∙ ap₂ ltb r l
            ∙ ltb_times (n * n) (square_above n (omega arith)) _ _
            ∙ hair_back n (rights a b c) (lefts a b c) b.x a.x a.y b.y small_b.0 small_a.0 small_b.1 up,
        eqb_shift _ _ added ∙ ap₂ eqb l r
            ∙ eqb_times (n * n) (square_above n (omega arith)) _ _
            ∙ eqb_comm _ _
            ∙ hair_off n (rights a b c) (lefts a b c) b.x a.x a.y b.y small_b.0 small_a.0 small_b.1 up,
      )

  -- from the western hair those edges are crossed that are crossed from the corner, or pass through it
  pub crosses_west : (e : Edge) → Below n e.one → Below n e.other → crosses (grown_edge (n * n) e) (west_hair n c) ≡ reaches e c
  crosses_west e small_a small_b =
      crosses_beside n large c ((n * n) * c.x - n) (λ a b. leb (rights a b c) (lefts a b c)) told_west e.one e.other small_a small_b
      ∙ ap (λ t. or (rises_past e.one e.other c && leb (rights e.one e.other c) (lefts e.one e.other c)) (rises_past e.other e.one c && t))
      (ap₂ leb (rights_swapped e.one e.other c) (lefts_swapped e.one e.other c))

  pub off_west : (e : Edge) → Below n e.one → Below n e.other → on_edge (grown_edge (n * n) e) (west_hair n c) ≡ false
  off_west e = off_beside n large c ((n * n) * c.x - n) (λ a b. leb (rights a b c) (lefts a b c)) told_west e.one e.other
