-- A piece of an edge, from a corner m on it to its end: it goes the same way, and meets nothing that the edge doesn't.
use Rattle.std.proofs.Common.{◌≡◌, ℕ, suc, ◌+◌, ◌*◌, ◌<◌, ◌≤◌, true, false, not, ◌&&◌, eqb, ltb, leb, sym, ap, ◌∙◌, ap₂, ⊎_elim, le_of_lt, arith}
use Rattle.std.proofs.lemmas.Bool.{cases_lt, and_parts, and_from, and_cases, and_left, not-true, eqb-true, eqb-false, ltb-true, lt-ltb, eq-eqb}
use Rattle.std.proofs.lemmas.Bool.Decides.{nat_tests}
use Rattle.plane.specs.Lists.{or}
use Rattle.plane.specs.Corners.{Corner, lefts, rights, left_turn, right_turn, in_line, between, same_corner}
use Rattle.plane.specs.Edges.{Edge, edge, on_edge, cross_over, meet}
use Rattle.plane.specs.Parity.{touches}
use Rattle.plane.specs.Orientation.{amid}
use Rattle.plane.proofs.Products.{product_le, product_lt, product_sign, product_zero, eqb_comm}
use Rattle.plane.proofs.Booleans.{same_from_both, not_both, or_left, or_right, or_from, or_cases, contrapose, false_from}
use Rattle.plane.proofs.Sides.{on_edge_parts}
use Rattle.plane.proofs.Incidence.{between_cases}
use Rattle.plane.proofs.Proportion.{Evenly}
use Rattle.plane.proofs.Reversal.{parts, on_edge_reversed}
use Rattle.plane.proofs.Neighbours.{neighbour_off}
use Rattle.plane.proofs.Meeting.{met_at}
use Rattle.plane.proofs.Bends.{next_bend, straight, in_line_first, in_line_second}

-- OVER PLAIN NUMBERS: l − r and l₁ − r₁ are the determinants of another corner with the edge and with the piece, a, b and m are numbers in one direction
abbrev Ratio : (l r l₁ r₁ a b m : ℕ) → Type 0
Ratio l r l₁ r₁ a b m = l * b + r * m + (l₁ * a + r₁ * b) ≡ r * b + l * m + (r₁ * a + l₁ * b)

module _ (l r l₁ r₁ a b m : ℕ) (ratio : Ratio l r l₁ r₁ a b m) where
  -- where a ≤ m < b, and where b < m ≤ a: left of the edge is left of the piece, and the other way round
  up_from_edge : a ≤ m → m < b → r < l → r₁ < l₁
  up_from_edge h k d = product_sign l₁ r₁ a b (omega arith) (omega (arith, product_lt r l m b d k))

  up_from_piece : a ≤ m → m < b → r₁ < l₁ → r < l
  up_from_piece h k d = product_sign l r m b (le_of_lt k) (omega (arith, product_lt r₁ l₁ a b d (omega arith)))

  down_from_edge : b < m → m ≤ a → r < l → r₁ < l₁
  down_from_edge h k d = product_sign l₁ r₁ b a (omega arith) (omega (arith, product_lt r l b m d h))

  down_from_piece : b < m → m ≤ a → r₁ < l₁ → r < l
  down_from_piece h k d = product_sign l r b m (le_of_lt h) (omega (arith, product_lt r₁ l₁ b a d (omega arith)))

  -- the two determinants have one sign
  same_sign : between a b m ≡ true → (m ≡ b → ⊥) → ltb r₁ l₁ ≡ ltb r l
  same_sign held off =
      ⊎_elim
      (λ h. same_test r₁ l₁ r l (up_from_piece h.0 (below h.1)) (up_from_edge h.0 (below h.1)))
      (λ h. same_test r₁ l₁ r l (down_from_piece (above h.0) h.1) (down_from_edge (above h.0) h.1))
      (between_cases a b m held)
    where
      below : m ≤ b → m < b
      below h = ⊎_elim (λ k. k) (λ k. absurd (off (omega arith))) (cases_lt m b)

      above : b ≤ m → b < m
      above h = ⊎_elim (λ k. k) (λ k. absurd (off (omega arith))) (cases_lt b m)

      same_test : (p q p₁ q₁ : ℕ) → (p < q → p₁ < q₁) → (p₁ < q₁ → p < q) → ltb p q ≡ ltb p₁ q₁
      same_test p q p₁ q₁ h k = same_from_both _ _ (λ d. lt-ltb p₁ q₁ (h (ltb-true p q d))) (λ d. lt-ltb p q (k (ltb-true p₁ q₁ d)))

-- what changes evenly and is not above 0 at a and at b is not above 0 between them
not_between : (la ra lb rb lm rm a b m : ℕ) → Evenly la lb lm a b m → Evenly ra rb rm a b m → between a b m ≡ true → la ≤ ra → lb ≤ rb → rm < lm → a ≡ b
not_between la ra lb rb lm rm a b m e e₁ held ha hb hm =
    ⊎_elim (λ h. omega (arith, product_le la ra m b ha h.1, product_le lb rb a m hb h.0, product_le (suc rm) lm a b hm (omega arith)))
    (λ h. omega (arith, product_le la ra b m ha h.0, product_le lb rb m a hb h.1, product_le (suc rm) lm b a hm (omega arith)))
    (between_cases a b m held)

-- neither less nor more
no_turn : (l r l₁ r₁ : ℕ) → ltb r l ≡ ltb r₁ l₁ → ltb l r ≡ ltb l₁ r₁ → eqb l r ≡ eqb l₁ r₁
no_turn l r l₁ r₁ h k = grind (arith, nat_tests)

-- m is below b if a is
goes_up : (a b m : ℕ) → between a b m ≡ true → (m ≡ b → a ≡ b) → ltb m b ≡ ltb a b
goes_up a b m h k = grind (arith, nat_tests)

-- and not below it if a is not
goes_down : (a b m : ℕ) → between a b m ≡ true → (m ≡ b → a ≡ b) → leb b m ≡ leb b a
goes_down a b m h k = grind (arith, nat_tests)

-- what is between m and b is between a and b
held_by : (a b m c : ℕ) → between a b m ≡ true → between m b c ≡ true → between a b c ≡ true
held_by a b m c h k = grind (arith, nat_tests)

-- between a number and itself is only that number
pub squeezed : (a b m : ℕ) → a ≡ b → between a b m ≡ true → m ≡ b
squeezed a b m e h = ⊎_elim (λ k. omega arith) (λ k. omega arith) (between_cases a b m h)

-- an edge has its ends
pub on_first : (a b : Corner) → on_edge (edge a b) a ≡ true
on_first a b = and_from _ _ (in_line_first a b) (and_from _ _ (first_held a.x b.x) (first_held a.y b.y))
  where
    first_held : (p q : ℕ) → between p q p ≡ true
    first_held p q = grind (arith, nat_tests)

pub on_second : (a b : Corner) → on_edge (edge a b) b ≡ true
on_second a b = sym (on_edge_reversed (edge a b) b) ∙ on_first b a

-- THE PIECE from m to b
module _ (a b m : Corner) (on : on_edge (edge a b) m ≡ true) (off : same_corner m b ≡ false) where
  -- m is in line with the edge
  line : lefts a b m ≡ rights a b m
  line = eqb-true (lefts a b m) (rights a b m) (on_edge_parts (edge a b) m on).0

  module _ (c : Corner) where
    -- the determinants of the edge and of the piece are as their lengths, eastward and northward
    ratio_x : Ratio (lefts a b c) (rights a b c) (lefts m b c) (rights m b c) a.x b.x m.x
    ratio_x = omega (arith, ap (λ n. c.x * n) line, ap (λ n. b.x * n) line)

    ratio_y : Ratio (lefts a b c) (rights a b c) (lefts m b c) (rights m b c) a.y b.y m.y
    ratio_y = omega (arith, ap (λ n. c.y * n) line, ap (λ n. b.y * n) line)

    -- every other corner is on the side of the piece that it is on of the edge
    pub piece_left : left_turn m b c ≡ left_turn a b c
    piece_left =
        ⊎_elim
        (λ d. same_sign (lefts a b c) (rights a b c) (lefts m b c) (rights m b c) a.x b.x m.x ratio_x (on_edge_parts (edge a b) m on).1
        (eqb-false m.x b.x d))
        (λ d. same_sign (lefts a b c) (rights a b c) (lefts m b c) (rights m b c) a.y b.y m.y ratio_y (on_edge_parts (edge a b) m on).2
        (eqb-false m.y b.y d))
        (and_cases (eqb m.x b.x) (eqb m.y b.y) off)

    pub piece_right : right_turn m b c ≡ right_turn a b c
    piece_right =
        ⊎_elim
        (λ d. same_sign (rights a b c) (lefts a b c) (rights m b c) (lefts m b c) a.x b.x m.x (omega (arith, ratio_x))
        (on_edge_parts (edge a b) m on).1 (eqb-false m.x b.x d))
        (λ d. same_sign (rights a b c) (lefts a b c) (rights m b c) (lefts m b c) a.y b.y m.y (omega (arith, ratio_y))
        (on_edge_parts (edge a b) m on).2 (eqb-false m.y b.y d))
        (and_cases (eqb m.x b.x) (eqb m.y b.y) off)

    -- and in line with the one if with the other
    pub piece_line : in_line m b c ≡ in_line a b c
    piece_line = no_turn (lefts m b c) (rights m b c) (lefts a b c) (rights a b c) piece_left piece_right

  -- at the height of b the edge is level
  pub level_end : m.y ≡ b.y → a.y ≡ b.y
  level_end e =
      ⊎_elim (λ h. sym h) (λ h. absurd (not_both _ (and_from _ _ (eq-eqb m.x b.x h) (eq-eqb m.y b.y e)) off))
      (product_zero b.y a.y m.x b.x (omega (arith, line, ap (λ n. b.x * n) e, ap (λ n. n * a.x) e)))

  -- and it goes up, or down, where the edge does
  piece_up : ltb m.y b.y ≡ ltb a.y b.y
  piece_up = goes_up a.y b.y m.y (on_edge_parts (edge a b) m on).2 level_end

  piece_down : leb b.y m.y ≡ leb b.y a.y
  piece_down = goes_down a.y b.y m.y (on_edge_parts (edge a b) m on).2 level_end

  -- so it bends at b where the edge does
  pub piece_bend : (c : Corner) → next_bend m b c ≡ next_bend a b c
  piece_bend c =
      ap₂ or (ap₂ ◌&&◌ piece_up (ap (◌&&◌ (leb c.y b.y)) (piece_right c))) (ap₂ ◌&&◌ piece_down (ap (◌&&◌ (ltb b.y c.y)) (piece_left c)))

  -- what is on the piece is on the edge
  on_piece : (c : Corner) → on_edge (edge m b) c ≡ true → on_edge (edge a b) c ≡ true
  on_piece c h =
      let p = on_edge_parts (edge m b) c h in
      let q = on_edge_parts (edge a b) m on in
      and_from _ _ (sym (piece_line c) ∙ p.0)
      (and_from _ _ (held_by a.x b.x m.x c.x q.1 p.1) (held_by a.y b.y m.y c.y q.2 p.2))

  module _ (p q : Corner) where
    -- along the edge the two sums of a determinant change evenly, eastward and northward
    lefts_x : Evenly (lefts p q a) (lefts p q b) (lefts p q m) a.x b.x m.x
    lefts_x = omega (arith, ap (λ n. q.x * n) line)

    rights_x : Evenly (rights p q a) (rights p q b) (rights p q m) a.x b.x m.x
    rights_x = omega (arith, ap (λ n. p.x * n) line)

    lefts_y : Evenly (lefts p q a) (lefts p q b) (lefts p q m) a.y b.y m.y
    lefts_y = omega (arith, ap (λ n. p.y * n) line)

    rights_y : Evenly (rights p q a) (rights p q b) (rights p q m) a.y b.y m.y
    rights_y = omega (arith, ap (λ n. q.y * n) line)

    -- where m is left of a line and b right of it, a is left of it
    keeps_left : rights p q m < lefts p q m → lefts p q b < rights p q b → rights p q a < lefts p q a
    keeps_left h k = ⊎_elim (λ d. d) (λ d. absurd (short d)) (cases_lt (rights p q a) (lefts p q a))
      where
        short : lefts p q a ≤ rights p q a → ⊥
        short d =
            let held = on_edge_parts (edge a b) m on in
            let ex = not_between (lefts p q a) (rights p q a) (lefts p q b) (rights p q b) (lefts p q m) (rights p q m) a.x b.x m.x lefts_x
            rights_x held.1 d (le_of_lt k) h in
            let ey = not_between (lefts p q a) (rights p q a) (lefts p q b) (rights p q b) (lefts p q m) (rights p q m) a.y b.y m.y lefts_y
            rights_y held.2 d (le_of_lt k) h in
            not_both _
            (and_from _ _ (eq-eqb m.x b.x (squeezed a.x b.x m.x ex held.1))
            (eq-eqb m.y b.y (squeezed a.y b.y m.y ey held.2))) off

  -- and the other way round
  keeps_right : (p q : Corner) → lefts p q m < rights p q m → rights p q b < lefts p q b → lefts p q a < rights p q a
  keeps_right p q h k = omega (arith, keeps_left q p (omega (arith, h)) (omega (arith, k)))

  -- what crosses the piece over crosses the edge over
  over_piece : (f : Edge) → cross_over f (edge m b) ≡ true → cross_over f (edge a b) ≡ true
  over_piece f h =
      let w = and_parts (parts f (edge m b)) (parts (edge m b) f) h in
      and_from (parts f (edge a b)) (parts (edge a b) f) (sides w.0) (sym same ∙ w.1)
    where
      same : parts (edge m b) f ≡ parts (edge a b) f
      same = ap₂ or (ap₂ ◌&&◌ (piece_left f.one) (piece_right f.other)) (ap₂ ◌&&◌ (piece_right f.one) (piece_left f.other))

      p : Corner
      p = f.one

      q : Corner
      q = f.other

      sides : parts f (edge m b) ≡ true → parts f (edge a b) ≡ true
      sides t =
          ⊎_elim
          (λ d.
          let w = and_parts (left_turn p q m) (right_turn p q b) d in
          or_left _ (right_turn p q a && left_turn p q b)
          (and_from (left_turn p q a) (right_turn p q b)
          (lt-ltb (rights p q a) (lefts p q a) (keeps_left p q (ltb-true (rights p q m) (lefts p q m) w.0)
          (ltb-true (lefts p q b) (rights p q b) w.1))) w.1))
          (λ d.
          let w = and_parts (right_turn p q m) (left_turn p q b) d in
          or_right (left_turn p q a && right_turn p q b) _
          (and_from (right_turn p q a) (left_turn p q b)
          (lt-ltb (lefts p q a) (rights p q a) (keeps_right p q (ltb-true (lefts p q m) (rights p q m) w.0)
          (ltb-true (rights p q b) (lefts p q b) w.1))) w.1))
          (or_cases (left_turn p q m && right_turn p q b) (right_turn p q m && left_turn p q b) t)

  -- what doesn't meet the edge doesn't meet the piece
  pub piece_unmet : (f : Edge) → meet f (edge a b) ≡ false → meet f (edge m b) ≡ false
  piece_unmet f unmet = contrapose (meet f (edge m b)) (meet f (edge a b)) met unmet
    where
      touched : touches m b f ≡ true → meet f (edge a b) ≡ true
      touched h =
          ⊎_elim
          (λ k.
          ⊎_elim (λ d. met_at f (edge a b) m d on) (λ d. met_at f (edge a b) b d (on_second a b)) (or_cases (on_edge f m) (on_edge f b) k))
          (λ k.
          ⊎_elim (λ d. met_at f (edge a b) f.one (on_first f.one f.other) (on_piece f.one d))
          (λ d. met_at f (edge a b) f.other (on_second f.one f.other) (on_piece f.other d))
          (or_cases (on_edge (edge m b) f.one) (on_edge (edge m b) f.other) k))
          (or_cases (or (on_edge f m) (on_edge f b)) (or (on_edge (edge m b) f.one) (on_edge (edge m b) f.other)) h)

      met : meet f (edge m b) ≡ true → meet f (edge a b) ≡ true
      met h =
          ⊎_elim (λ d. or_left (cross_over f (edge a b)) (touches a b f) (over_piece f d)) touched (or_cases (cross_over f (edge m b)) (touches m b f) h)

-- THE NEIGHBOUR BEFORE
-- edges from one corner that don't lie on each other have only that corner in common
pub joined_only : (a b d m : Corner) → on_edge (edge a b) m ≡ true → same_corner m b ≡ false → on_edge (edge a b) d ≡ false → on_edge (edge b d) a ≡ false →
    on_edge (edge b d) m ≡ false
joined_only a b d m here off far back =
    neighbour_off a b d m here
    (λ h k.
    ⊎_elim (λ e. eqb-false m.x b.x e h) (λ e. eqb-false m.y b.y e k) (and_cases (eqb m.x b.x) (eqb m.y b.y) off))
    far back

-- of two numbers each between the other and a third, that are one
each_between : (a b m : ℕ) → between a b m ≡ true → between m b a ≡ true → m ≡ a
each_between a b m h k = grind (arith, nat_tests)

-- the edge before, which ends where the edge begins, doesn't meet a piece that begins further on
module _ (z a b m : Corner) (on : on_edge (edge a b) m ≡ true) (begun : same_corner m a ≡ false) (off : same_corner m b ≡ false) where
  -- neither end of the one lies on the other, and they don't cross over
  pub piece_before : on_edge (edge z a) b ≡ false → on_edge (edge a b) z ≡ false → meet (edge z a) (edge m b) ≡ false
  piece_before b_off z_off =
      or_from (cross_over (edge z a) (edge m b)) (touches m b (edge z a)) over (or_from _ _ (or_from _ _ m_off b_off) (or_from _ _ z_clear a_clear))
    where
      straight_at : (left_turn z a a ≡ false) × (right_turn z a a ≡ false)
      straight_at = straight z a a (in_line_second z a)

      over : cross_over (edge z a) (edge m b) ≡ false
      over =
          contrapose (cross_over (edge z a) (edge m b)) (cross_over (edge z a) (edge a b)) (over_piece a b m on off (edge z a))
          (and_left (parts (edge z a) (edge a b)) (parts (edge a b) (edge z a))
          (or_from _ _ (and_left (left_turn z a a) (right_turn z a b) straight_at.0) (and_left (right_turn z a a) (left_turn z a b) straight_at.1)))

      m_off : on_edge (edge z a) m ≡ false
      m_off =
          on_edge_reversed (edge a z) m
          ∙ joined_only b a z m (on_edge_reversed (edge a b) m ∙ on) begun (on_edge_reversed (edge a b) z ∙ z_off) (on_edge_reversed (edge z a) b ∙ b_off)

      z_clear : on_edge (edge m b) z ≡ false
      z_clear = contrapose (on_edge (edge m b) z) (on_edge (edge a b) z) (on_piece a b m on off z) z_off

      a_clear : on_edge (edge m b) a ≡ false
      a_clear = false_from (on_edge (edge m b) a) same
        where
          same : on_edge (edge m b) a ≡ true → ⊥
          same h =
              let p = on_edge_parts (edge a b) m on in
              let q = on_edge_parts (edge m b) a h in
              not_both _ (and_from _ _ (eq-eqb m.x a.x (each_between a.x b.x m.x p.1 q.1))
              (eq-eqb m.y a.y (each_between a.y b.y m.y p.2 q.2))) begun

-- AMID
same_corner_comm : (a b : Corner) → same_corner a b ≡ same_corner b a
same_corner_comm a b = ap₂ ◌&&◌ (eqb_comm a.x b.x) (eqb_comm a.y b.y)

-- what is amid an edge is on it, and none of its ends
pub amid_parts : (e : Edge) (m : Corner) → amid e m ≡ true → (on_edge e m ≡ true) × (same_corner m e.one ≡ false) × (same_corner m e.other ≡ false)
amid_parts e m h =
    let p = and_parts (on_edge e m) (not (same_corner e.one m) && not (same_corner e.other m)) h in
    let q = and_parts (not (same_corner e.one m)) (not (same_corner e.other m)) p.1 in (
      p.0,
      same_corner_comm m e.one ∙ not-true (same_corner e.one m) q.0,
      same_corner_comm m e.other ∙ not-true (same_corner e.other m) q.1,
    )
