-- How three corners turn, in another order or mirrored; and the identities between the four determinants of four corners.
use Rattle.std.proofs.Common.{◌≡◌, ℕ, ◌+◌, ◌*◌, eqb, ltb, refl, ◌∙◌, ap₂, arith}
use Rattle.plane.specs.Corners.{Corner, corner, lefts, rights, left_turn, right_turn, in_line}
use Rattle.plane.specs.Symmetry.{TurnCycles, TurnReverses}
use Rattle.plane.proofs.Products.{eqb_comm}

module _ (a b c : Corner) where
  -- begun one corner later, three corners turn the same way
  pub lefts_cycled : lefts b c a ≡ lefts a b c
  lefts_cycled = omega arith

  pub rights_cycled : rights b c a ≡ rights a b c
  rights_cycled = omega arith

  pub left_turn_cycled : left_turn b c a ≡ left_turn a b c
  left_turn_cycled = ap₂ ltb rights_cycled lefts_cycled

  pub right_turn_cycled : right_turn b c a ≡ right_turn a b c
  right_turn_cycled = ap₂ ltb lefts_cycled rights_cycled

  pub in_line_cycled : in_line b c a ≡ in_line a b c
  in_line_cycled = ap₂ eqb lefts_cycled rights_cycled

  -- with the first two exchanged, they turn the other way
  pub lefts_swapped : lefts b a c ≡ rights a b c
  lefts_swapped = omega arith

  pub rights_swapped : rights b a c ≡ lefts a b c
  rights_swapped = omega arith

  pub left_turn_swapped : left_turn b a c ≡ right_turn a b c
  left_turn_swapped = ap₂ ltb rights_swapped lefts_swapped

  pub right_turn_swapped : right_turn b a c ≡ left_turn a b c
  right_turn_swapped = ap₂ ltb lefts_swapped rights_swapped

  pub in_line_swapped : in_line b a c ≡ in_line a b c
  in_line_swapped = ap₂ eqb lefts_swapped rights_swapped ∙ eqb_comm (rights a b c) (lefts a b c)

  -- gone backwards, they turn the other way
  pub lefts_reversed : lefts c b a ≡ rights a b c
  lefts_reversed = omega arith

  pub rights_reversed : rights c b a ≡ lefts a b c
  rights_reversed = omega arith

  pub left_turn_reversed : left_turn c b a ≡ right_turn a b c
  left_turn_reversed = ap₂ ltb rights_reversed lefts_reversed

  pub right_turn_reversed : right_turn c b a ≡ left_turn a b c
  right_turn_reversed = ap₂ ltb lefts_reversed rights_reversed

  pub in_line_reversed : in_line c b a ≡ in_line a b c
  in_line_reversed = ap₂ eqb lefts_reversed rights_reversed ∙ eqb_comm (rights a b c) (lefts a b c)

-- mirrored, east for north, they turn the other way
abbrev pub mirrored : Corner → Corner
mirrored c = corner c.y c.x

pub left_turn_mirrored : (a b c : Corner) → left_turn (mirrored a) (mirrored b) (mirrored c) ≡ right_turn a b c
left_turn_mirrored a b c = refl

pub right_turn_mirrored : (a b c : Corner) → right_turn (mirrored a) (mirrored b) (mirrored c) ≡ left_turn a b c
right_turn_mirrored a b c = refl

pub in_line_mirrored : (a b c : Corner) → in_line (mirrored a) (mirrored b) (mirrored c) ≡ in_line a b c
in_line_mirrored a b c = eqb_comm (rights a b c) (lefts a b c)

-- FOUR DETERMINANTS: D p q b · v a − D p q a · v b + D a b q · v p − D a b p · v q is 0, for v = 1, x and y. A pair (l, r) stands for a determinant l − r: first
-- those of p q with a and with b, then those of a b with p and with q
abbrev pub Balance : (la ra lb rb lp rp lq rq : ℕ) → Type 0
Balance la ra lb rb lp rp lq rq = lb + ra + (lq + rp) ≡ rb + la + (rq + lp)

abbrev pub Weighed : (la ra lb rb lp rp lq rq : ℕ) → (va vb vp vq : ℕ) → Type 0
Weighed la ra lb rb lp rp lq rq va vb vp vq = lb * va + ra * vb + (lq * vp + rp * vq) ≡ rb * va + la * vb + (rq * vp + lp * vq)

module _ (a b p q : Corner) where
  pub balance : Balance (lefts p q a) (rights p q a) (lefts p q b) (rights p q b) (lefts a b p) (rights a b p) (lefts a b q) (rights a b q)
  balance = omega arith

  pub weighed_x :
      Weighed (lefts p q a) (rights p q a) (lefts p q b) (rights p q b) (lefts a b p) (rights a b p) (lefts a b q) (rights a b q) a.x b.x p.x
      q.x
  weighed_x = omega arith

  pub weighed_y :
      Weighed (lefts p q a) (rights p q a) (lefts p q b) (rights p q b) (lefts a b p) (rights a b p) (lefts a b q) (rights a b q) a.y b.y p.y
      q.y
  weighed_y = omega arith

pub turn_cycles : TurnCycles
unfolding TurnCycles
turn_cycles a b c = (left_turn_cycled a b c, right_turn_cycled a b c, in_line_cycled a b c)

pub turn_reverses : TurnReverses
unfolding TurnReverses
turn_reverses a b c = (left_turn_reversed a b c, right_turn_reversed a b c, in_line_reversed a b c)
