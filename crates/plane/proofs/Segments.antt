-- One edge and one segment that do not touch: crossings at the segment's ends, told by where the edge's ends lie.
use Rattle.std.proofs.Common.{◌≡◌, ◌<◌, ◌≤◌, Bool, true, false, not, ◌&&◌, sym, ◌∙◌, ap₂, ⊎_elim, le_of_lt, arith}
use Rattle.std.proofs.lemmas.Bool.{cases_lt, and_cases, and_parts, not-false, eqb-true}
use Rattle.plane.specs.Lists.{or}
use Rattle.plane.specs.Corners.{Corner, lefts, rights, in_line}
use Rattle.plane.specs.Edges.{Edge, edge, on_edge, cross_over}
use Rattle.plane.specs.Parity.{xor, crosses, touches, spoils}
use Rattle.plane.proofs.Booleans.{or_parts, not_both, xor_comm}
use Rattle.plane.proofs.Turns.{balance, weighed_y}
use Rattle.plane.proofs.Levers.{Lever, lever_low, lever_high}
use Rattle.plane.proofs.Bands.{beyond, rising, all_in_line}
use Rattle.plane.proofs.Chains.{reversed}
use Rattle.plane.proofs.Reversal.{crosses_reversed, cross_over_reversed, touches_reversed}
use Rattle.plane.proofs.Incidence.{on_steep, on_level, level_line, between_up, between_down, east_of_top, west_of_top, east_of_foot, west_of_foot}

-- the corner is right of the segment that rises from p to q: above p, and not above q
abbrev pub right_of : Corner → Corner → Corner → Bool
right_of p q c = beyond c.y p.y q.y (lefts p q c) (rights p q c)

-- between the ends of the segment the number of crossings with the edge changes as the ends of the edge are right of it or not, and once more if they cross
-- over
abbrev pub Carries : Corner → Corner → Edge → Type 0
Carries p q e = xor (crosses e p) (crosses e q) ≡ xor (xor (right_of p q e.one) (right_of p q e.other)) (cross_over e (edge p q))

-- what does not touch, none of whose ends is on the other
pub untouched :
    (p q : Corner) (e : Edge) → touches p q e ≡ false →
    (on_edge e p ≡ false) × (on_edge e q ≡ false) × (on_edge (edge p q) e.one ≡ false) × (on_edge (edge p q) e.other ≡ false)
untouched p q e h =
    let w = or_parts (or (on_edge e p) (on_edge e q)) (or (on_edge (edge p q) e.one) (on_edge (edge p q) e.other)) h in
    let u = or_parts (on_edge e p) (on_edge e q) w.0 in
    let v = or_parts (on_edge (edge p q) e.one) (on_edge (edge p q) e.other) w.1 in
    (u.0, u.1, v.0, v.1)

module _ (a b p q : Corner) where
  low : Lever (lefts p q a) (rights p q a) (lefts p q b) (rights p q b) (lefts a b p) (rights a b p) a.y b.y p.y p.y q.y
  low =
      lever_low (lefts p q a) (rights p q a) (lefts p q b) (rights p q b) (lefts a b p) (rights a b p) (lefts a b q) (rights a b q) a.y b.y p.y
      q.y (balance a b p q) (weighed_y a b p q)

  high : Lever (lefts p q a) (rights p q a) (lefts p q b) (rights p q b) (lefts a b q) (rights a b q) a.y b.y q.y p.y q.y
  high =
      lever_high (lefts p q a) (rights p q a) (lefts p q b) (rights p q b) (lefts a b p) (rights a b p) (lefts a b q) (rights a b q) a.y b.y
      p.y q.y (balance a b p q) (weighed_y a b p q)

module _ (a b p q : Corner) (free : touches p q (edge a b) ≡ false) (up : p.y ≤ q.y) (rise : a.y ≤ b.y) where
  p_off : on_edge (edge a b) p ≡ false
  p_off = (untouched p q (edge a b) free).0

  q_off : on_edge (edge a b) q ≡ false
  q_off = (untouched p q (edge a b) free).1

  a_off : on_edge (edge p q) a ≡ false
  a_off = (untouched p q (edge a b) free).2

  b_off : on_edge (edge p q) b ≡ false
  b_off = (untouched p q (edge a b) free).3

  -- none of the four corners is in line with the other two at their heights
  p_clear : a.y ≤ p.y → p.y < b.y → lefts a b p ≡ rights a b p → ⊥
  p_clear h k e = not_both _ (on_steep a b p e h (le_of_lt k) (omega arith)) p_off

  q_clear : a.y ≤ q.y → q.y < b.y → lefts a b q ≡ rights a b q → ⊥
  q_clear h k e = not_both _ (on_steep a b q e h (le_of_lt k) (omega arith)) q_off

  a_clear : p.y < a.y → a.y ≤ q.y → lefts p q a ≡ rights p q a → ⊥
  a_clear h k e = not_both _ (on_steep p q a e (le_of_lt h) k (omega arith)) a_off

  b_clear : p.y < b.y → b.y ≤ q.y → lefts p q b ≡ rights p q b → ⊥
  b_clear h k e = not_both _ (on_steep p q b e (le_of_lt h) k (omega arith)) b_off

  -- the upper end of the segment is not within a level edge, nor the lower end of the edge within a level segment
  top_east : a.y ≡ q.y → b.y ≡ q.y → lefts p q a < rights p q a → rights p q b < lefts p q b → ⊥
  top_east ha hb r l =
      not_both _
      (on_level a b q ha hb (between_down a.x b.x q.x (le_of_lt (west_of_top p q b hb up l)) (le_of_lt (east_of_top p q a ha up r)))) q_off

  top_west : a.y ≡ q.y → b.y ≡ q.y → rights p q a < lefts p q a → lefts p q b < rights p q b → ⊥
  top_west ha hb l r =
      not_both _
      (on_level a b q ha hb (between_up a.x b.x q.x (le_of_lt (west_of_top p q a ha up l)) (le_of_lt (east_of_top p q b hb up r)))) q_off

  foot_east : p.y ≡ q.y → a.y ≡ p.y → rights a b p < lefts a b p → lefts a b q < rights a b q → ⊥
  foot_east e h l r =
      not_both _
      (on_level p q a (omega arith) (omega arith)
      (between_up p.x q.x a.x (le_of_lt (west_of_foot a b p (omega arith) rise l)) (le_of_lt (east_of_foot a b q (omega arith) rise r))))
      a_off

  foot_west : p.y ≡ q.y → a.y ≡ p.y → lefts a b p < rights a b p → rights a b q < lefts a b q → ⊥
  foot_west e h r l =
      not_both _
      (on_level p q a (omega arith) (omega arith)
      (between_down p.x q.x a.x (le_of_lt (west_of_foot a b q (omega arith) rise l)) (le_of_lt (east_of_foot a b p (omega arith) rise r))))
      a_off

  pub carried_rising : Carries p q (edge a b)
  carried_rising =
      rising (lefts p q a) (rights p q a) (lefts p q b) (rights p q b) (lefts a b p) (rights a b p) (lefts a b q) (rights a b q) a.y b.y p.y
      q.y (balance a b p q) (low a b p q) (high a b p q) up rise p_clear q_clear a_clear b_clear (λ e h. level_line p q a (omega arith) (omega arith)) foot_east foot_west
      top_east top_west

-- gone the other way, the edge says the same
carries_reversed : (p q : Corner) (e : Edge) → Carries p q (reversed e) → Carries p q e
carries_reversed p q e h =
    sym (ap₂ xor (crosses_reversed e p) (crosses_reversed e q)) ∙ h
    ∙ ap₂ xor (xor_comm (right_of p q e.other) (right_of p q e.one)) (cross_over_reversed e (edge p q))

-- an edge that does not touch the segment
pub carries_free : (p q : Corner) (e : Edge) → p.y ≤ q.y → touches p q e ≡ false → Carries p q e
carries_free p q e up free =
    ⊎_elim (λ h. carried_rising e.one e.other p q free up (le_of_lt h))
    (λ h. carries_reversed p q e (carried_rising e.other e.one p q (touches_reversed p q e ∙ free) up h)) (cases_lt e.one.y e.other.y)

-- an edge that is in line with the segment, wherever on that line
pub carries_line : (p q : Corner) (e : Edge) → in_line p q e.one ≡ true → in_line p q e.other ≡ true → Carries p q e
carries_line p q e h k =
    all_in_line (lefts p q a) (rights p q a) (lefts p q b) (rights p q b) (lefts a b p) (rights a b p) (lefts a b q) (rights a b q) a.y b.y p.y
    q.y (balance a b p q) (low a b p q) (eqb-true (lefts p q a) (rights p q a) h) (eqb-true (lefts p q b) (rights p q b) k)
  where
    a : Corner
    a = e.one

    b : Corner
    b = e.other

-- an edge that does not spoil the segment
pub carries : (p q : Corner) (e : Edge) → p.y ≤ q.y → spoils p q e ≡ false → Carries p q e
carries p q e up fine =
    ⊎_elim (carries_free p q e up)
    (λ h.
    let w = and_parts (in_line p q e.one) (in_line p q e.other) (not-false (in_line p q e.one && in_line p q e.other) h) in
    carries_line p q e w.0 w.1)
    (and_cases (touches p q e) (not (in_line p q e.one && in_line p q e.other)) fine)
