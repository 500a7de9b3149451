-- The two banks of an edge: what the edge itself adds to the parity on the way from a corner amid it to another that is left of it, or right of it.
use Rattle.std.proofs.Common.{◌≡◌, ℕ, ◌*◌, ◌<◌, ◌≤◌, Bool, true, false, not, ◌&&◌, eqb, ltb, leb, sym, ap, ◌∙◌, ap₂, ⊎_elim, arith}
use Rattle.std.proofs.lemmas.Bool.{cases_order, ltb-true}
use Rattle.std.proofs.lemmas.Bool.Decides.{nat_tests}
use Rattle.plane.specs.Lists.{pick, or}
use Rattle.plane.specs.Corners.{Corner, lefts, rights, left_turn, right_turn, between, same_corner}
use Rattle.plane.specs.Edges.{edge, on_edge}
use Rattle.plane.specs.Parity.{xor, crosses}
use Rattle.plane.specs.Orientation.{upward}
use Rattle.plane.proofs.Products.{product_sign}
use Rattle.plane.proofs.Bands.{passes}
use Rattle.plane.proofs.Turns.{left_turn_cycled, right_turn_cycled, left_turn_swapped, right_turn_swapped, left_turn_reversed, right_turn_reversed}
use Rattle.plane.proofs.Reversal.{on_edge_reversed}
use Rattle.plane.proofs.Sides.{on_edge_parts}
use Rattle.plane.proofs.Bends.{bend, crosses_in_line}
use Rattle.plane.proofs.Pieces.{piece_left, piece_right, level_end, squeezed}

-- OVER PLAIN NUMBERS: heights; l − r is the determinant of the edge and the other corner q, m is amid the edge
abbrev bank : (ay by my qy l r : ℕ) → Bool
bank ay by my qy l r =
    xor (passes ay by qy l r)
    (xor (pick (leb my qy) ((ltb my ay && leb ay qy) && ltb l r) ((ltb qy ay && leb ay my) && ltb r l))
    (pick (leb my qy) ((ltb my by && leb by qy) && ltb r l) ((ltb qy by && leb by my) && ltb l r)))

module _ (ay by my qy l r : ℕ) where
  -- the edge goes up
  rising_left : ay < my → my < by → r < l → bank ay by my qy l r ≡ true
  rising_left h k d = grind (arith, nat_tests)

  rising_right : ay < my → my < by → l < r → bank ay by my qy l r ≡ false
  rising_right h k d = grind (arith, nat_tests)

  -- it goes down
  falling_left : by < my → my < ay → r < l → bank ay by my qy l r ≡ false
  falling_left h k d = grind (arith, nat_tests)

  falling_right : by < my → my < ay → l < r → bank ay by my qy l r ≡ true
  falling_right h k d = grind (arith, nat_tests)

  -- it is level
  level_left : ay ≡ my → by ≡ my → r < l → bank ay by my qy l r ≡ ltb qy my
  level_left h k d = grind (arith, nat_tests)

  level_right : ay ≡ my → by ≡ my → l < r → bank ay by my qy l r ≡ ltb qy my
  level_right h k d = grind (arith, nat_tests)

-- m is none of the ends, and not at the height of one, unless they are level
strictly : (a b m : ℕ) → between a b m ≡ true → (m ≡ b → a ≡ b) → (m ≡ a → b ≡ a) → a < b → (a < m) × (m < b)
strictly a b m held top foot h = (grind (arith, nat_tests), grind (arith, nat_tests))

-- THE WAY OF AN EDGE
upward_up : (a b : Corner) → a.y < b.y → upward (edge a b) ≡ true
upward_up a b h = grind (arith, nat_tests)

upward_down : (a b : Corner) → b.y < a.y → upward (edge a b) ≡ false
upward_down a b h = grind (arith, nat_tests)

-- left of a level edge is below it just if it goes west
level_tests : (ax ay bx by qy : ℕ) → ay ≡ by → (ax ≤ bx → ay < qy) → (bx ≤ ax → qy < ay) → ltb qy ay ≡ or (ltb ay by) (eqb ay by && ltb bx ax)
level_tests ax ay bx by qy h east west = grind (arith, nat_tests)

level_tests_back : (ax ay bx by qy : ℕ) → ay ≡ by → (ax ≤ bx → qy < ay) → (bx ≤ ax → ay < qy) → ltb qy ay ≡ not (or (ltb ay by) (eqb ay by && ltb bx ax))
level_tests_back ax ay bx by qy h east west = grind (arith, nat_tests)

-- left of a level edge that goes west is below it
left_of_level : (a b q : Corner) → a.y ≡ b.y → rights a b q < lefts a b q → ltb q.y a.y ≡ upward (edge a b)
left_of_level a b q h d = level_tests a.x a.y b.x b.y q.y h east west
  where
    east : a.x ≤ b.x → a.y < q.y
    east k = product_sign q.y a.y a.x b.x k (omega (arith, d, ap (λ (n : ℕ). a.x * n) h, ap (λ (n : ℕ). n * q.x) h))

    west : b.x ≤ a.x → q.y < a.y
    west k = product_sign a.y q.y b.x a.x k (omega (arith, d, ap (λ (n : ℕ). a.x * n) h, ap (λ (n : ℕ). n * q.x) h))

right_of_level : (a b q : Corner) → a.y ≡ b.y → lefts a b q < rights a b q → ltb q.y a.y ≡ not (upward (edge a b))
right_of_level a b q h d = level_tests_back a.x a.y b.x b.y q.y h east west
  where
    east : a.x ≤ b.x → q.y < a.y
    east k = product_sign a.y q.y a.x b.x k (omega (arith, d, ap (λ (n : ℕ). a.x * n) h, ap (λ (n : ℕ). n * q.x) h))

    west : b.x ≤ a.x → a.y < q.y
    west k = product_sign q.y a.y b.x a.x k (omega (arith, d, ap (λ (n : ℕ). a.x * n) h, ap (λ (n : ℕ). n * q.x) h))

-- A CORNER m AMID THE EDGE, AND ANOTHER, q
module _ (a b m q : Corner) (on : on_edge (edge a b) m ≡ true) (begun : same_corner m a ≡ false) (off : same_corner m b ≡ false) where
  -- m is on the edge gone the other way too
  back : on_edge (edge b a) m ≡ true
  back = on_edge_reversed (edge a b) m ∙ on

  -- on the way from m to q the edge's ends are on the two sides that q tells
  right_to_one : right_turn m q a ≡ right_turn a b q
  right_to_one = sym (left_turn_reversed m q a) ∙ left_turn_cycled m a q ∙ piece_left b a m back begun q ∙ left_turn_swapped a b q

  left_to_one : left_turn m q a ≡ left_turn a b q
  left_to_one = sym (right_turn_reversed m q a) ∙ right_turn_cycled m a q ∙ piece_right b a m back begun q ∙ right_turn_swapped a b q

  right_to_other : right_turn m q b ≡ left_turn a b q
  right_to_other = sym (left_turn_reversed m q b) ∙ left_turn_cycled m b q ∙ piece_left a b m on off q

  left_to_other : left_turn m q b ≡ right_turn a b q
  left_to_other = sym (right_turn_reversed m q b) ∙ right_turn_cycled m b q ∙ piece_right a b m on off q

  -- what the edge adds, in numbers
  bend_bank : bend m q (edge a b) ≡ bank a.y b.y m.y q.y (lefts a b q) (rights a b q)
  bend_bank =
      ap₂ xor (ap (λ t. xor t (crosses (edge a b) q)) (crosses_in_line (edge a b) m (on_edge_parts (edge a b) m on).0))
      (ap₂ xor
      (ap₂ (λ u v. pick (leb m.y q.y) ((ltb m.y a.y && leb a.y q.y) && u) ((ltb q.y a.y && leb a.y m.y) && v)) right_to_one
      (right_turn_swapped m q a ∙ left_to_one))
      (ap₂ (λ u v. pick (leb m.y q.y) ((ltb m.y b.y && leb b.y q.y) && u) ((ltb q.y b.y && leb b.y m.y) && v)) right_to_other
      (right_turn_swapped m q b ∙ left_to_other)))

  -- m is strictly between the heights of the ends, or the edge is level
  rising : a.y < b.y → (a.y < m.y) × (m.y < b.y)
  rising = strictly a.y b.y m.y (on_edge_parts (edge a b) m on).2 (level_end a b m on off) (level_end b a m back begun)

  falling : b.y < a.y → (b.y < m.y) × (m.y < a.y)
  falling = strictly b.y a.y m.y (on_edge_parts (edge b a) m back).2 (level_end b a m back begun) (level_end a b m on off)

  level : a.y ≡ b.y → (a.y ≡ m.y) × (b.y ≡ m.y)
  level h = let e = squeezed a.y b.y m.y h (on_edge_parts (edge a b) m on).2 in (omega arith, omega arith)

  -- to the left bank
  pub bank_left : left_turn a b q ≡ true → bend m q (edge a b) ≡ upward (edge a b)
  bank_left turn =
      bend_bank
      ∙ ⊎_elim
      (λ h. level_left a.y b.y m.y q.y (lefts a b q) (rights a b q) (level h).0 (level h).1 d ∙ ap (ltb q.y) (sym (level h).0)
      ∙ left_of_level a b q h d)
      (⊎_elim
      (λ h. rising_left a.y b.y m.y q.y (lefts a b q) (rights a b q) (rising h).0 (rising h).1 d ∙ sym (upward_up a b h))
      (λ h. falling_left a.y b.y m.y q.y (lefts a b q) (rights a b q) (falling h).0 (falling h).1 d ∙ sym (upward_down a b h)))
      (cases_order a.y b.y)
    where
      d : rights a b q < lefts a b q
      d = ltb-true (rights a b q) (lefts a b q) turn

  -- to the right bank
  pub bank_right : right_turn a b q ≡ true → bend m q (edge a b) ≡ not (upward (edge a b))
  bank_right turn =
      bend_bank
      ∙ ⊎_elim
      (λ h. level_right a.y b.y m.y q.y (lefts a b q) (rights a b q) (level h).0 (level h).1 d ∙ ap (ltb q.y) (sym (level h).0)
      ∙ right_of_level a b q h d)
      (⊎_elim
      (λ h. rising_right a.y b.y m.y q.y (lefts a b q) (rights a b q) (rising h).0 (rising h).1 d ∙ sym (ap not (upward_up a b h)))
      (λ h. falling_right a.y b.y m.y q.y (lefts a b q) (rights a b q) (falling h).0 (falling h).1 d ∙ sym (ap not (upward_down a b h))))
      (cases_order a.y b.y)
    where
      d : lefts a b q < rights a b q
      d = ltb-true (lefts a b q) (rights a b q) turn
