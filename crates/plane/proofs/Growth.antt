-- Everything made n times as large, n at least 1: corners turn, and edges meet, as they did before.
use Rattle.std.proofs.Common.{◌≡◌, ℕ, ◌*◌, ◌≤◌, true, ◌&&◌, eqb, ltb, leb, sym, ap, ◌∙◌, ap₂, mul_assoc, mul-le-mul, arith}
use Rattle.plane.specs.Lists.{pick, or}
use Rattle.plane.specs.Corners.{Corner, corner, grown, lefts, rights, left_turn, right_turn, in_line, smaller, larger, between, same_corner}
use Rattle.plane.proofs.Booleans.{pick_under}
use Rattle.plane.proofs.Meeting.{met_at}
use Rattle.plane.proofs.Products.{ltb_times, leb_times, eqb_times}
use Rattle.plane.specs.Edges.{Edge, edge, grown_edge, on_edge, rises, falls, cross_over, meet}
use Rattle.plane.specs.Parity.{crosses}

-- HOW THREE CORNERS TURN
-- the two sums whose difference is the determinant grow n times n times
pub lefts_grown : (n : ℕ) (a b c : Corner) → lefts (grown n a) (grown n b) (grown n c) ≡ (n * n) * lefts a b c
lefts_grown n a b c = omega arith

pub rights_grown : (n : ℕ) (a b c : Corner) → rights (grown n a) (grown n b) (grown n c) ≡ (n * n) * rights a b c
rights_grown n a b c = omega arith

-- grown n times and w times is grown n * w times
pub grown_twice : (n w : ℕ) (c : Corner) → grown (n * w) c ≡ grown n (grown w c)
grown_twice n w c = ap₂ corner (mul_assoc n w c.x) (mul_assoc n w c.y)

pub grown_edge_twice : (n w : ℕ) (e : Edge) → grown_edge (n * w) e ≡ grown_edge n (grown_edge w e)
grown_edge_twice n w e = ap₂ edge (grown_twice n w e.one) (grown_twice n w e.other)

-- a square of what is not 0 is not 0
pub square_above : (n : ℕ) → 1 ≤ n → 1 ≤ n * n
square_above n h = mul-le-mul h h

module _ (n : ℕ) (above : 1 ≤ n) where
  module _ (a b c : Corner) where
    pub left_turn_grown : left_turn (grown n a) (grown n b) (grown n c) ≡ left_turn a b c
    left_turn_grown = ap₂ ltb (rights_grown n a b c) (lefts_grown n a b c) ∙ ltb_times (n * n) (square_above n above) (rights a b c) (lefts a b c)

    pub right_turn_grown : right_turn (grown n a) (grown n b) (grown n c) ≡ right_turn a b c
    right_turn_grown = ap₂ ltb (lefts_grown n a b c) (rights_grown n a b c) ∙ ltb_times (n * n) (square_above n above) (lefts a b c) (rights a b c)

    pub in_line_grown : in_line (grown n a) (grown n b) (grown n c) ≡ in_line a b c
    in_line_grown = ap₂ eqb (lefts_grown n a b c) (rights_grown n a b c) ∙ eqb_times (n * n) (square_above n above) (lefts a b c) (rights a b c)

  pub same_corner_grown : (a b : Corner) → same_corner (grown n a) (grown n b) ≡ same_corner a b
  same_corner_grown a b = ap₂ ◌&&◌ (eqb_times n above a.x b.x) (eqb_times n above a.y b.y)

  smaller_grown : (a b : ℕ) → smaller (n * a) (n * b) ≡ n * smaller a b
  smaller_grown a b = ap (λ t. pick t (n * a) (n * b)) (ltb_times n above a b) ∙ sym (pick_under (λ m. n * m) (ltb a b) a b)

  larger_grown : (a b : ℕ) → larger (n * a) (n * b) ≡ n * larger a b
  larger_grown a b = ap (λ t. pick t (n * b) (n * a)) (ltb_times n above a b) ∙ sym (pick_under (λ m. n * m) (ltb a b) b a)

  pub between_grown : (a b c : ℕ) → between (n * a) (n * b) (n * c) ≡ between a b c
  between_grown a b c =
      ap₂ ◌&&◌
      (ap (λ m. leb m (n * c)) (smaller_grown a b) ∙ leb_times n above (smaller a b) c)
      (ap (leb (n * c)) (larger_grown a b) ∙ leb_times n above c (larger a b))

  -- EDGES
  module _ (e : Edge) (c : Corner) where
    pub on_edge_grown : on_edge (grown_edge n e) (grown n c) ≡ on_edge e c
    on_edge_grown =
        ap₂ ◌&&◌ (in_line_grown e.one e.other c)
        (ap₂ ◌&&◌ (between_grown e.one.x e.other.x c.x) (between_grown e.one.y e.other.y c.y))

    pub rises_grown : rises (grown_edge n e) (grown n c) ≡ rises e c
    rises_grown =
        ap₂ ◌&&◌ (ap₂ ◌&&◌ (leb_times n above e.one.y c.y) (ltb_times n above c.y e.other.y))
        (left_turn_grown e.one e.other c)

    pub falls_grown : falls (grown_edge n e) (grown n c) ≡ falls e c
    falls_grown =
        ap₂ ◌&&◌ (ap₂ ◌&&◌ (leb_times n above e.other.y c.y) (ltb_times n above c.y e.one.y))
        (right_turn_grown e.one e.other c)

    pub crosses_grown : crosses (grown_edge n e) (grown n c) ≡ crosses e c
    crosses_grown = ap₂ or rises_grown falls_grown

  module _ (e f : Edge) where
    pub cross_over_grown : cross_over (grown_edge n e) (grown_edge n f) ≡ cross_over e f
    cross_over_grown = ap₂ ◌&&◌ (parts e.one e.other f.one f.other) (parts f.one f.other e.one e.other)
      where
        parts : (a b c d : Corner) →
            or (left_turn (grown n a) (grown n b) (grown n c) && right_turn (grown n a) (grown n b) (grown n d)) (right_turn (grown n a) (grown n b) (grown n c) && left_turn (grown n a) (grown n b) (grown n d))
            ≡ or (left_turn a b c && right_turn a b d) (right_turn a b c && left_turn a b d)
        parts a b c d =
            ap₂ or (ap₂ ◌&&◌ (left_turn_grown a b c) (right_turn_grown a b d)) (ap₂ ◌&&◌ (right_turn_grown a b c) (left_turn_grown a b d))

    pub meet_grown : meet (grown_edge n e) (grown_edge n f) ≡ meet e f
    meet_grown =
        ap₂ or cross_over_grown
        (ap₂ or (ap₂ or (on_edge_grown e f.one) (on_edge_grown e f.other)) (ap₂ or (on_edge_grown f e.one) (on_edge_grown f e.other)))

-- so edges meet that have a point in common, however it is written
pub met_grown : (w : ℕ) → 1 ≤ w → (e f : Edge) (m : Corner) → on_edge (grown_edge w e) m ≡ true → on_edge (grown_edge w f) m ≡ true → meet e f ≡ true
met_grown w above e f m here there = sym (meet_grown w above e f) ∙ met_at (grown_edge w e) (grown_edge w f) m here there
