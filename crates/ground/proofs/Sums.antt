-- The two sums of products whose difference is twice the area, product by product.
use Rattle.std.proofs.Common.{◌≡◌, ℕ, suc, ◌+◌, ◌-◌, ◌*◌, ◌<◌, ◌≤◌, true, false, ltb, List, [], ◌∷◌, length, Some, None, Option, sym, ap, arith, MatchOption}
use Rattle.std.proofs.lemmas.Bool.{ltb-true, lt-ltb, le-ltb, and_parts}
use Rattle.std.proofs.lemmas.Nat.{mul-le}
use Rattle.plane.specs.Lists.{every, added_up}
use Rattle.plane.specs.Corners.{Corner}
use Rattle.plane.specs.Edges.{Edge, edge}
use Rattle.ground.specs.Rows.{near_corner}
use Rattle.ground.specs.Shapes.{Shape, edges, edges_from, left_sum, right_sum, twice_area}
use Rattle.ground.specs.Rows.{shape_of}
use Rattle.ground.specs.Refusals.{goes_left}
use Rattle.ground.proofs.Closing.{shape_many}

-- a sum over edges, one by one
module _ (g : Edge → ℕ) where
  pub sum_more : (e : Edge) (es left : List Edge) → es ≡ e ∷ left → g e + added_up g left ≡ added_up g es
  unfolding added_up
  sum_more e es left h = sym (ap (added_up g) h)

  pub sum_none : (es : List Edge) → es ≡ [] → added_up g es ≡ 0
  unfolding added_up
  sum_none es h = ap (added_up g) h

  -- each product is small, so the sum is
  module _ (small : (a b : Corner) → near_corner a ≡ true → near_corner b ≡ true → g (edge a b) ≤ 1099511627776) where
    path_small : (f a : Corner) (cs : Shape) → near_corner f ≡ true → near_corner a ≡ true → every near_corner cs ≡ true →
        added_up g (edges_from f a cs) ≤ 1099511627776 * suc (length cs)
    unfolding edges_from added_up every
    path_small f a [] p q r = omega (arith, small a f q p)
    path_small f a (b ∷ bs) p q r =
        let near = and_parts (near_corner b) (every near_corner bs) r in
        omega (arith, small a b q near.0, path_small f b bs p near.0 near.1)

    ring_small : (s : Shape) → every near_corner s ≡ true → added_up g (edges s) ≤ 1099511627776 * length s
    unfolding edges added_up every
    ring_small [] r = omega arith
    ring_small (a ∷ as₁) r =
        let near = and_parts (near_corner a) (every near_corner as₁) r in
        path_small a a as₁ near.0 near.0 near.1

near_parts : (a : Corner) → near_corner a ≡ true → (a.x < 1048576) × (a.y < 1048576)
near_parts a h =
    let both = and_parts (ltb a.x 1048576) (ltb a.y 1048576) h in
    (ltb-true a.x 1048576 both.0, ltb-true a.y 1048576 both.1)

-- 256 products of numbers below 2^20
pub left_small : (xs : List ℕ) → length xs ≤ 512 → every near_corner (shape_of xs) ≡ true → left_sum (shape_of xs) ≤ 281474976710656
left_small xs few near =
    omega (arith, shape_many xs, ring_small (λ e. e.one.x * e.other.y) (λ a b p q. omega (arith, mul-le a.x b.y 1048576 1048576 (omega (arith, near_parts a p)) (omega (arith, near_parts b q)))) (shape_of xs) near)

pub right_small : (xs : List ℕ) → length xs ≤ 512 → every near_corner (shape_of xs) ≡ true → right_sum (shape_of xs) ≤ 281474976710656
right_small xs few near =
    omega (arith, shape_many xs, ring_small (λ e. e.one.y * e.other.x) (λ a b p q. omega (arith, mul-le a.y b.x 1048576 1048576 (omega (arith, near_parts a p)) (omega (arith, near_parts b q)))) (shape_of xs) near)

-- what the sums tell: the larger one tells which way the ring goes round
pub area_so : (s : Shape) (l r : ℕ) → l ≡ left_sum s → r ≡ right_sum s → (lead : Option ℕ) → MatchOption lead (l ≤ r) (λ n. (r < l) × (n ≡ l - r)) →
    MatchOption lead (goes_left s ≡ false) (λ n. (goes_left s ≡ true) × (n ≡ twice_area s))
area_so s l r p q None h = le-ltb _ _ (omega arith)
area_so s l r p q (Some n) (h, e) = (lt-ltb _ _ (omega arith), omega arith)
