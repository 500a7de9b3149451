-- Round a corner: the bends on its two sides say whether the way changes from upward to downward there, or back.
use Rattle.std.proofs.Common.{◌≡◌, ℕ, ◌<◌, ◌≤◌, false, ◌&&◌, eqb, ltb, leb, ◌⊎◌, sym, ◌∙◌, inl, inr, ⊎_elim, le_of_lt, arith}
use Rattle.std.proofs.lemmas.Bool.{cases_lt, cases_order}
use Rattle.std.proofs.lemmas.Bool.Decides.{nat_tests}
use Rattle.plane.specs.Lists.{or}
use Rattle.plane.specs.Corners.{Corner, lefts, rights}
use Rattle.plane.specs.Edges.{edge, on_edge}
use Rattle.plane.specs.Parity.{xor}
use Rattle.plane.specs.Orientation.{upward}
use Rattle.plane.proofs.Booleans.{not_both}
use Rattle.plane.proofs.Turns.{lefts_cycled, rights_cycled, lefts_swapped, rights_swapped, lefts_reversed, rights_reversed}
use Rattle.plane.proofs.Incidence.{on_steep, on_level, between_up, between_down, east_of_top, west_of_top, east_of_foot, west_of_foot}
use Rattle.plane.proofs.Reversal.{on_edge_reversed}
use Rattle.plane.proofs.Bends.{next_bend, last_bend}

-- OVER PLAIN NUMBERS: the bends at b, and the ways to b and from b; l − r is the determinant of a, b and c
abbrev Rounds : (ax ay bx by cx cy l r : ℕ) → Type 0
Rounds ax ay bx by cx cy l r =
    xor (or (ltb ay by && (leb cy by && ltb l r)) (leb by ay && (ltb by cy && ltb r l)))
    (or (leb by cy && (ltb by ay && ltb l r)) (ltb cy by && (leb ay by && ltb r l)))
    ≡ xor (or (ltb ay by) (eqb ay by && ltb bx ax)) (or (ltb by cy) (eqb by cy && ltb cx bx))

module _ (ax ay bx by cx cy l r : ℕ) where
  -- on upward, or on downward: no bend on either side
  through_up : ay < by → by < cy → Rounds ax ay bx by cx cy l r
  through_up h k = grind (arith, nat_tests)

  through_down : by < ay → cy < by → Rounds ax ay bx by cx cy l r
  through_down h k = grind (arith, nat_tests)

  -- a peak or a valley, where the way doesn't go back on itself
  peak : ay < by → cy < by → (l ≡ r → ⊥) → Rounds ax ay bx by cx cy l r
  peak h k off = grind (arith, nat_tests)

  valley : by < ay → by < cy → (l ≡ r → ⊥) → Rounds ax ay bx by cx cy l r
  valley h k off = grind (arith, nat_tests)

  -- from below, or from above, on to a level way
  up_level : ay < by → cy ≡ by → (l ≡ r → ⊥) → (l < r → bx < cx) → (r < l → cx < bx) → Rounds ax ay bx by cx cy l r
  up_level h k off right left = grind (arith, nat_tests)

  down_level : by < ay → cy ≡ by → (l ≡ r → ⊥) → (l < r → cx < bx) → (r < l → bx < cx) → Rounds ax ay bx by cx cy l r
  down_level h k off right left = grind (arith, nat_tests)

  -- from a level way up, or down
  level_up : ay ≡ by → by < cy → (l ≡ r → ⊥) → (l < r → bx < ax) → (r < l → ax < bx) → Rounds ax ay bx by cx cy l r
  level_up h k off right left = grind (arith, nat_tests)

  level_down : ay ≡ by → cy < by → (l ≡ r → ⊥) → (l < r → ax < bx) → (r < l → bx < ax) → Rounds ax ay bx by cx cy l r
  level_down h k off right left = grind (arith, nat_tests)

  -- on a level way, the way goes on as it came
  all_level : ay ≡ by → cy ≡ by → (bx < ax → cx < bx) → (cx < bx → bx < ax) → Rounds ax ay bx by cx cy l r
  all_level h k on back = grind (arith, nat_tests)

-- the same of three corners
abbrev Round : Corner → Corner → Corner → Type 0
Round a b c = Rounds a.x a.y b.x b.y c.x c.y (lefts a b c) (rights a b c)

-- THREE CORNERS, a before b before c: the way to b and the way from b don't lie on each other
module _ (a b c : Corner) (c_off : on_edge (edge a b) c ≡ false) (a_off : on_edge (edge b c) a ≡ false) where
  -- in line, a and c are not both on the one side of b, neither below it
  no_peak : a.y ≤ b.y → c.y ≤ b.y → (a.y < b.y) ⊎ (c.y < b.y) → lefts a b c ≡ rights a b c → ⊥
  no_peak h k off line =
      ⊎_elim
      (λ d. not_both _ (on_steep c b a (lefts_reversed a b c ∙ sym line ∙ sym (rights_reversed a b c)) (le_of_lt d) h (omega arith))
      (on_edge_reversed (edge b c) a ∙ a_off))
      (λ d. not_both _ (on_steep a b c line d k (omega arith)) c_off) (cases_lt c.y a.y)

  -- nor above it
  no_valley : b.y ≤ a.y → b.y ≤ c.y → (b.y < a.y) ⊎ (b.y < c.y) → lefts a b c ≡ rights a b c → ⊥
  no_valley h k off line =
      ⊎_elim
      (λ d. not_both _ (on_steep b c a (lefts_cycled a b c ∙ line ∙ sym (rights_cycled a b c)) h (le_of_lt d) (omega arith)) a_off)
      (λ d. not_both _ (on_steep b a c (lefts_swapped a b c ∙ sym line ∙ sym (rights_swapped a b c)) k d (omega arith))
      (on_edge_reversed (edge a b) c ∙ c_off)) (cases_lt a.y c.y)

  -- nor, on a level way, both east of it, or both west
  no_east : a.y ≡ b.y → c.y ≡ b.y → b.x ≤ a.x → b.x ≤ c.x → ⊥
  no_east h k p q =
      ⊎_elim (λ d. not_both _ (on_level b c a (omega arith) (omega arith) (between_up b.x c.x a.x p (le_of_lt d))) a_off)
      (λ d. not_both _ (on_level a b c (omega arith) (omega arith) (between_down a.x b.x c.x q d)) c_off) (cases_lt a.x c.x)

  no_west : a.y ≡ b.y → c.y ≡ b.y → a.x ≤ b.x → c.x ≤ b.x → ⊥
  no_west h k p q =
      ⊎_elim (λ d. not_both _ (on_level a b c (omega arith) (omega arith) (between_up a.x b.x c.x (le_of_lt d) q)) c_off)
      (λ d. not_both _ (on_level b c a (omega arith) (omega arith) (between_down b.x c.x a.x d p)) a_off) (cases_lt a.x c.x)

  -- the way to b goes up
  from_below : a.y < b.y → Round a b c
  from_below h =
      ⊎_elim
      (λ k. up_level a.x a.y b.x b.y c.x c.y (lefts a b c) (rights a b c) h k (no_peak (le_of_lt h) (omega arith) (inl h))
      (east_of_top a b c k (le_of_lt h)) (west_of_top a b c k (le_of_lt h)))
      (⊎_elim
      (λ k. peak a.x a.y b.x b.y c.x c.y (lefts a b c) (rights a b c) h k (no_peak (le_of_lt h) (le_of_lt k) (inl h)))
      (λ k. through_up a.x a.y b.x b.y c.x c.y (lefts a b c) (rights a b c) h k))
      (cases_order c.y b.y)

  -- it goes down
  from_above : b.y < a.y → Round a b c
  from_above h =
      ⊎_elim
      (λ k. down_level a.x a.y b.x b.y c.x c.y (lefts a b c) (rights a b c) h k (no_valley (le_of_lt h) (omega arith) (inl h))
      (λ d. west_of_foot b a c k (le_of_lt h) (omega (arith, lefts_swapped a b c, rights_swapped a b c)))
      (λ d. east_of_foot b a c k (le_of_lt h) (omega (arith, lefts_swapped a b c, rights_swapped a b c))))
      (⊎_elim
      (λ k. through_down a.x a.y b.x b.y c.x c.y (lefts a b c) (rights a b c) h k)
      (λ k. valley a.x a.y b.x b.y c.x c.y (lefts a b c) (rights a b c) h k (no_valley (le_of_lt h) (le_of_lt k) (inl h))))
      (cases_order c.y b.y)

  -- it is level
  from_level : a.y ≡ b.y → Round a b c
  from_level h =
      ⊎_elim
      (λ k. all_level a.x a.y b.x b.y c.x c.y (lefts a b c) (rights a b c) h k
      (λ d. ⊎_elim (λ e. e) (λ e. absurd (no_east h k (le_of_lt d) e)) (cases_lt c.x b.x))
      (λ d. ⊎_elim (λ e. e) (λ e. absurd (no_west h k e (le_of_lt d))) (cases_lt b.x a.x)))
      (⊎_elim
      (λ k. level_down a.x a.y b.x b.y c.x c.y (lefts a b c) (rights a b c) h k (no_peak (omega arith) (le_of_lt k) (inr k))
      (λ d. west_of_top c b a h (le_of_lt k) (omega (arith, lefts_reversed a b c, rights_reversed a b c)))
      (λ d. east_of_top c b a h (le_of_lt k) (omega (arith, lefts_reversed a b c, rights_reversed a b c))))
      (λ k. level_up a.x a.y b.x b.y c.x c.y (lefts a b c) (rights a b c) h k (no_valley (omega arith) (le_of_lt k) (inr k))
      (λ d. east_of_foot b c a h (le_of_lt k) (omega (arith, lefts_cycled a b c, rights_cycled a b c)))
      (λ d. west_of_foot b c a h (le_of_lt k) (omega (arith, lefts_cycled a b c, rights_cycled a b c)))))
      (cases_order c.y b.y)

  -- the two bends at a corner differ just if the way changes there from upward to downward, or back
  pub round_corner : xor (next_bend a b c) (last_bend a b c) ≡ xor (upward (edge a b)) (upward (edge b c))
  round_corner = ⊎_elim from_level (⊎_elim from_below from_above) (cases_order a.y b.y)
