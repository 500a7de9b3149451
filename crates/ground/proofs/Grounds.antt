-- Which rows are grounds: each fault that is found makes the row none, and without faults it is one.
use Rattle.std.proofs.Common.{◌≡◌, ℕ, ◌+◌, ◌-◌, ◌/◌, ◌%◌, ◌<◌, ◌≤◌, Bool, true, false, ◌&&◌, eqb, leb, List, [], ◌∷◌, length, get_or, refl, ap, ◌∙◌, arith}
use Rattle.plane.specs.Lists.{every}
use Rattle.plane.specs.Corners.{Corner, corner}
use Rattle.ground.specs.Rows.{near_corner}
use Rattle.ground.specs.Shapes.{Shape, edges, ring_clear}
use Rattle.ground.specs.Rows.{shape_of}
use Rattle.ground.specs.Refusals.{is_ground, goes_left, FirstFar, FirstMeeting, WholeCorners, WellSized, InRange, Wrong, Refuses}
use Rattle.ground.specs.declared.refusal.NoGround.TheVariants.{Odd, TooFew, TooMany, OutOfRange, EdgesMeet, Clockwise}
use Rattle.ground.proofs.Closing.{shape_many}
use Rattle.std.proofs.lemmas.Bool.{ltb-false, lt-leb, le-leb, eq-eqb, ne_eqb, and_left, and_right, and_from}
use Rattle.ground.proofs.Fronts.{FailsAt}

-- all corners are in range if the front one is and the others are
pub every_more : (c : Corner) (cs : Shape) → every near_corner (c ∷ cs) ≡ (near_corner c && every near_corner cs)
unfolding every
every_more c cs = refl

pub every_none : every near_corner [] ≡ true
unfolding every
every_none = refl

-- the corner behind k others that are in range has the number k + 1
pub first_far : (s : Shape) (k : ℕ) → FailsAt near_corner (every near_corner) (corner 0 0) s k → FirstFar s (k + 1)
first_far s k h =
    let back : k + 1 - 1 ≡ k = omega arith in
    record {
      from_one = omega arith;
      among = omega (arith, h.among);
      far = ap (λ j. near_corner (get_or s j (corner 0 0))) back ∙ h.fails;
      before = λ j a b. h.before (j - 1) (omega arith);
    }

-- EACH FAULT, where those that are looked for before it are not there
-- the six tests in their order
abbrev tests : (even low high near clear left : Bool) → Bool
tests even low high near clear left = even && (((low && high) && near) && (clear && left))

abbrev at_least : Shape → Bool
at_least s = leb 3 (length s)

abbrev at_most : Shape → Bool
at_most s = leb (length s) 256

pub refuses_odd : (row : List ℕ) → length row % 2 ≡ 1 → Refuses row Odd
unfolding Wrong
refuses_odd row h = (and_left _ _ (ne_eqb (length row % 2) 0 (λ k. omega arith)), h)

few_fails : (e l h n c t : Bool) → l ≡ false → tests e l h n c t ≡ false
few_fails e l h n c t k = and_right e _ (and_left _ (c && t) (and_left _ n (and_left l h k)))

many_fails : (e l h n c t : Bool) → h ≡ false → tests e l h n c t ≡ false
many_fails e l h n c t k = and_right e _ (and_left _ (c && t) (and_left _ n (and_right l h k)))

far_fails : (e l h n c t : Bool) → n ≡ false → tests e l h n c t ≡ false
far_fails e l h n c t k = and_right e _ (and_left _ (c && t) (and_right (l && h) n k))

met_fails : (e l h n c t : Bool) → c ≡ false → tests e l h n c t ≡ false
met_fails e l h n c t k = and_right e _ (and_right ((l && h) && n) _ (and_left c t k))

right_fails : (e l h n c t : Bool) → t ≡ false → tests e l h n c t ≡ false
right_fails e l h n c t k = and_right e _ (and_right ((l && h) && n) _ (and_right c t k))

pub sized : (row : List ℕ) → length row % 2 ≡ 0 → 3 ≤ length row / 2 → length row / 2 ≤ 256 → WellSized row
sized row whole low high = (whole, omega (arith, shape_many row), omega (arith, shape_many row))

module _ (row : List ℕ) where
  pub refuses_few : WholeCorners row → length row / 2 < 3 → Refuses row TooFew
  unfolding Wrong
  refuses_few whole h =
      let few : length (shape_of row) < 3 = omega (arith, shape_many row) in
      (few_fails (eqb (length row % 2) 0) (at_least (shape_of row)) (at_most (shape_of row)) (every near_corner (shape_of row)) (ring_clear (edges (shape_of row))) (goes_left (shape_of row)) (lt-leb 3 (length (shape_of row)) few), (whole, few))

  pub refuses_many : WholeCorners row → 256 < length row / 2 → Refuses row TooMany
  unfolding Wrong
  refuses_many whole h =
      let many : 256 < length (shape_of row) = omega (arith, shape_many row) in
      (many_fails (eqb (length row % 2) 0) (at_least (shape_of row)) (at_most (shape_of row)) (every near_corner (shape_of row)) (ring_clear (edges (shape_of row))) (goes_left (shape_of row)) (lt-leb (length (shape_of row)) 256 many), (whole, many))

  pub refuses_far : WellSized row → (k : ℕ) → every near_corner (shape_of row) ≡ false → FirstFar (shape_of row) k → Refuses row (OutOfRange k)
  unfolding Wrong
  refuses_far size k far first = (far_fails (eqb (length row % 2) 0) (at_least (shape_of row)) (at_most (shape_of row)) (every near_corner (shape_of row)) (ring_clear (edges (shape_of row))) (goes_left (shape_of row)) far, (size, first))

  pub refuses_meeting : InRange row → (i j : ℕ) → (ring_clear (edges (shape_of row)) ≡ false) × FirstMeeting (edges (shape_of row)) i j → Refuses row (EdgesMeet i j)
  unfolding Wrong
  refuses_meeting range i j (met, first) = (met_fails (eqb (length row % 2) 0) (at_least (shape_of row)) (at_most (shape_of row)) (every near_corner (shape_of row)) (ring_clear (edges (shape_of row))) (goes_left (shape_of row)) met, (range, first))

  pub refuses_right : InRange row → ring_clear (edges (shape_of row)) ≡ true → goes_left (shape_of row) ≡ false → Refuses row Clockwise
  unfolding Wrong
  refuses_right range clear right = (right_fails (eqb (length row % 2) 0) (at_least (shape_of row)) (at_most (shape_of row)) (every near_corner (shape_of row)) (ring_clear (edges (shape_of row))) (goes_left (shape_of row)) right, (range, clear, ltb-false _ _ right))

  -- without any of them the row is a ground
  pub grounds : InRange row → ring_clear (edges (shape_of row)) ≡ true → goes_left (shape_of row) ≡ true → is_ground row ≡ true
  grounds ((whole, low, high), near) clear left =
      and_from _ _ (eq-eqb (length row % 2) 0 whole)
      (and_from _ _ (and_from _ _ (and_from _ _ (le-leb _ _ low) (le-leb _ _ high)) near) (and_from _ _ clear left))
