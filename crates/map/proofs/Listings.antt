-- Listing the grounds that have a point.
use Rattle.std.proofs.Common.{◌≡◌, ℕ, ◌+◌, ◌-◌, ◌*◌, ◌%◌, ◌≤◌, Bool, true, false, ◌&&◌, eqb, leb, List, length, take, drop, Some, None, unwrap_or, refl, arith, length-drop, length-take}
use Rattle.std.proofs.lemmas.Bool.Decides.{nat_tests}
use Rattle.std.proofs.lemmas.Bool.{false≢true, and_parts, leb-true, eq-eqb}
use Rattle.plane.specs.Lists.{pick}
use Rattle.plane.specs.Sights.{view_fits}
use Rattle.ground.specs.Shapes.{in_shape}
use Rattle.ground.specs.Rows.{shape_of}
use Rattle.ground.specs.Boxes.{box_around, holds}
use Rattle.ground.specs.declared.bounding.Extent.{Extent}
use Rattle.ground.proofs.Boxes.{around_in_box}
use Rattle.map.specs.Sizes.{record_length}
use Rattle.map.specs.Memory.{whole_at, behind, count_at, row_at, row_fits, box_has, has_at}
use Rattle.map.specs.Machine.{point, small_point}
use Rattle.map.specs.Code.{box_at}
use Rattle.ground.specs.Looks.{look_fits}

-- a point in range can be looked from
small_views : (a b w : ℕ) → small_point (point a b w) ≡ true → view_fits a b w ≡ true
small_views a b w h = grind (arith, nat_tests)

-- what holds anyway drops out of a test
only : (t f u : Bool) → t ≡ true → u ≡ true → (t && f) && u ≡ f
only true f true h k = grind arith
only true f false h k = absurd (false≢true k)
only false f u h k = absurd (false≢true h)

-- a look that gave nothing counts as a miss
missed : (t f s : Bool) → t ≡ true → unwrap_or (pick f (Some s) None) false ≡ t && (f && s)
missed true true s h = refl
missed true false s h = refl
missed false f s h = absurd (false≢true h)

module _ (m : List ℕ) (p : ℕ) where
  -- a record that lies in the memory as a whole has two numbers for each corner
  row_length : whole_at m p ≡ true → length (row_at m p) ≡ 2 * count_at m p
  row_length whole =
      let h : behind m p ≤ length m = leb-true (behind m p) (length m) (and_parts (leb (p + record_length) (length m)) _ whole).1 in
      simp (length-take, length-drop) (omega arith)

  -- the row of a record, cut out of the memory
  pub cut : (end : ℕ) → end ≡ behind m p → take (end - (p + record_length)) (drop (p + record_length) m) ≡ row_at m p
  cut end e = let n : end - (p + record_length) ≡ 2 * count_at m p = omega arith in rw n

  module _ (a b w : ℕ) (small : small_point (point a b w) ≡ true) where
    -- the box of a record has the point, if it holds the least box of whole numbers around that
    pub box_tells : (around : Extent) → around ≡ box_around a b w → holds (box_at m p) around ≡ box_has m p (point a b w)
    box_tells around e = rw e (around_in_box (box_at m p) a b w (leb-true 1 w (and_parts _ _ (and_parts _ _ small).0).0))

    -- a ground of which the box has the point is passed over only if its numbers are out of range
    pub looked :
        (row : List ℕ) → row ≡ row_at m p → whole_at m p ≡ true → box_has m p (point a b w) ≡ true →
        unwrap_or (pick (look_fits row a b w) (Some (in_shape (shape_of row) (point a b w))) None) false ≡ has_at m p (point a b w)
    unfolding has_at
    looked row e whole h =
        let even : eqb (length (row_at m p) % 2) 0 ≡ true = eq-eqb _ _ (omega (arith, row_length whole)) in
        let fits : look_fits (row_at m p) a b w ≡ row_fits (row_at m p) = only _ (row_fits (row_at m p)) _ even (small_views a b w small) in
        rw (e, fits) (missed (box_has m p (point a b w)) (row_fits (row_at m p)) (in_shape (shape_of (row_at m p)) (point a b w)) h)
