-- What cells say of the areas of several grounds: cell by cell.
use Rattle.std.proofs.Common.{◌≡◌, ℕ, ◌+◌, ◌*◌, ◌≤◌, Bool, true, false, ◌&&◌, ◌⊎◌, sym, refl, ap, ◌∙◌, inl, inr, ⊎_elim, arith}
use native.Mathlib.Nat.{le_of_mul-le-mul_left, eq_of_mul-eq-mul_left}
use Rattle.std.proofs.lemmas.Bool.{le-leb}
use Rattle.plane.specs.Lists.{or}
use Rattle.plane.specs.Sums.{sum_below, tally}
use Rattle.plane.specs.Multiples.{DividesAll}
use Rattle.plane.proofs.Booleans.{or_false_right}
use Rattle.plane.proofs.Multiples.{common_multiple}
use Rattle.plane.proofs.Sums.{sum_below_same, sum_below_le, sum_below_add}
use Rattle.ground.specs.Shapes.{a_point, Shape, inside, in_shape, twice_area}
use Rattle.ground.specs.Ways.{Within, OnlyBorders}
use Rattle.ground.specs.Statements.{AreaLess}
use Rattle.ground.specs.Areas.{middle, cross_section, CommonMultiple, SameArea, CoveredBy, PartsAdd}
use Rattle.ground.proofs.Rings.{Shaped, shape_parts}
use Rattle.ground.proofs.Areas.{middle_off, measured}

-- there are cells that measure
pub common_there : CommonMultiple
unfolding CommonMultiple
common_there = common_multiple

-- a test that brings another counts no more
tally_le : (a b : Bool) → (a ≡ true → b ≡ true) → tally a ≤ tally b
tally_le true b h = omega (arith, ap tally (h refl))
tally_le false b h = omega arith

module _ (d : ℕ) (fine : 1 ≤ d) (divides : DividesAll d 1048576) where
  -- the middle of a cell is a point
  middle_point : (j k : ℕ) → a_point (middle d j k) ≡ true
  middle_point j k = le-leb 1 (2 * d) (omega arith)

  -- at the middle of a cell, to be of a ground is to be inside
  middle_of : (s : Shape) → Shaped s → (j k : ℕ) → in_shape s (middle d j k) ≡ inside s (middle d j k)
  middle_of s shaped j k = ap (or (inside s (middle d j k))) (middle_off d fine divides s shaped j k) ∙ or_false_right (inside s (middle d j k))

  -- a cell of what is within is a cell of the other
  within_cell : (s t : Shape) → Shaped s → Shaped t → Within s t → (j k : ℕ) → inside s (middle d j k) ≡ true → inside t (middle d j k) ≡ true
  unfolding Within
  within_cell s t shaped shaped₁ h j k here = sym (middle_of t shaped₁ j k) ∙ h (middle d j k) (middle_point j k) (middle_of s shaped j k ∙ here)

  -- what is within has no more cells
  sections_less : (s t : Shape) → Shaped s → Shaped t → Within s t → sum_below 1048576 (cross_section d s) ≤ sum_below 1048576 (cross_section d t)
  unfolding cross_section
  sections_less s t shaped shaped₁ h =
      sum_below_le 1048576 (cross_section d s) (cross_section d t)
      (λ k l. sum_below_le (d * 1048576) _ _ (λ j m. tally_le (inside s (middle d j k)) (inside t (middle d j k)) (within_cell s t shaped shaped₁ h j k)))

  -- so it has no more area
  area_within : (s t : Shape) → Shaped s → Shaped t → Within s t → twice_area s ≤ twice_area t
  area_within s t shaped shaped₁ h =
      let less = sections_less s t shaped shaped₁ h in
      le_of_mul-le-mul_left {k = d} (omega (arith, measured d fine divides s shaped, measured d fine divides t shaped₁)) fine

-- what is within another has no more area
pub area_less : AreaLess
unfolding AreaLess
area_less s t ground ground₁ h = let c = common_multiple 1048576 in area_within c.0 c.1 c.2 s t (shape_parts s ground) (shape_parts t ground₁) h

-- what has the same points has the same area
pub same_area : SameArea
unfolding SameArea AreaLess
same_area s t ground ground₁ h k = omega (arith, area_less s t ground ground₁ h, area_less t s ground₁ ground k)

-- TWO GROUNDS THAT MAKE UP A THIRD
tally_parts : (a b c : Bool) → (a ≡ true → c ≡ true) → (b ≡ true → c ≡ true) → (c ≡ true → (a ≡ true) ⊎ (b ≡ true)) → (a && b) ≡ false →
    tally c ≡ tally a + tally b
tally_parts a b c ha hb hc off = grind arith

module _ (d : ℕ) (fine : 1 ≤ d) (divides : DividesAll d 1048576) (s t u : Shape) (shaped : Shaped s) (shaped₁ : Shaped t) (shaped₂ : Shaped u) where
  -- each cell of the whole is one of just one part
  area_parts : OnlyBorders s t → Within s u → Within t u → CoveredBy u s t → twice_area u ≡ twice_area s + twice_area t
  unfolding OnlyBorders CoveredBy cross_section
  area_parts apart in_s in_t cover =
      eq_of_mul-eq-mul_left d fine (twice_area u) (twice_area s + twice_area t)
      (omega (arith, measured d fine divides s shaped, measured d fine divides t shaped₁, measured d fine divides u shaped₂, sections))
    where
      covered : (j k : ℕ) → inside u (middle d j k) ≡ true → (inside s (middle d j k) ≡ true) ⊎ (inside t (middle d j k) ≡ true)
      covered j k here =
          ⊎_elim (λ h. inl (sym (middle_of d fine divides s shaped j k) ∙ h)) (λ h. inr (sym (middle_of d fine divides t shaped₁ j k) ∙ h))
          (cover (middle d j k) (middle_point d fine divides j k) (middle_of d fine divides u shaped₂ j k ∙ here))

      cell : (j k : ℕ) → tally (inside u (middle d j k)) ≡ tally (inside s (middle d j k)) + tally (inside t (middle d j k))
      cell j k =
          tally_parts (inside s (middle d j k)) (inside t (middle d j k)) (inside u (middle d j k)) (within_cell d fine divides s u shaped shaped₂ in_s j k)
          (within_cell d fine divides t u shaped₁ shaped₂ in_t j k) (covered j k) (apart (middle d j k) (middle_point d fine divides j k))

      sections : sum_below 1048576 (cross_section d u) ≡ sum_below 1048576 (cross_section d s) + sum_below 1048576 (cross_section d t)
      sections =
          sum_below_same 1048576 (cross_section d u) (λ k. cross_section d s k + cross_section d t k)
          (λ k l. sum_below_same (d * 1048576) _ _ (λ j m. cell j k)
          ∙ sum_below_add (d * 1048576) (λ j. tally (inside s (middle d j k))) (λ j. tally (inside t (middle d j k))))
          ∙ sum_below_add 1048576 (cross_section d s) (cross_section d t)

-- two grounds that make up a third add up to it
pub parts_add : PartsAdd
unfolding PartsAdd
parts_add s t u ground ground₁ ground₂ apart in_s in_t cover =
    let c = common_multiple 1048576 in
    area_parts c.0 c.1 c.2 s t u (shape_parts s ground) (shape_parts t ground₁) (shape_parts u ground₂) apart in_s in_t cover
