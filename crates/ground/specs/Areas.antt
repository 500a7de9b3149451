-- What an area is: the sum of the lengths of cross-sections. Each statement is a type. Assumes nothing.
use Rattle.std.specs.Prelude.{◌≡◌, ℕ, suc, ◌+◌, ◌*◌, ◌<◌, ◌≤◌, true, ◌⊎◌}
use Rattle.plane.specs.Sums.{sum_below, tally}
use Rattle.plane.specs.Multiples.{DividesAll}
use Rattle.ground.specs.Shapes.{Point, a_point, Shape, inside, in_shape, twice_area, a_shape}
use Rattle.ground.specs.Ways.{Within, OnlyBorders}

-- the middle of cell j in the strip between the heights k and k + 1. A cell is 1/d wide and 1 high
abbrev pub middle : ℕ → ℕ → ℕ → Point
middle d j k = record { px = 2 * j + 1; py = d * (2 * k + 1); w = 2 * d }

-- how long the cross-section at height k + 1/2 is, in d-th parts: so many cells of that strip have their middles inside
unfoldable pub cross_section : ℕ → Shape → ℕ → ℕ
cross_section d s k = sum_below (d * 1048576) (λ j. tally (inside s (middle d j k)))

-- The area is the sum of the cross-sections at all heights k + 1/2. In d-th parts all of these are whole if d is a multiple of 2, 4, 6 and so on
unfoldable pub AreaIsMeasure : Type 0
AreaIsMeasure =
    (s : Shape) (d : ℕ) → a_shape s ≡ true → 1 ≤ d → DividesAll d 1048576 → d * twice_area s ≡ 2 * sum_below 1048576 (cross_section d s)

-- There is such a d, whatever the bound.
unfoldable pub CommonMultiple : Type 0
CommonMultiple = (n : ℕ) → (d : ℕ) × (1 ≤ d) × DividesAll d n

-- Cells measure: along the level line at height k + 1/2 the points within a cell are all inside, or none is.
unfoldable pub CellsAreWhole : Type 0
CellsAreWhole =
    (s : Shape) (d j k : ℕ) (p : Point) → a_shape s ≡ true → 1 ≤ d → DividesAll d 1048576 → a_point p ≡ true →
    2 * p.py ≡ p.w * (2 * k + 1) → p.w * j < d * p.px → d * p.px < p.w * suc j → inside s p ≡ inside s (middle d j k)

-- Grounds that have the same points have the same area.
unfoldable pub SameArea : Type 0
SameArea = (s t : Shape) → a_shape s ≡ true → a_shape t ≡ true → Within s t → Within t s → twice_area s ≡ twice_area t

-- all points of the first are of the second or of the third
unfoldable pub CoveredBy : Shape → Shape → Shape → Type 0
CoveredBy u s t = (p : Point) → a_point p ≡ true → in_shape u p ≡ true → (in_shape s p ≡ true) ⊎ (in_shape t p ≡ true)

-- Two grounds that have no point inside both, and make up a third, add up to it.
unfoldable pub PartsAdd : Type 0
PartsAdd =
    (s t u : Shape) → a_shape s ≡ true → a_shape t ≡ true → a_shape u ≡ true → OnlyBorders s t → Within s u → Within t u → CoveredBy u s t →
    twice_area u ≡ twice_area s + twice_area t
