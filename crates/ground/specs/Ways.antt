-- How two grounds lie to each other, by all points there are. Assumes nothing: these are definitions.
use Rattle.std.specs.Prelude.{◌≡◌, ℕ, true, false, ◌&&◌, ◌⊎◌}
use Rattle.ground.specs.Shapes.{Point, a_point, Shape, inside, in_shape}

-- all points of the first are of the other
unfoldable pub Within : Shape → Shape → Type 0
Within s t = (p : Point) → a_point p ≡ true → in_shape s p ≡ true → in_shape t p ≡ true

-- the first has a point that the other hasn't
unfoldable pub SticksOut : Shape → Shape → Type 0
SticksOut s t = (p : Point) × (a_point p ≡ true) × (in_shape s p ≡ true) × (in_shape t p ≡ false)

unfoldable pub Shares : Shape → Shape → Type 0
Shares s t = (p : Point) × (a_point p ≡ true) × (in_shape s p ≡ true) × (in_shape t p ≡ true)

unfoldable pub Apart : Shape → Shape → Type 0
Apart s t = (p : Point) → a_point p ≡ true → in_shape s p && in_shape t p ≡ false

-- some point is inside both
unfoldable pub Overlaps : Shape → Shape → Type 0
Overlaps s t = (p : Point) × (a_point p ≡ true) × (inside s p ≡ true) × (inside t p ≡ true)

unfoldable pub OnlyBorders : Shape → Shape → Type 0
OnlyBorders s t = (p : Point) → a_point p ≡ true → inside s p && inside t p ≡ false

-- 0 apart; 1 they touch; 2 the first is within the other; 3 the other is within the first; 4 they're the same; 5 they lie over each other, and both stick out
unfoldable pub Lies : Shape → Shape → ℕ → Type 0
Lies s t k =
    ((k ≡ 0) × Apart s t)
    ⊎ (((k ≡ 1) × Shares s t × OnlyBorders s t)
    ⊎ (((k ≡ 2) × Within s t × SticksOut t s)
    ⊎ (((k ≡ 3) × Within t s × SticksOut s t)
    ⊎ (((k ≡ 4) × Within s t × Within t s)
    ⊎ ((k ≡ 5) × Overlaps s t × SticksOut s t × SticksOut t s)))))
