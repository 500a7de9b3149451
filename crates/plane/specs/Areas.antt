-- What an area with a sign stands for: the difference of two numbers, one of which is 0. Assumes nothing: these are definitions.
use Rattle.std.specs.Prelude.{◌≡◌, ℕ, suc, ◌*◌, ◌<◌, ℤ, pos, negsuc}
use Rattle.std.specs.declared.cmp.Ordering.{Ordering}
use Rattle.std.specs.declared.cmp.Ordering.TheVariants.{Less, Equal, Greater}
use Rattle.wide.specs.Value.{value}
use Rattle.plane.specs.declared.area.Area.{Area}
use Rattle.plane.specs.declared.turning.Turn.{Turn}
use Rattle.plane.specs.declared.turning.Turn.TheVariants.{Left, Right, Straight}
use Rattle.plane.specs.declared.area.Area.TheVariants.{Plus, Minus}

-- what is added
abbrev pub up : Area → ℕ
up (Plus w) = value w
up (Minus w) = 0

-- what is taken away
abbrev pub down : Area → ℕ
down (Plus w) = 0
down (Minus w) = value w

-- the same of a number with a sign
abbrev pub above : ℤ → ℕ
above (pos n) = n
above (negsuc n) = 0

abbrev pub below : ℤ → ℕ
below (pos n) = 0
below (negsuc n) = suc n

-- numbers below some m and n whose product is below 2^63
abbrev pub SmallSpan : ℕ → ℕ → ℕ → ℕ → Type 0
SmallSpan a b c d = (m : ℕ) × (n : ℕ) × ((a < m) × (b < m)) × ((c < n) × (d < n)) × (m * n < 9223372036854775808)

-- which way it turns, by how the area to the left stands to the one to the right
abbrev pub turn_to_larger : Ordering → Turn
turn_to_larger Less = Right
turn_to_larger Equal = Straight
turn_to_larger Greater = Left

-- a turn to the side of the larger of two numbers
abbrev pub Leans : ℕ → ℕ → Turn → Type 0
Leans l r Left = r < l
Leans l r Right = l < r
Leans l r Straight = l ≡ r
