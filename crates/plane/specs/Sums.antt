-- Sums of a number for each number below a bound. Assumes nothing: these are definitions.
use Rattle.std.specs.Prelude.{ℕ, zero, suc, ◌+◌, Bool}
use Rattle.plane.specs.Lists.{pick}

-- f 0 + f 1 + .. + f (n - 1)
unfoldable pub sum_below : ℕ → (ℕ → ℕ) → ℕ
sum_below zero f = 0
sum_below (suc n) f = sum_below n f + f n

-- 1 if the test holds, else 0: added up, these count
abbrev pub tally : Bool → ℕ
tally t = pick t 1 0
