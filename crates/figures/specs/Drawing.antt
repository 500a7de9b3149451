-- Numbers that look random. Assumes nothing: these are definitions.
use Rattle.std.specs.Prelude.{ℕ, ◌+◌, ◌*◌, ◌/◌, ◌%◌, zero, suc}

-- the state after a state
abbrev pub following : ℕ → ℕ
following s = (s * 6364136223846793005 + 1442695040888963407) % 18446744073709551616

-- the number that a state gives: its upper half
abbrev pub drawn : ℕ → ℕ
drawn s = s / 4294967296

-- a number below the end; 0 where the end is 0
abbrev pub among : ℕ → ℕ → ℕ
among n zero = 0
among n (suc e) = n % suc e
