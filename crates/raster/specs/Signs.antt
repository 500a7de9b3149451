-- The sign of a point. Assumes nothing: these are definitions.
use Rattle.std.specs.Prelude.{ℕ, ◌+◌, ◌%◌, List, [], ◌∷◌, ◌==◌, nat_le}
use Rattle.plane.specs.Lists.{pick}

-- a to z for 1 to 26, A to Z for 27 to 52, and then from a on again; 0 has a Z too
abbrev pub letter : ℕ → ℕ
letter n = pick (n % 52 == 0) 90 (pick (nat_le (n % 52) 26) (96 + n % 52) (38 + n % 52))

-- by the numbers of the grounds that have the point: a dot, the ground's letter, or a star
abbrev pub sign_of : List ℕ → ℕ
sign_of [] = 46
sign_of (n ∷ []) = letter n
sign_of (m ∷ n ∷ ns) = 42
