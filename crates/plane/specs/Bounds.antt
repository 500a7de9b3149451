-- Corners whose numbers are small. Assumes nothing: these are definitions.
use Rattle.std.specs.Prelude.{ℕ, Bool, ◌&&◌, nat_lt}
use Rattle.plane.specs.Corners.{Corner}

-- both numbers of the corner are below k
abbrev pub within : ℕ → Corner → Bool
within k c = nat_lt c.x k && nat_lt c.y k

-- so it is of three corners
abbrev pub all_within : ℕ → Corner → Corner → Corner → Bool
all_within k a b c = within k a && (within k b && within k c)
