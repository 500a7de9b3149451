-- The sides of squares stay small.
use Rattle.std.proofs.Common.{ℕ, ◌+◌, ◌*◌, ◌^◌, ◌<◌, arith}
use Rattle.std.proofs.lemmas.Nat.{mul-le}

-- some steps on from a place, all of 64 bits, and fewer than 2^32 of them
pub side_bound : (x step n : ℕ) → x < 2 ^ 64 → step < 2 ^ 64 → n < 2 ^ 32 → x + step * n < 2 ^ 97
side_bound x step n hx hs hn = omega (arith, mul-le step n (2 ^ 64) (2 ^ 32) (omega arith) (omega arith))
