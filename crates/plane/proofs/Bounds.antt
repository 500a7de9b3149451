-- Corners whose numbers are small: what is known of each number, and how bits tell it.
use Rattle.std.proofs.Common.{◌≡◌, ℕ, ◌*◌, ◌^◌, ◌<◌, ◌≤◌, true, ◌&&◌, ltb, le_of_lt, mul-le-mul, arith}
use lib.Bits.{bit_or, or_add_and}
use Rattle.std.proofs.lemmas.Nat.{and_le_l, and_le_r, or_lt}
use Rattle.std.proofs.lemmas.Bool.{ltb-true, and_parts}
use Rattle.std.proofs.lemmas.Bool.Decides.{same_from_decides, Decides-and, Decides-ltb, Decides-like}
use Rattle.plane.specs.Corners.{Corner}
use Rattle.plane.specs.Bounds.{within, all_within}

-- where both together are below k, each is
or_below : (k a b : ℕ) → bit_or a b < k → (a < k) × (b < k)
or_below k a b h = (omega (arith, or_add_and a b, and_le_r a b), omega (arith, or_add_and a b, and_le_l a b))

-- two numbers are below a power of two exactly if the bits of both together are
pub or_tells : (k a b : ℕ) → ltb (bit_or a b) (2 ^ k) ≡ (ltb a (2 ^ k) && ltb b (2 ^ k))
or_tells k a b =
    same_from_decides _ _ (Decides-like _ (or_below (2 ^ k) a b) (λ h. or_lt k a b h.0 h.1) (Decides-ltb (bit_or a b) (2 ^ k)))
    (Decides-and _ _ (Decides-ltb a (2 ^ k)) (Decides-ltb b (2 ^ k)))

pub within_told : (k : ℕ) (c : Corner) → within k c ≡ true → (c.x < k) × (c.y < k)
within_told k c h = let p = and_parts (ltb c.x k) (ltb c.y k) h in (ltb-true c.x k p.0, ltb-true c.y k p.1)

pub all_within_told :
    (k : ℕ) (a b c : Corner) → all_within k a b c ≡ true → ((a.x < k) × (a.y < k)) × ((b.x < k) × (b.y < k)) × ((c.x < k) × (c.y < k))
all_within_told k a b c h =
    let p = and_parts (within k a) (within k b && within k c) h in
    let q = and_parts (within k b) (within k c) p.1 in
    (within_told k a p.0, within_told k b q.0, within_told k c q.1)

-- a number below 2^20, grown up to 2^20 times, is below 2^42
pub grown_below : (w n : ℕ) → w ≤ 1048576 → n < 1048576 → w * n < 4398046511104
grown_below w n h k = omega (arith, mul-le-mul h (le_of_lt k))
