-- A row that is too long for a ground is refused as one of no corners.
use Rattle.std.proofs.Common.{◌≡◌, ℕ, ◌+◌, Bool, false, ◌&&◌, ltb, leb, length, ap}
use Rattle.std.proofs.lemmas.Bool.{lt-leb, and_left, and_right}
use Rattle.plane.specs.Lists.{pick, every}
use Rattle.ground.specs.Shapes.{edges, ring_clear, left_sum, right_sum, a_shape}
use Rattle.map.specs.House.{there, corners_in, refusal}
use Rattle.map.specs.Asking.{LongRows}

-- more than 256 corners are no ground, and neither is none
pub long_rows : LongRows
unfolding LongRows refusal
long_rows k i s long =
    let n : ℕ = length s in
    let few : (leb 3 n && leb n 256) ≡ false = and_right (leb 3 n) (leb n 256) (lt-leb n 256 long) in
    let small : Bool = every (λ c. ltb c.x 1048576 && ltb c.y 1048576) s in
    let none : a_shape s ≡ false = and_left ((leb 3 n && leb n 256) && small) (ring_clear (edges s) && ltb (right_sum s) (left_sum s)) (and_left (leb 3 n && leb n 256) small few) in
    ap (λ (b : Bool). pick (there k i) 4 (pick b (pick (ltb (length k) 1024 && leb (corners_in k + n) 32768) 0 7) 5)) none
