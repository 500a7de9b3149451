-- Going from record to record.
use Rattle.std.proofs.Common.{◌≡◌, ℕ, zero, suc, ◌-◌, ◌<◌, ◌≤◌, true, false, eqb, ltb, List, refl, ap, arith}
use Rattle.plane.specs.Lists.{pick}
use Rattle.ground.specs.Shapes.{Point}
use Rattle.map.specs.Memory.{number_at, behind, whole_at, has_at, Sought, sought, seek, Listed, listed, scan}

-- what is found from a place on, by what stands there and what is found behind it
abbrev pub seek_from : List ℕ → (p number : ℕ) → Sought → Sought
seek_from m p i g = pick (whole_at m p) (pick (ltb (number_at m p) i) g (sought (eqb (number_at m p) i) p)) (sought false p)

-- one record on, while there are some left
pub seek_step : (m : List ℕ) (k p i : ℕ) → 0 < k → seek m k p i ≡ seek_from m p i (seek m (k - 1) (behind m p) i)
unfolding seek
seek_step m zero p i h = absurd (omega arith)
seek_step m (suc k) p i h = let e : k ≡ suc k - 1 = omega arith in ap (λ (n : ℕ). seek_from m p i (seek m n (behind m p) i)) e

-- past the last record nothing is found
pub seek_end : (m : List ℕ) (k p i : ℕ) → k ≤ 0 → seek m k p i ≡ sought false p
unfolding seek
seek_end m zero p i h = refl
seek_end m (suc k) p i h = absurd (omega arith)

-- the first that has the point from a place on, by what stands there and what is found behind it
abbrev pub scan_from : List ℕ → Point → (left p : ℕ) → Listed → Listed
scan_from m v k p l = pick (whole_at m p) (pick (has_at m p v) (listed true p k) l) (listed false p 0)

-- the same for a point
pub scan_step : (m : List ℕ) (v : Point) (k p : ℕ) → 0 < k → scan m v k p ≡ scan_from m v (k - 1) p (scan m v (k - 1) (behind m p))
unfolding scan
scan_step m v zero p h = absurd (omega arith)
scan_step m v (suc k) p h = let e : k ≡ suc k - 1 = omega arith in ap (λ (n : ℕ). scan_from m v n p (scan m v n (behind m p))) e

pub scan_end : (m : List ℕ) (v : Point) (k p : ℕ) → k ≤ 0 → scan m v k p ≡ listed false p 0
unfolding scan
scan_end m v zero p h = refl
scan_end m v (suc k) p h = absurd (omega arith)
