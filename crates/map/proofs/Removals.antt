-- Dropping a ground.
use Rattle.std.proofs.Common.{◌≡◌, ℕ, zero, suc, ◌+◌, ◌-◌, ◌<◌, ◌≤◌, true, List, get_or, drop, ap, arith}
use lib.Seq.{paste}
use Rattle.std.proofs.lemmas.Bool.{false≢true, and_parts, leb-true}
use Rattle.map.specs.Sizes.{at_grounds, at_corners}
use Rattle.map.specs.Memory.{Sought, sought, seek, within_count, without_record, behind, end_of, count_at, size_of, counted}

-- a number that is found is found among some records
pub found_some : (m : List ℕ) (k p i q : ℕ) → seek m k p i ≡ sought true q → 0 < k
unfolding seek
found_some m zero p i q e = absurd (false≢true (ap (λ (g : Sought). g.found) e))
found_some m (suc k) p i q e = omega arith

-- moving what lies behind a record down over it leaves the memory without the record
pub moved_over :
    (m : List ℕ) (p : ℕ) → within_count m p ≡ true →
    counted (get_or m at_grounds 0 - 1) (get_or m at_corners 0 - count_at m p) (paste m p (drop (behind m p) m) (end_of m - behind m p)) ≡ without_record m p
unfolding without_record
moved_over m p w =
    let l : behind m p ≤ end_of m = leb-true _ _ (and_parts _ _ (and_parts _ _ w).0).0 in
    let e : p + (end_of m - behind m p) ≡ end_of m - size_of (count_at m p) = omega arith in
    rw e
