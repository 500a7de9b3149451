-- A number is sought along the records of a map: it is found exactly if it is on the map, and else the place is found where it would stand.
use Rattle.std.proofs.Common.{◌≡◌, ℕ, ◌+◌, true, false, eqb, ltb, List, [], ◌∷◌, ◌++◌, length, drop, sym, ap, ◌∙◌, append_assoc, add-zero, arith, length-append}
use Rattle.plane.specs.Lists.{pick}
use Rattle.plane.proofs.Booleans.{pick_true}
use Rattle.map.specs.House.{Kept, Map}
use Rattle.map.specs.Memory.{number_at, behind, whole_at, sought, seek}
use Rattle.map.proofs.Kept.{lower, onward, heads}
use Rattle.map.proofs.Recorded.{record_of, encoded, record_size, number_here, behind_here, drop_behind, whole_here}

-- the first of several records, and those behind it
pub first_record : (m : List ℕ) (p : ℕ) (k : Kept) (ks : Map) (rest : List ℕ) → drop p m ≡ encoded (k ∷ ks) ++ rest → drop p m ≡ record_of k ++ (encoded ks ++ rest)
first_record m p k ks rest h = h ∙ append_assoc (record_of k) (encoded ks) rest

-- along records one behind the other, it stops at the number's place, and has found it if the number heads what comes there
pub seek_among : (m : List ℕ) (i : ℕ) (ks : Map) (p : ℕ) (rest : List ℕ) → drop p m ≡ encoded ks ++ rest
    → seek m (length ks) p i ≡ sought (heads i (onward i ks)) (p + length (encoded (lower i ks)))
unfolding seek
seek_among m i [] p rest h = ap (sought false) (sym (add-zero p))
seek_among m i (k ∷ ks) p rest h =
    let here = first_record m p k ks rest h in
    let further = seek_among m i ks (behind m p) rest (drop_behind m p k (encoded ks ++ rest) here) in
    let on : behind m p + length (encoded (lower i ks)) ≡ p + length (record_of k ++ encoded (lower i ks)) =
    omega (arith, behind_here m p k (encoded ks ++ rest) here, length-append (record_of k) (encoded (lower i ks)), record_size k) in
    pick_true (whole_at m p) (pick (ltb (number_at m p) i) (seek m (length ks) (behind m p) i) (sought (eqb (number_at m p) i) p)) (sought false p)
    (whole_here m p k (encoded ks ++ rest) here)
    ∙ ap (λ j. pick (ltb j i) (seek m (length ks) (behind m p) i) (sought (eqb j i) p)) (number_here m p k (encoded ks ++ rest) here)
    ∙ (elim (ltb k.id i) as
    (λ t. pick t (seek m (length ks) (behind m p) i) (sought (eqb k.id i) p) ≡ sought (heads i (pick t (onward i ks) (k ∷ ks))) (p + length (encoded (pick t (k ∷ lower i ks) []))))
    [ true ↦ further ∙ ap (sought (heads i (onward i ks))) on | false ↦ ap (sought (eqb k.id i)) (sym (add-zero p)) ])
