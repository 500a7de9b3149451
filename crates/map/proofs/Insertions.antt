-- Putting a ground: its record, and the place for it.
use Rattle.std.proofs.Common.{◌≡◌, ℕ, zero, suc, ◌+◌, ◌-◌, ◌*◌, ◌/◌, ◌%◌, ◌<◌, ◌≤◌, true, ◌&&◌, ltb, leb, List, [], ◌∷◌, ◌++◌, length, get_or, take, drop, Some, None, Option, sym, refl, ap, ◌∙◌, arith}
use lib.Seq.{paste}
use Rattle.std.proofs.lemmas.List.{append_assoc, length-take-le, take_all, take-take, take-append-le, drop_at, nil_from_length}
use borrow.Rule.Slice.PartMut.{put_mid}
use Rattle.std.proofs.lemmas.Slice.{put_mid-paste}
use Rattle.std.proofs.lemmas.List.Edits.{paste-paste}
use Rattle.std.proofs.lemmas.Bool.{and_parts, and_from, leb-true, le-leb, eq-eqb}
use Rattle.std.proofs.lemmas.Bool.Decides.{nat_tests}
use Rattle.plane.specs.Lists.{pick}
use Rattle.ground.specs.Shapes.{a_shape}
use Rattle.ground.specs.Rows.{corners, shape_of, flat}
use Rattle.ground.specs.Boxes.{box_of, has_box}
use Rattle.ground.proofs.Closing.{shape_many}
use Rattle.ground.specs.declared.bounding.Extent.{Extent}
use Rattle.map.specs.Sizes.{memory_length, record_length, most_grounds, most_corners, at_grounds, at_corners}
use Rattle.map.specs.Memory.{recorded, counted, end_of, size_of, with_record}
use Rattle.map.specs.Code.{written, room_for}

-- an even row, read as corners, has the same numbers again
flat_corners : (n : ℕ) (row : List ℕ) → length row ≡ 2 * n → flat (corners n row) ≡ row
unfolding corners flat
flat_corners zero row h = sym (nil_from_length row (omega arith))
flat_corners (suc n) [] h = absurd (omega arith)
flat_corners (suc n) (x ∷ []) h = absurd (omega arith)
flat_corners (suc n) (x ∷ y ∷ rest) h = ap (λ (zs : List ℕ). x ∷ y ∷ zs) (flat_corners n rest (omega arith))

-- a ground has three corners and more, so that its row has a box
pub ground_boxed :
    (row : List ℕ) (o : Option Extent) → length row % 2 ≡ 0 → a_shape (shape_of row) ≡ true →
    o ≡ pick (has_box row) (Some (box_of (shape_of row))) None → o ≡ Some (box_of (shape_of row))
ground_boxed row o even a e =
    let three : 3 ≤ length (shape_of row) = leb-true 3 _ (and_parts _ _ (and_parts _ _ (and_parts _ _ a).0).0).0 in
    let has : has_box row ≡ true = and_from _ _ (le-leb 2 _ (omega (arith, shape_many row))) (eq-eqb _ _ even) in
    simp has at e

-- what lies behind a place moves up by as much as a record has numbers, and the record is written there
moved_up :
    (m rec : List ℕ) (p end z : ℕ) → length rec ≡ z → p ≤ end → end + z ≤ length m →
    paste (paste m (p + z) (drop p m) (end - p)) p rec z ≡ take p m ++ rec ++ take (end - p) (drop p m) ++ drop (end + z) m
moved_up m rec p end z l h k =
    let tail : List ℕ = take (end - p) (drop p m) ++ drop (p + z + (end - p)) m in
    let split : paste m (p + z) (drop p m) (end - p) ≡ take (p + z) m ++ tail = append_assoc (take (p + z) m) _ _ in
    let front : length (take (p + z) m) ≡ p + z = length-take-le (p + z) m (omega arith) in
    let low : take p (take (p + z) m ++ tail) ≡ take p m = take-append-le p (take (p + z) m) tail (omega arith) ∙ take-take p (p + z) m (omega arith) in
    let high : drop (p + z) (take (p + z) m ++ tail) ≡ tail = drop_at _ tail (p + z) front in
    let all : take z rec ≡ rec = take_all z rec (omega arith) in
    let last : p + z + (end - p) ≡ end + z = omega arith in
    let whole = append_assoc (take p m ++ rec) (take (end - p) (drop p m)) (drop (end + z) m) in
    cc

-- two pieces, written one behind the other, are written as one
pub both_written :
    (m ys zs start row : List ℕ) (p : ℕ) → ys ≡ start → zs ≡ row → length start ≡ record_length → p + record_length ≤ length m →
    put_mid (p + record_length) (p + record_length + length row - (p + record_length)) (put_mid p (p + record_length - p) m ys) zs
    ≡ paste m p (start ++ row) (record_length + length row)
both_written m ys zs start row p y z l h =
    put_mid-paste (p + record_length) (p + record_length + length row - (p + record_length)) (put_mid p (p + record_length - p) m ys) zs row (length row) z (omega arith) refl
    ∙ (ap (λ (xs : List ℕ). paste xs (p + record_length) row (length row)) (put_mid-paste p (p + record_length - p) m ys start record_length y (omega arith) (sym l))
    ∙ paste-paste m p start row record_length (length row) (sym l) refl (omega arith))

-- few grounds, few corners, and a place within the records
room_parts : (g c p end : ℕ) → (ltb g most_grounds && leb c most_corners) && leb p end ≡ true → (g < most_grounds) × (c ≤ most_corners) × (p ≤ end)
room_parts g c p end h = (grind (arith, nat_tests), grind (arith, nat_tests), grind (arith, nat_tests))

-- the numbers that are written are the ground's record
written_record : (i : ℕ) (row : List ℕ) → length row % 2 ≡ 0 → written i (box_of (shape_of row)) row ≡ recorded i (shape_of row)
written_record i row even =
    let n = shape_many row in
    let f = flat_corners (length row / 2) row (omega arith) in
    cc

-- with its record written and its corners counted, the memory holds the ground as well
pub put_record :
    (m row : List ℕ) (p i : ℕ) → length m ≡ memory_length → length row ≤ 512 → length row % 2 ≡ 0 → room_for m p (length row / 2) ≡ true →
    counted (get_or m at_grounds 0 + 1) (get_or m at_corners 0 + length row / 2)
    (paste (paste m (p + (record_length + length row)) (drop p m) (end_of m - p)) p (written i (box_of (shape_of row)) row) (record_length + length row))
    ≡ with_record m p i (shape_of row)
unfolding with_record
put_record m row p i whole short even room =
    let s = shape_of row in
    let n = shape_many row in
    let r = written_record i row even in
    let fits = room_parts (get_or m at_grounds 0) (get_or m at_corners 0 + length row / 2) p (end_of m) room in
    let z : size_of (length s) ≡ record_length + length row = omega arith in
    let long : length (written i (box_of s) row) ≡ record_length + length row = omega arith in
    let up = moved_up m (written i (box_of s) row) p (end_of m) (record_length + length row) long fits.2 (omega arith) in
    cc
