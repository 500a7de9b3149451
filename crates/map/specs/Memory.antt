-- What stands in a memory, whatever it holds: reading is total. Assumes nothing: these are definitions.
use Rattle.std.specs.Prelude.{ℕ, zero, suc, ◌+◌, ◌-◌, ◌*◌, Bool, true, false, ◌&&◌, ltb, List, ◌∷◌, ◌++◌, length, take, drop, ◌==◌, nat_le, nat_lt, slice_index, slice_set}
use Rattle.plane.specs.Lists.{pick, every}
use Rattle.ground.specs.Shapes.{Point, Shape, in_shape}
use Rattle.ground.specs.Rows.{shape_of, flat, least, greatest}
use Rattle.map.specs.Sizes.{most_grounds, most_corners, head_length, at_grounds, at_corners, at_cursor, at_left, at_a, at_b, at_w, record_length}

-- ONE RECORD, that begins at p
abbrev pub number_at : List ℕ → ℕ → ℕ
number_at m p = slice_index m p

abbrev pub count_at : List ℕ → ℕ → ℕ
count_at m p = slice_index m (p + 1)

abbrev pub size_of : ℕ → ℕ
size_of n = record_length + 2 * n

-- the next record begins there
abbrev pub behind : List ℕ → ℕ → ℕ
behind m p = p + size_of (count_at m p)

-- all of the record lies in the memory
abbrev pub whole_at : List ℕ → ℕ → Bool
whole_at m p = nat_le (p + record_length) (length m) && nat_le (behind m p) (length m)

abbrev pub row_at : List ℕ → ℕ → List ℕ
row_at m p = take (2 * count_at m p) (drop (p + record_length) m)

-- a box, grown by the point's w, has the point
abbrev pub in_box : (west south east north : ℕ) → Point → Bool
in_box west south east north v =
    (nat_le (v.w * west) v.px && nat_le v.px (v.w * east)) && (nat_le (v.w * south) v.py && nat_le v.py (v.w * north))

abbrev pub box_has : List ℕ → ℕ → Point → Bool
box_has m p v = in_box (slice_index m (p + 2)) (slice_index m (p + 3)) (slice_index m (p + 4)) (slice_index m (p + 5)) v

abbrev pub row_fits : List ℕ → Bool
row_fits row = every (λ n. ltb n 1048576) row

-- the ground of this record has the point: its box has it, its corners are in range, and it lies in the shape
unfoldable pub has_at : List ℕ → ℕ → Point → Bool
has_at m p v = box_has m p v && (row_fits (row_at m p) && in_shape (shape_of (row_at m p)) v)

-- THE RECORDS, one behind the other, from p on; at most so many

-- the first whose number isn't below the one that is sought, or where the records end; and whether it is the one
pub record Sought : Type 0 where
  pub found : Bool
  pub place : ℕ

abbrev pub sought : Bool → ℕ → Sought
sought f p = record { found = f; place = p }

unfoldable pub seek : List ℕ → (left p number : ℕ) → Sought
seek m zero p i = sought false p
seek m (suc k) p i =
    pick (whole_at m p) (pick (nat_lt (number_at m p) i) (seek m k (behind m p) i) (sought (number_at m p == i) p)) (sought false p)

-- the first that has the point, and how many there are behind it
pub record Listed : Type 0 where
  pub found : Bool
  pub place : ℕ
  pub left : ℕ

abbrev pub listed : Bool → ℕ → ℕ → Listed
listed f p k = record { found = f; place = p; left = k }

unfoldable pub scan : List ℕ → Point → (left p : ℕ) → Listed
scan m v zero p = listed false p 0
scan m v (suc k) p =
    pick (whole_at m p) (pick (has_at m p v) (listed true p k) (scan m v k (behind m p))) (listed false p 0)

-- CHANGES

-- where the records end, by what the head says
abbrev pub end_of : List ℕ → ℕ
end_of m = head_length + record_length * slice_index m at_grounds + 2 * slice_index m at_corners

-- a ground's record
abbrev pub recorded : ℕ → Shape → List ℕ
recorded i s =
    i ∷ length s ∷ least (λ c. c.x) s ∷ least (λ c. c.y) s ∷ greatest (λ c. c.x) s ∷ greatest (λ c. c.y) s ∷ 0 ∷ 0 ∷ flat s

-- the head says so many grounds and corners, and no listing is open
abbrev pub counted : (grounds corners : ℕ) → List ℕ → List ℕ
counted g c m = slice_set (slice_set (slice_set m at_grounds g) at_corners c) at_cursor 0

-- the records from p on move up, and the new one stands at p
unfoldable pub with_record : List ℕ → ℕ → ℕ → Shape → List ℕ
with_record m p i s =
    counted (slice_index m at_grounds + 1) (slice_index m at_corners + length s)
    (take p m ++ recorded i s ++ take (end_of m - p) (drop p m) ++ drop (end_of m + size_of (length s)) m)

-- the records behind the one at p move down over it
unfoldable pub without_record : List ℕ → ℕ → List ℕ
without_record m p =
    counted (slice_index m at_grounds - 1) (slice_index m at_corners - count_at m p)
    (take p m ++ take (end_of m - behind m p) (drop (behind m p) m) ++ drop (end_of m - size_of (count_at m p)) m)

-- a listing goes on at p, with so many records to look at
abbrev pub opened : List ℕ → (p left : ℕ) → Point → List ℕ
opened m p k v = slice_set (slice_set (slice_set (slice_set (slice_set m at_cursor p) at_left k) at_a v.px) at_b v.py) at_w v.w

abbrev pub closed : List ℕ → List ℕ
closed m = slice_set m at_cursor 0

-- there is room for a ground, and p lies within the records
abbrev pub has_room : List ℕ → ℕ → Shape → Bool
has_room m p s =
    (nat_lt (slice_index m at_grounds) most_grounds && nat_le (slice_index m at_corners + length s) most_corners) && nat_le p (end_of m)

-- the record at p lies within what the head counts
abbrev pub within_count : List ℕ → ℕ → Bool
within_count m p =
    (nat_le (behind m p) (end_of m) && nat_le (end_of m) (length m)) && nat_le (count_at m p) (slice_index m at_corners)
