-- A memory holds a map: its head counts the grounds and corners, and behind it the records stand by rising numbers. The cursor of a listing is free.
use Rattle.std.proofs.Common.{◌≡◌, ℕ, suc, ◌+◌, ◌-◌, ◌<◌, ◌≤◌, true, false, not, ◌&&◌, eqb, leb, List, [], ◌∷◌, ◌++◌, length, get_or, take, drop, set, replicate, sym, refl, ap, ◌∙◌, append_assoc, arith, length-append, length-set, get_or-set_other, take_at, drop-set-lt}
use lib.ListN.{length-replicate, get_or-replicate}
use Rattle.std.proofs.lemmas.Bool.{and_from, le-leb}
use Rattle.plane.specs.Lists.{every, those}
use Rattle.ground.specs.Shapes.{Point, Shape, a_shape}
use Rattle.map.specs.House.{Kept, Map, there, put_kept, corners_in}
use Rattle.map.specs.Sizes.{memory_length, most_grounds, most_corners, head_length, at_grounds, at_corners, at_cursor, at_left, at_a, at_b, at_w}
use Rattle.map.specs.Memory.{count_at, size_of, behind, end_of, recorded, counted, with_record, without_record, opened, closed, within_count}
use Rattle.map.proofs.Passing.{every_those}
use Rattle.map.proofs.Kept.{kept, lower, onward, rising, split_at, put_place, every_put, length_put, corners_put, rising_put, rising_those, drop_place, corners_append}
use Rattle.map.proofs.Recorded.{record_of, encoded, record_size, encoded_length, encoded_append, count_here, behind_here, drop_behind}
use Rattle.map.proofs.Changing.{counted_length, counted_grounds, counted_corners, counted_behind, with_length, closed_up, from_second, second_changed}

pub record Holds (m : List ℕ) (k : Map) : Type 0 where
  pub long : length m ≡ memory_length
  pub ground_count : get_or m at_grounds 0 ≡ length k
  pub corner_count : get_or m at_corners 0 ≡ corners_in k
  pub rest : List ℕ
  pub records : drop head_length m ≡ encoded k ++ rest
  pub rises : rising k ≡ true
  pub shapes : every (λ l. a_shape l.shape) k ≡ true
  pub few_grounds : length k ≤ most_grounds
  pub few_corners : corners_in k ≤ most_corners

-- where all numbers are 0 there is no ground
pub start_holds : (n : ℕ) → n ≡ memory_length → Holds (replicate n 0) []
unfolding every corners_in
start_holds n e =
    record {
      long = length-replicate n 0 ∙ e;
      ground_count = get_or-replicate n at_grounds 0 0 (omega arith);
      corner_count = get_or-replicate n at_corners 0 0 (omega arith);
      rest = drop head_length (replicate n 0);
      records = refl;
      rises = refl;
      shapes = refl;
      few_grounds = omega arith;
      few_corners = omega arith;
    }

-- what is written into the head, but not over the counts, changes nothing of the map
pub set_holds : {m : List ℕ} {k : Map} (j a : ℕ) → at_corners < j → j < head_length → Holds m k → Holds (set m j a) k
set_holds {m} j a low high h =
    record {
      long = length-set m j a ∙ h.long;
      ground_count = get_or-set_other m j at_grounds a 0 (omega arith) ∙ h.ground_count;
      corner_count = get_or-set_other m j at_corners a 0 (omega arith) ∙ h.corner_count;
      rest = h.rest;
      records = drop-set-lt head_length m j a high ∙ h.records;
      rises = h.rises;
      shapes = h.shapes;
      few_grounds = h.few_grounds;
      few_corners = h.few_corners;
    }

-- a listing that ends, or goes on, changes nothing of the map
pub closed_holds : {m : List ℕ} {k : Map} → Holds m k → Holds (closed m) k
closed_holds h = set_holds at_cursor 0 (omega arith) (omega arith) h

pub opened_holds : {m : List ℕ} {k : Map} (p n : ℕ) (v : Point) → Holds m k → Holds (opened m p n v) k
opened_holds p n v h =
    set_holds at_w v.w (omega arith) (omega arith) (set_holds at_b v.py (omega arith) (omega arith)
    (set_holds at_a v.px (omega arith) (omega arith) (set_holds at_left n (omega arith) (omega arith)
    (set_holds at_cursor p (omega arith) (omega arith) h))))

-- the records end where the head says
pub end_is : {m : List ℕ} {k : Map} → Holds m k → end_of m ≡ head_length + length (encoded k)
end_is {k} h = omega (arith, encoded_length k, h.ground_count, h.corner_count)

-- and there is room behind them
pub end_within : {m : List ℕ} {k : Map} → Holds m k → end_of m ≤ length m
end_within h = omega (arith, h.long, h.ground_count, h.corner_count, h.few_grounds, h.few_corners)

-- the records of the grounds with lower numbers, and those from there on
pub two_parts : {m : List ℕ} {k : Map} (i : ℕ) (h : Holds m k) → drop head_length m ≡ encoded (lower i k) ++ encoded (onward i k) ++ h.rest
two_parts {k} i h = h.records ∙ ap (λ xs. xs ++ h.rest) (ap encoded (sym (split_at i k)) ∙ encoded_append (lower i k) (onward i k))

-- they are as long as all records
two_lengths : (i : ℕ) (k : Map) → length (encoded (lower i k)) + length (encoded (onward i k)) ≡ length (encoded k)
two_lengths i k = sym (length-append (encoded (lower i k)) (encoded (onward i k))) ∙ ap length (sym (encoded_append (lower i k) (onward i k)) ∙ ap encoded (split_at i k))

-- four lists, one behind the other
regroup : (a b c d : List ℕ) → a ++ b ++ c ++ d ≡ a ++ (b ++ (c ++ d))
regroup a b c d = simp append_assoc

regroup_first : (a b c d : List ℕ) → a ++ (b ++ (c ++ d)) ≡ a ++ (b ++ c) ++ d
regroup_first a b c d = simp append_assoc

-- a memory whose head and records are those of a map
counted_holds : (m : List ℕ) (g c : ℕ) (k : Map) (left : List ℕ) → length m ≡ memory_length → drop head_length m ≡ encoded k ++ left → g ≡ length k → c ≡ corners_in k
    → rising k ≡ true → every (λ l. a_shape l.shape) k ≡ true → length k ≤ most_grounds → corners_in k ≤ most_corners → Holds (counted g c m) k
counted_holds m g c k left n r eg ec up sh fg fc =
    record {
      long = counted_length g c m ∙ n;
      ground_count = counted_grounds g c m (omega arith) ∙ eg;
      corner_count = counted_corners g c m (omega arith) ∙ ec;
      rest = left;
      records = counted_behind g c m ∙ r;
      rises = up;
      shapes = sh;
      few_grounds = fg;
      few_corners = fc;
    }

-- where a number's record stands, or would stand
abbrev pub place_of : ℕ → Map → ℕ
place_of i k = head_length + length (encoded (lower i k))

-- it lies within the records
pub place_within : {m : List ℕ} {k : Map} (i : ℕ) → Holds m k → place_of i k ≤ end_of m
place_within {k} i h = omega (arith, end_is h, two_lengths i k)

-- a new ground's record, put where its number stands, gives the map with that ground
pub put_holds : {m : List ℕ} {k : Map} (i : ℕ) (s : Shape) → Holds m k → there k i ≡ false → a_shape s ≡ true → length k < most_grounds
    → corners_in k + length s ≤ most_corners → Holds (with_record m (place_of i k) i s) (put_kept (kept i s) k)
unfolding with_record
put_holds {m} {k} i s h new shape room space =
    let a : List ℕ = encoded (lower i k) in
    let b : List ℕ = encoded (onward i k) in
    let p : ℕ = place_of i k in
    let left : List ℕ = drop (end_of m + size_of (length s)) m in
    let parts = two_parts i h in
    let within : head_length ≤ length m = omega (arith, h.long) in
    let both = two_lengths i k in
    let moved : take (end_of m - p) (drop p m) ≡ b =
    ap (take (end_of m - p)) (from_second m a b h.rest head_length within parts) ∙ take_at b h.rest (end_of m - p) (omega (arith, end_is h)) in
    let laid : drop head_length (take p m ++ recorded i s ++ take (end_of m - p) (drop p m) ++ left) ≡ encoded (put_kept (kept i s) k) ++ left =
    ap (λ xs. drop head_length (take p m ++ recorded i s ++ xs ++ left)) moved
    ∙ ap (drop head_length) (regroup (take p m) (recorded i s) b left)
    ∙ second_changed m a b h.rest head_length within parts (recorded i s ++ (b ++ left))
    ∙ regroup_first a (recorded i s) b left
    ∙ ap (λ xs. xs ++ left) (sym (encoded_append (lower i k) (kept i s ∷ onward i k)) ∙ ap encoded (sym (put_place (kept i s) k new))) in
    counted_holds (take p m ++ recorded i s ++ take (end_of m - p) (drop p m) ++ left) _ _ (put_kept (kept i s) k) left
    (with_length m p i s (place_within i h) (omega (arith, h.long, h.ground_count, h.corner_count)) ∙ h.long)
    laid
    (omega (arith, length_put (kept i s) k, h.ground_count))
    (omega (arith, corners_put (kept i s) k, h.corner_count))
    (rising_put (kept i s) k new h.rises)
    (every_put (λ l. a_shape l.shape) (kept i s) k ∙ and_from (a_shape s) (every (λ l. a_shape l.shape) k) shape h.shapes)
    (omega (arith, length_put (kept i s) k))
    (omega (arith, corners_put (kept i s) k))

-- the ground l stands at the place of a number
module _ (m : List ℕ) (k : Map) (i : ℕ) (l : Kept) (ls : Map) (h : Holds m k) (o : onward i k ≡ l ∷ ls) where
  -- its record stands there
  pub record_there : drop (place_of i k) m ≡ record_of l ++ (encoded ls ++ h.rest)
  record_there =
      from_second m (encoded (lower i k)) (encoded (onward i k)) h.rest head_length (omega (arith, h.long)) (two_parts i h)
      ∙ ap (λ js. encoded js ++ h.rest) o
      ∙ append_assoc (record_of l) (encoded ls) h.rest

  -- the map is what comes before it, it, and what comes behind it
  pub same_map : lower i k ++ l ∷ ls ≡ k
  same_map = ap (◌++◌ (lower i k)) (sym o) ∙ split_at i k

  -- the record ends within the records
  pub end_there : behind m (place_of i k) + length (encoded ls) ≡ end_of m
  end_there =
      let p : ℕ = place_of i k in
      omega (
        arith,
        end_is h,
        two_lengths i k,
        ap (λ js. length (encoded js)) o,
        length-append (record_of l) (encoded ls),
        record_size l,
        behind_here m p l (encoded ls ++ h.rest) record_there,
      )

  -- so are its corners and its grounds
  pub corners_there : corners_in k ≡ corners_in (lower i k) + (length l.shape + corners_in ls)
  unfolding corners_in
  corners_there = ap corners_in (sym same_map) ∙ corners_append (lower i k) (l ∷ ls)

  pub grounds_there : length k ≡ length (lower i k) + suc (length ls)
  grounds_there = ap length (sym same_map) ∙ length-append (lower i k) (l ∷ ls)

  -- the record counts among those that the head counts
  pub counts_there : within_count m (place_of i k) ≡ true
  counts_there =
      let p : ℕ = place_of i k in
      let c = count_here m p l (encoded ls ++ h.rest) record_there in
      and_from (leb (behind m p) (end_of m) && leb (end_of m) (length m)) (leb (count_at m p) (get_or m at_corners 0))
      (and_from (leb (behind m p) (end_of m)) (leb (end_of m) (length m)) (le-leb (behind m p) (end_of m) (omega (arith, end_there))) (le-leb (end_of m) (length m) (end_within h)))
      (le-leb (count_at m p) (get_or m at_corners 0) (omega (arith, h.corner_count, corners_there)))

  -- without its record the memory holds the map without the ground
  pub drop_holds : eqb l.id i ≡ true → Holds (without_record m (place_of i k)) (those (λ j. not (eqb j.id i)) k)
  unfolding without_record
  drop_holds e =
      let a : List ℕ = encoded (lower i k) in
      let p : ℕ = place_of i k in
      let left : List ℕ = drop (end_of m - size_of (count_at m p)) m in
      let k₁ : Map = those (λ j. not (eqb j.id i)) k in
      let gone : k₁ ≡ lower i k ++ ls = drop_place i l k ls h.rises o e in
      let count = count_here m p l (encoded ls ++ h.rest) record_there in
      let moved : take (end_of m - behind m p) (drop (behind m p) m) ≡ encoded ls =
      ap (take (end_of m - behind m p)) (drop_behind m p l (encoded ls ++ h.rest) record_there)
      ∙ take_at (encoded ls) h.rest (end_of m - behind m p) (omega (arith, end_there)) in
      let laid : drop head_length (take p m ++ take (end_of m - behind m p) (drop (behind m p) m) ++ left) ≡ encoded k₁ ++ left =
      ap (λ xs. drop head_length (take p m ++ xs ++ left)) moved
      ∙ ap (drop head_length) (append_assoc (take p m) (encoded ls) left)
      ∙ second_changed m a (encoded (onward i k)) h.rest head_length (omega (arith, h.long)) (two_parts i h) (encoded ls ++ left)
      ∙ sym (append_assoc a (encoded ls) left)
      ∙ ap (λ xs. xs ++ left) (sym (encoded_append (lower i k) ls) ∙ ap encoded (sym gone)) in
      let size : length k₁ ≡ length (lower i k) + length ls = ap length gone ∙ length-append (lower i k) ls in
      let space : corners_in k₁ ≡ corners_in (lower i k) + corners_in ls = ap corners_in gone ∙ corners_append (lower i k) ls in
      counted_holds (take p m ++ take (end_of m - behind m p) (drop (behind m p) m) ++ left) _ _ k₁ left
      (closed_up m p (size_of (count_at m p)) (end_of m) (omega (arith, end_there)) (end_within h) ∙ h.long)
      laid
      (omega (arith, h.ground_count, grounds_there))
      (omega (arith, h.corner_count, corners_there))
      (rising_those (λ j. not (eqb j.id i)) k h.rises)
      (every_those (λ j. a_shape j.shape) (λ j. not (eqb j.id i)) k h.shapes)
      (omega (arith, h.few_grounds, grounds_there))
      (omega (arith, h.few_corners, corners_there))
