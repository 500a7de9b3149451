-- What a change leaves of the memory: its length, its head, and the numbers behind the head.
use Rattle.std.proofs.Common.{◌≡◌, ℕ, ◌+◌, ◌-◌, ◌≤◌, List, ◌++◌, length, get_or, take, drop, sym, refl, ap, ◌∙◌, append_assoc, arith, length-append, length-drop, length-set, length-take, length-take-le, get_or-set_other, get_or-set_same, drop-drop, take_at, drop-set-lt, take-add, drop_at}
use Rattle.ground.specs.Shapes.{Point, Shape}
use Rattle.map.specs.Sizes.{head_length, at_grounds, at_corners, at_cursor, at_left, at_a, at_b, at_w}
use Rattle.map.specs.Memory.{size_of, end_of, recorded, counted, opened}
use Rattle.map.proofs.Boxed.{flat_length}

-- THE HEAD
-- the counts are read as they were written, and the records stand as they did
pub counted_length : (g c : ℕ) (m : List ℕ) → length (counted g c m) ≡ length m
counted_length g c m = simp length-set

pub counted_grounds : (g c : ℕ) (m : List ℕ) → head_length ≤ length m → get_or (counted g c m) at_grounds 0 ≡ g
counted_grounds g c m h = grind (arith, get_or-set_other, get_or-set_same, length-set)

pub counted_corners : (g c : ℕ) (m : List ℕ) → head_length ≤ length m → get_or (counted g c m) at_corners 0 ≡ c
counted_corners g c m h = grind (arith, get_or-set_other, get_or-set_same, length-set)

pub counted_behind : (g c : ℕ) (m : List ℕ) → drop head_length (counted g c m) ≡ drop head_length m
counted_behind g c m = grind (arith, drop-set-lt)

-- the cursor that a listing leaves is read again
module _ (m : List ℕ) (p n : ℕ) (v : Point) (within : head_length ≤ length m) where
  pub opened_length : length (opened m p n v) ≡ length m
  opened_length = simp length-set

  pub opened_cursor : get_or (opened m p n v) at_cursor 0 ≡ p
  opened_cursor = grind (arith, get_or-set_other, get_or-set_same, length-set)

  pub opened_left : get_or (opened m p n v) at_left 0 ≡ n
  opened_left = grind (arith, get_or-set_other, get_or-set_same, length-set)

  pub opened_a : get_or (opened m p n v) at_a 0 ≡ v.px
  opened_a = grind (arith, get_or-set_other, get_or-set_same, length-set)

  pub opened_b : get_or (opened m p n v) at_b 0 ≡ v.py
  opened_b = grind (arith, get_or-set_other, get_or-set_same, length-set)

  pub opened_w : get_or (opened m p n v) at_w 0 ≡ v.w
  opened_w = grind (arith, get_or-set_other, get_or-set_same, length-set)

  -- and the records stand as they did
  pub opened_behind : (q : ℕ) → head_length ≤ q → drop q (opened m p n v) ≡ drop q m
  opened_behind q h = grind (arith, drop-set-lt)

-- NUMBERS MOVE UP, OR DOWN
-- room for other numbers at p, taken from behind e: all stays as long as it was
made_room : (m xs : List ℕ) (p e : ℕ) → p ≤ e → e + length xs ≤ length m
    → length (take p m ++ xs ++ take (e - p) (drop p m) ++ drop (e + length xs) m) ≡ length m
made_room m xs p e h k = simp (length-append, length-take, length-drop) (omega arith)

-- n numbers at p are gone, and those up to e close up: all stays as long as it was
pub closed_up : (m : List ℕ) (p n e : ℕ) → p + n ≤ e → e ≤ length m → length (take p m ++ take (e - (p + n)) (drop (p + n) m) ++ drop (e - n) m) ≡ length m
closed_up m p n e h k = simp (length-append, length-take, length-drop) (omega arith)

-- so it is with a record
pub with_length : (m : List ℕ) (p i : ℕ) (s : Shape) → p ≤ end_of m → end_of m + size_of (length s) ≤ length m
    → length (take p m ++ recorded i s ++ take (end_of m - p) (drop p m) ++ drop (end_of m + size_of (length s)) m) ≡ length m
with_length m p i s h k =
    let size : length (recorded i s) ≡ size_of (length s) = omega (arith, flat_length s) in
    ap (λ n. length (take p m ++ recorded i s ++ take (end_of m - p) (drop p m) ++ drop (end_of m + n) m)) (sym size)
    ∙ made_room m (recorded i s) p (end_of m) h (omega arith)

-- a and b stand behind the first h numbers
module _ (m a b rest : List ℕ) (h : ℕ) (within : h ≤ length m) (parts : drop h m ≡ a ++ b ++ rest) where
  -- the memory up to the second, and from it on
  pub up_to_second : take (h + length a) m ≡ take h m ++ a
  up_to_second =
      take-add h (length a) m
      ∙ ap (λ xs. take h m ++ take (length a) xs) (parts ∙ append_assoc a b rest)
      ∙ ap (◌++◌ (take h m)) (take_at a (b ++ rest) (length a) refl)

  pub from_second : drop (h + length a) m ≡ b ++ rest
  from_second = sym (drop-drop (length a) h m) ∙ ap (drop (length a)) (parts ∙ append_assoc a b rest) ∙ drop_at a (b ++ rest) (length a) refl

  -- other numbers in the place of the second
  pub second_changed : (xs : List ℕ) → drop h (take (h + length a) m ++ xs) ≡ a ++ xs
  second_changed xs =
      ap (λ ys. drop h (ys ++ xs)) up_to_second ∙ ap (drop h) (append_assoc (take h m) a xs) ∙ drop_at (take h m) (a ++ xs) h (length-take-le h m within)
