-- Whatever stands in the memory and whatever is said: it stays as long as it is, and no number of more than 64 bits gets into it.
use Rattle.std.proofs.Common.{◌≡◌, ℕ, zero, suc, ◌+◌, ◌-◌, ◌<◌, ◌≤◌, true, false, ◌&&◌, eqb, ltb, leb, List, [], ◌∷◌, ◌++◌, length, get_or, take, drop, set, replicate, sym, refl, ap, ◌∙◌, arith, length-set, take-append-drop}
use lib.ListN.{length-replicate}
use Rattle.std.proofs.lemmas.Bool.{and_parts, and_from, lt-ltb, ltb-true, leb-true, eqb-true, false≢true}
use Rattle.plane.specs.Lists.{pick, every}
use Rattle.plane.proofs.Booleans.{pick_both}
use Rattle.plane.proofs.Lists.{every_append, every_and, every_weaker}
use Rattle.ground.specs.Shapes.{Point, Shape, a_shape}
use Rattle.ground.specs.Rows.{flat, least, greatest}
use Rattle.map.specs.House.{put, drop_it, at_point, how_lies, all_that, area_of}
use Rattle.map.specs.Promise.{Event, said, next, shows, done, Step, all_small, Steady}
use Rattle.map.specs.Sizes.{memory_length, most_grounds, most_corners, head_length, at_grounds, at_corners, at_cursor, at_left, at_a, at_b, at_w}
use Rattle.map.specs.Memory.{number_at, count_at, size_of, behind, whole_at, has_at, Sought, seek, Listed, listed, scan, end_of, recorded, counted, with_record, without_record, opened, closed, has_room, within_count}
use Rattle.map.specs.Machine.{no, stepped, point, small_point, put_step, drop_step, tell_step, next_step, acts, own}
use Rattle.map.proofs.Boxed.{flat_fits, shape_range, shape_size, least_fits, greatest_fits}
use Rattle.map.proofs.Changing.{counted_length, with_length, closed_up, opened_length}

-- numbers of 64 bits are below this
abbrev word : ℕ
word = 18446744073709551616

-- SMALL NUMBERS
-- what is made of small parts is small
small_cons : (x : ℕ) (xs : List ℕ) → x < word → all_small xs ≡ true → all_small (x ∷ xs) ≡ true
unfolding all_small every
small_cons x xs h k = and_from (ltb x word) (all_small xs) (lt-ltb x word h) k

small_two : (xs ys : List ℕ) → all_small xs ≡ true → all_small ys ≡ true → all_small (xs ++ ys) ≡ true
unfolding all_small
small_two xs ys a b = every_append (λ n. ltb n word) xs ys ∙ and_from (all_small xs) (all_small ys) a b

-- and so are the parts of what is small
small_parts : (n : ℕ) (xs : List ℕ) → all_small xs ≡ true → (all_small (take n xs) ≡ true) × (all_small (drop n xs) ≡ true)
unfolding all_small
small_parts n xs a = and_parts (all_small (take n xs)) (all_small (drop n xs)) (sym (every_append (λ j. ltb j word) (take n xs) (drop n xs)) ∙ ap all_small (take-append-drop n xs) ∙ a)

-- a small number written over another
small_set : (xs : List ℕ) (i a : ℕ) → a < word → all_small xs ≡ true → all_small (set xs i a) ≡ true
unfolding all_small every
small_set [] i a h k = refl
small_set (x ∷ xs) zero a h k = and_from (ltb a word) (all_small xs) (lt-ltb a word h) (and_parts (ltb x word) (all_small xs) k).1
small_set (x ∷ xs) (suc i) a h k =
    let p = and_parts (ltb x word) (all_small xs) k in
    and_from (ltb x word) (all_small (set xs i a)) p.0 (small_set xs i a h p.1)

-- what is read is small, also where nothing stands
small_read : (xs : List ℕ) (i : ℕ) → all_small xs ≡ true → get_or xs i 0 < word
unfolding all_small every
small_read [] i k = omega arith
small_read (x ∷ xs) zero k = ltb-true x word (and_parts (ltb x word) (all_small xs) k).0
small_read (x ∷ xs) (suc i) k = small_read xs i (and_parts (ltb x word) (all_small xs) k).1

-- numbers below a lower bound are small
small_below : (n : ℕ) (xs : List ℕ) → n ≤ word → every (λ a. ltb a n) xs ≡ true → all_small xs ≡ true
unfolding all_small
small_below n xs h = every_weaker (λ a. ltb a n) (λ a. ltb a word) xs (λ a r. lt-ltb a word (omega (arith, ltb-true a n r)))

-- a record of a ground is made of small numbers
small_record : (i : ℕ) (s : Shape) → i < word → a_shape s ≡ true → all_small (recorded i s) ≡ true
small_record i s h a =
    let range = shape_range s a in
    let both = and_parts (every (λ c. ltb c.x 1048576) s) (every (λ c. ltb c.y 1048576) s) (sym (every_and (λ c. ltb c.x 1048576) (λ c. ltb c.y 1048576) s) ∙ range) in
    let across = both.0 in
    let upward = both.1 in
    small_cons i _ h
    (small_cons (length s) _ (omega (arith, shape_size s a))
    (small_cons (least (λ c. c.x) s) _ (omega (arith, least_fits (λ c. c.x) 1048576 s (omega arith) across))
    (small_cons (least (λ c. c.y) s) _ (omega (arith, least_fits (λ c. c.y) 1048576 s (omega arith) upward))
    (small_cons (greatest (λ c. c.x) s) _ (omega (arith, greatest_fits (λ c. c.x) 1048576 s (omega arith) across))
    (small_cons (greatest (λ c. c.y) s) _ (omega (arith, greatest_fits (λ c. c.y) 1048576 s (omega arith) upward))
    (small_cons 0 _ (omega arith) (small_cons 0 _ (omega arith) (small_below 1048576 (flat s) (omega arith) (flat_fits 1048576 s range)))))))))

-- ONE STEP
-- it leaves the memory's length as it is, and its numbers small
abbrev Keeps : List ℕ → List ℕ → Type 0
Keeps m m₁ = (length m₁ ≡ length m) × (all_small m ≡ true → all_small m₁ ≡ true)

-- nothing is changed
as_it_was : (m : List ℕ) → Keeps m m
as_it_was m = (refl, λ s. s)

-- small counts in the head
counted_small : (g c : ℕ) (m : List ℕ) → g < word → c < word → all_small m ≡ true → all_small (counted g c m) ≡ true
counted_small g c m hg hc s = small_set _ at_cursor 0 (omega arith) (small_set _ at_corners c hc (small_set m at_grounds g hg s))

-- a record more, where there is room, and one less, where it counts
with_keeps : (m : List ℕ) (p i : ℕ) (s : Shape) → length m ≡ memory_length → i < word → a_shape s ≡ true → has_room m p s ≡ true → Keeps m (with_record m p i s)
unfolding with_record
with_keeps m p i s n h a r =
    let q = and_parts (ltb (get_or m at_grounds 0) most_grounds && leb (get_or m at_corners 0 + length s) most_corners) (leb p (end_of m)) r in
    let few = and_parts (ltb (get_or m at_grounds 0) most_grounds) (leb (get_or m at_corners 0 + length s) most_corners) q.0 in
    let grounds = ltb-true (get_or m at_grounds 0) most_grounds few.0 in
    let corners = leb-true (get_or m at_corners 0 + length s) most_corners few.1 in
    let body : List ℕ = take p m ++ recorded i s ++ take (end_of m - p) (drop p m) ++ drop (end_of m + size_of (length s)) m in (
      counted_length _ _ body ∙ with_length m p i s (leb-true p (end_of m) q.1) (omega arith),
      λ s₀. counted_small _ _ body (omega arith) (omega arith)
          (small_two _ _ (small_two _ _ (small_two _ _ (small_parts p m s₀).0 (small_record i s h a)) (small_parts (end_of m - p) (drop p m) (small_parts p m s₀).1).0)
          (small_parts (end_of m + size_of (length s)) m s₀).1),
    )

without_keeps : (m : List ℕ) (p : ℕ) → within_count m p ≡ true → Keeps m (without_record m p)
unfolding without_record
without_keeps m p r =
    let q = and_parts (leb (behind m p) (end_of m) && leb (end_of m) (length m)) (leb (count_at m p) (get_or m at_corners 0)) r in
    let ends = and_parts (leb (behind m p) (end_of m)) (leb (end_of m) (length m)) q.0 in
    let body : List ℕ = take p m ++ take (end_of m - behind m p) (drop (behind m p) m) ++ drop (end_of m - size_of (count_at m p)) m in (
      counted_length _ _ body ∙ closed_up m p (size_of (count_at m p)) (end_of m) (leb-true _ _ ends.0) (leb-true _ _ ends.1),
      λ s₀. counted_small _ _ body (omega (arith, small_read m at_grounds s₀)) (omega (arith, small_read m at_corners s₀))
          (small_two _ _ (small_two _ _ (small_parts p m s₀).0 (small_parts (end_of m - behind m p) (drop (behind m p) m) (small_parts (behind m p) m s₀).1).0)
          (small_parts (end_of m - size_of (count_at m p)) m s₀).1),
    )

-- a scan finds a record that lies in the memory, and leaves no more to look at than there was
scan_within : (m : List ℕ) (v : Point) (n p : ℕ) → ((scan m v n p).left ≤ n) × ((scan m v n p).found ≡ true → behind m (scan m v n p).place ≤ length m)
unfolding scan
scan_within m v zero p = (omega arith, λ f. absurd (false≢true f))
scan_within m v (suc n) p =
    let r = scan_within m v n (behind m p) in
    pick_both (λ l. (l.left ≤ suc n) × (l.found ≡ true → behind m l.place ≤ length m)) (whole_at m p) (pick (has_at m p v) (listed true p n) (scan m v n (behind m p))) (listed false p 0)
    (λ whole. pick_both (λ l. (l.left ≤ suc n) × (l.found ≡ true → behind m l.place ≤ length m)) (has_at m p v) (listed true p n) (scan m v n (behind m p))
    (λ _. (omega arith, λ _. leb-true (behind m p) (length m) (and_parts _ _ whole).1))
    (λ _. (omega (arith, r.0), r.1)))
    (λ _. (omega arith, λ f. absurd (false≢true f)))

-- a listing ends
closed_keeps : (m : List ℕ) → Keeps m (closed m)
closed_keeps m = (length-set m at_cursor 0, λ s. small_set m at_cursor 0 (omega arith) s)

-- a listing goes on, with a cursor in the memory and a point in range
tell_keeps : (m : List ℕ) (v : Point) (n p : ℕ) → length m ≡ memory_length → small_point v ≡ true → (all_small m ≡ true → n < word) → Keeps m (tell_step m v (scan m v n p)).memory
unfolding tell_step
tell_keeps m v n p long sv small =
    let l : Listed = scan m v n p in
    let w = scan_within m v n p in
    let parts = and_parts (leb 1 v.w && ltb v.w 1048576) (ltb v.px 1099511627776 && ltb v.py 1099511627776) sv in
    let width = ltb-true v.w 1048576 (and_parts (leb 1 v.w) (ltb v.w 1048576) parts.0).1 in
    let sides = and_parts (ltb v.px 1099511627776) (ltb v.py 1099511627776) parts.1 in
    let east = ltb-true v.px 1099511627776 sides.0 in
    let north = ltb-true v.py 1099511627776 sides.1 in
    pick_both (λ st. Keeps m st.memory) l.found (stepped (opened m (behind m l.place) l.left v) (shows (number_at m l.place ∷ []))) (stepped (closed m) done)
    (λ f. (
      opened_length m (behind m l.place) l.left v (omega arith),
      λ s. small_set _ at_w v.w (omega arith) (small_set _ at_b v.py (omega arith) (small_set _ at_a v.px (omega arith)
          (small_set _ at_left l.left (omega (arith, w.0, small s)) (small_set m at_cursor (behind m l.place) (omega (arith, w.1 f)) s)))),
    ))
    (λ _. closed_keeps m)

-- every event
acts_keeps : (m : List ℕ) (ev : Event) → length m ≡ memory_length → Keeps m (acts m ev).memory
unfolding acts put_step drop_step next_step
acts_keeps m (said (put i s)) long =
    let g : Sought = seek m (get_or m at_grounds 0) head_length i in
    pick_both (λ st. Keeps m st.memory) (ltb i word) (put_step m i s g) (no m 1)
    (λ h. pick_both (λ st. Keeps m st.memory) g.found (no m 4) (pick (a_shape s) (pick (has_room m g.place s) (stepped (with_record m g.place i s) done) (no m 7)) (no m 5))
    (λ _. as_it_was m)
    (λ _. pick_both (λ st. Keeps m st.memory) (a_shape s) (pick (has_room m g.place s) (stepped (with_record m g.place i s) done) (no m 7)) (no m 5)
    (λ a. pick_both (λ st. Keeps m st.memory) (has_room m g.place s) (stepped (with_record m g.place i s) done) (no m 7)
    (λ r. with_keeps m g.place i s long (ltb-true i word h) a r) (λ _. as_it_was m))
    (λ _. as_it_was m)))
    (λ _. as_it_was m)
acts_keeps m (said (drop_it i)) long =
    let g : Sought = seek m (get_or m at_grounds 0) head_length i in
    pick_both (λ st. Keeps m st.memory) (g.found && within_count m g.place) (stepped (without_record m g.place) done) (no m 3)
    (λ r. without_keeps m g.place (and_parts g.found (within_count m g.place) r).1) (λ _. as_it_was m)
acts_keeps m (said (at_point a b w)) long =
    pick_both (λ st. Keeps m st.memory) (small_point (point a b w)) (tell_step m (point a b w) (scan m (point a b w) (get_or m at_grounds 0) head_length)) (no m 1)
    (λ sv. tell_keeps m (point a b w) (get_or m at_grounds 0) head_length long sv (small_read m at_grounds)) (λ _. as_it_was m)
acts_keeps m (said (how_lies i j)) long = as_it_was m
acts_keeps m (said (all_that i)) long = as_it_was m
acts_keeps m (said (area_of i)) long = as_it_was m
acts_keeps m next long =
    let v : Point = point (get_or m at_a 0) (get_or m at_b 0) (get_or m at_w 0) in
    let further : Step = tell_step m v (scan m v (get_or m at_left 0) (get_or m at_cursor 0)) in
    pick_both (λ st. Keeps m st.memory) (eqb (get_or m at_cursor 0) 0) (stepped m done) (pick (small_point v) further (stepped (closed m) done))
    (λ _. as_it_was m)
    (λ _. pick_both (λ st. Keeps m st.memory) (small_point v) further (stepped (closed m) done)
    (λ sv. tell_keeps m v (get_or m at_left 0) (get_or m at_cursor 0) long sv (small_read m at_left)) (λ _. closed_keeps m))

-- the start: so many numbers, and all are 0
all_zero : (n : ℕ) → every (λ m. eqb m 0) (replicate n 0) ≡ true
unfolding every
all_zero zero = refl
all_zero (suc n) = all_zero n

long_enough : (n m a : ℕ) → n ≡ m → length (replicate n a) ≤ m
long_enough n m a e = omega (arith, length-replicate n a)

-- the memory is all 0 at the start, it never grows, and its numbers stay numbers of 64 bits
pub own_steady : Steady own
unfolding Steady own
own_steady = (
  long_enough memory_length 262144 0 refl,
  all_zero memory_length,
  λ m ev. pick_both (λ st. Keeps m st.memory) (eqb (length m) memory_length) (acts m ev) (no m 1) (λ e. acts_keeps m ev (eqb-true (length m) memory_length e)) (λ _. as_it_was m),
)
