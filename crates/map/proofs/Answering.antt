-- Each command, said to a memory that holds a map: it is refused, or it ends as done and shows what is to be shown, and the memory holds the map that is left.
use Rattle.std.proofs.Common.{◌≡◌, ℕ, suc, ◌+◌, ◌<◌, ◌≤◌, Bool, true, false, ◌&&◌, eqb, ltb, leb, List, [], ◌∷◌, length, get_or, sym, refl, ap, ◌∙◌, subst, ⊎_elim, arith}
use Rattle.std.proofs.lemmas.Bool.{cases_Bool, and_parts, and_left, and_from, eq-eqb, ne_eqb, le-leb, ltb-true, leb-true}
use Rattle.plane.specs.Lists.{pick, every}
use Rattle.plane.proofs.Booleans.{pick_both, pick_true, pick_false, not_both, and_true_right, and_false_right}
use Rattle.ground.specs.Shapes.{Point, Shape, a_shape}
use Rattle.map.specs.House.{Map, Command, put, drop_it, at_point, how_lies, all_that, area_of, there, corners_in, refusal, after, Shown, small_command, core}
use Rattle.map.specs.Promise.{said, done, Step, Ran, ran, one_act, runs, Right}
use Rattle.map.specs.Sizes.{most_grounds, most_corners, head_length, at_grounds, at_corners}
use Rattle.map.specs.Memory.{sought, seek, scan, end_of, has_room, within_count, with_record, without_record}
use Rattle.map.specs.Machine.{no, stepped, point, small_point, put_step, drop_step, tell_step, acts, own}
use Rattle.map.proofs.Kept.{onward, heads_first, there_heads}
use Rattle.map.proofs.Sought.{seek_among}
use Rattle.map.proofs.Holding.{Holds, place_of, place_within, put_holds, counts_there, drop_holds}
use Rattle.map.proofs.Shown.{goes, runs_on, lists}

-- the map that a command leaves: what isn't known, or is refused, leaves it as it was
abbrev pub becomes : Map → Command → Map
becomes k c = pick (core c && eqb (refusal k c) 0) (after k c) k

-- how a command that was said to a map went
pub record Answered (k : Map) (c : Command) (r : Ran) : Type 0 where
  pub holds : Holds r.memory (becomes k c)
  pub not_known : core c ≡ false → (r.end ≡ 2) × (r.showed ≡ [])
  pub not_taken : core c ≡ true → 0 < refusal k c → (r.end ≡ refusal k c) × (r.showed ≡ [])
  pub taken : core c ≡ true → refusal k c ≡ 0 → (r.end ≡ 0) × Shown k c r.showed

-- what isn't known, or is refused, leaves the map as it was, and all else makes of it what is to be made
pub becomes_unknown : (k : Map) (c : Command) → core c ≡ false → becomes k c ≡ k
becomes_unknown k c u = pick_false (core c && eqb (refusal k c) 0) (after k c) k (and_left (core c) (eqb (refusal k c) 0) u)

pub becomes_refused : (k : Map) (c : Command) → 0 < refusal k c → becomes k c ≡ k
becomes_refused k c r = pick_false (core c && eqb (refusal k c) 0) (after k c) k (ap (◌&&◌ (core c)) (ne_eqb (refusal k c) 0 (omega arith)) ∙ and_false_right (core c))

pub becomes_after : (k : Map) (c : Command) → core c ≡ true → refusal k c ≡ 0 → becomes k c ≡ after k c
becomes_after k c t r = pick_true (core c && eqb (refusal k c) 0) (after k c) k (and_from (core c) (eqb (refusal k c) 0) t (eq-eqb (refusal k c) 0 r))

-- three ends: not known, refused, done
unknown_so : (m : List ℕ) (k : Map) (c : Command) → core c ≡ false → Holds m k → Answered k c (ran m [] 2)
unknown_so m k c u h =
    record {
      holds = subst (Holds m) (sym (becomes_unknown k c u)) h;
      not_known = λ _. (refl, refl);
      not_taken = λ t _. absurd (not_both (core c) t u);
      taken = λ t _. absurd (not_both (core c) t u);
    }

refused_so : (m : List ℕ) (k : Map) (c : Command) (e : ℕ) → core c ≡ true → refusal k c ≡ e → 0 < e → Holds m k → Answered k c (ran m [] e)
refused_so m k c e t r p h =
    record {
      holds = subst (Holds m) (sym (becomes_refused k c (omega arith))) h;
      not_known = λ u. absurd (not_both (core c) t u);
      not_taken = λ _ _. (sym r, refl);
      taken = λ _ z. absurd (omega arith);
    }

done_so : (r : Ran) (k : Map) (c : Command) → core c ≡ true → refusal k c ≡ 0 → Holds r.memory (after k c) → r.end ≡ 0 → Shown k c r.showed → Answered k c r
done_so r k c t z h e s =
    record {
      holds = subst (Holds r.memory) (sym (becomes_after k c t z)) h;
      not_known = λ u. absurd (not_both (core c) t u);
      not_taken = λ _ p. absurd (omega arith);
      taken = λ _ _. (e, s);
    }

-- the number is sought along the records of the map
pub seek_held : {m : List ℕ} {k : Map} (i : ℕ) → Holds m k → seek m (get_or m at_grounds 0) head_length i ≡ sought (there k i) (place_of i k)
seek_held {m} {k} i h =
    ap (λ n. seek m n head_length i) h.ground_count
    ∙ seek_among m i k head_length h.rest h.records
    ∙ ap (λ t. sought t (place_of i k)) (sym (there_heads i k h.rises))

-- there is room in the memory exactly if there is room on the map
room_held : {m : List ℕ} {k : Map} (i : ℕ) (s : Shape) → Holds m k
    → has_room m (place_of i k) s ≡ (ltb (length k) most_grounds && leb (corners_in k + length s) most_corners)
room_held {m} {k} i s h =
    ap (λ t. (ltb (get_or m at_grounds 0) most_grounds && leb (get_or m at_corners 0 + length s) most_corners) && t) (le-leb (place_of i k) (end_of m) (place_within i h))
    ∙ and_true_right (ltb (get_or m at_grounds 0) most_grounds && leb (get_or m at_corners 0 + length s) most_corners)
    ∙ ap (λ g. ltb g most_grounds && leb (get_or m at_corners 0 + length s) most_corners) h.ground_count
    ∙ ap (λ c. ltb (length k) most_grounds && leb (c + length s) most_corners) h.corner_count

module _ (m : List ℕ) (k : Map) (h : Holds m k) (n : ℕ) where
  -- what a step of the machine makes of the command is what its run makes of it
  by_acts : (c : Command) (st : Step) → acts m (said c) ≡ st → Answered k c (goes n [] st) → Answered k c (runs (suc n) own m (said c) [])
  by_acts c st e a = subst (Answered k c) (sym (runs_on n m (said c) [] h.long ∙ ap (goes n []) e)) a

  -- put, drop, and at point
  pub put_answered : (i : ℕ) (s : Shape) → ltb i 18446744073709551616 ≡ true → Answered k (put i s) (runs (suc n) own m (said (put i s)) [])
  unfolding acts put_step refusal after core one_act Shown
  put_answered i s fits =
      let room : Bool = ltb (length k) most_grounds && leb (corners_in k + length s) most_corners in
      let w : List ℕ = with_record m (place_of i k) i s in
      let sought_for : acts m (said (put i s)) ≡ pick (there k i) (no m 4) (pick (a_shape s) (pick room (stepped w done) (no m 7)) (no m 5)) =
      pick_true (ltb i 18446744073709551616) (put_step m i s (seek m (get_or m at_grounds 0) head_length i)) (no m 1) fits
      ∙ ap (put_step m i s) (seek_held i h)
      ∙ ap (λ t. pick (there k i) (no m 4) (pick (a_shape s) (pick t (stepped w done) (no m 7)) (no m 5))) (room_held i s h) in
      let goal : Step → Type 0 = λ st. Answered k (put i s) (goes n [] st) in
      by_acts (put i s) _ sought_for
      (pick_both goal (there k i) (no m 4) (pick (a_shape s) (pick room (stepped w done) (no m 7)) (no m 5))
      (λ t. refused_so m k (put i s) 4 refl (pick_true (there k i) 4 _ t) (omega arith) h)
      (λ f. pick_both goal (a_shape s) (pick room (stepped w done) (no m 7)) (no m 5)
      (λ a. pick_both goal room (stepped w done) (no m 7)
      (λ r. done_so (ran w [] 0) k (put i s) refl (pick_false (there k i) 4 _ f ∙ pick_true (a_shape s) _ 5 a ∙ pick_true room 0 7 r)
      (put_holds i s h f a (ltb-true _ _ (and_parts _ _ r).0) (leb-true _ _ (and_parts _ _ r).1)) refl refl)
      (λ r. refused_so m k (put i s) 7 refl (pick_false (there k i) 4 _ f ∙ pick_true (a_shape s) _ 5 a ∙ pick_false room 0 7 r) (omega arith) h))
      (λ a. refused_so m k (put i s) 5 refl (pick_false (there k i) 4 _ f ∙ pick_false (a_shape s) _ 5 a) (omega arith) h)))

  pub drop_answered : (i : ℕ) → Answered k (drop_it i) (runs (suc n) own m (said (drop_it i)) [])
  unfolding acts drop_step refusal after core one_act Shown
  drop_answered i =
      let w : List ℕ = without_record m (place_of i k) in
      let found : (t : there k i ≡ true) → Answered k (drop_it i) (goes n [] (pick (there k i && within_count m (place_of i k)) (stepped w done) (no m 3))) =
      λ t. let f = heads_first i (onward i k) (sym (there_heads i k h.rises) ∙ t) in
      let counts = and_from (there k i) (within_count m (place_of i k)) t (counts_there m k i f.0 f.1 h f.2) in
      subst (λ st. Answered k (drop_it i) (goes n [] st)) (sym (pick_true (there k i && within_count m (place_of i k)) (stepped w done) (no m 3) counts))
      (done_so (ran w [] 0) k (drop_it i) refl (pick_true (there k i) 0 3 t) (drop_holds m k i f.0 f.1 h f.2 f.3) refl refl) in
      let missing : there k i ≡ false → Answered k (drop_it i) (goes n [] (pick (there k i && within_count m (place_of i k)) (stepped w done) (no m 3))) =
      λ t. subst (λ st. Answered k (drop_it i) (goes n [] st))
      (sym (pick_false (there k i && within_count m (place_of i k)) (stepped w done) (no m 3) (and_left (there k i) (within_count m (place_of i k)) t)))
      (refused_so m k (drop_it i) 3 refl (pick_false (there k i) 0 3 t) (omega arith) h) in
      by_acts (drop_it i) _ (ap (drop_step m) (seek_held i h)) (⊎_elim found missing (cases_Bool (there k i)))

  point_answered : (a b w : ℕ) → small_command (at_point a b w) ≡ true → length k ≤ n → Answered k (at_point a b w) (runs (suc n) own m (said (at_point a b w)) [])
  unfolding acts small_command refusal after core Shown
  point_answered a b w sc few =
      let v : Point = point a b w in
      let looked : acts m (said (at_point a b w)) ≡ tell_step m v (scan m v (length k) head_length) =
      pick_true (small_point v) (tell_step m v (scan m v (get_or m at_grounds 0) head_length)) (no m 1) sc
      ∙ ap (λ g. tell_step m v (scan m v g head_length)) h.ground_count in
      let l = lists v sc k k m head_length n [] h.rest h (omega arith) h.records h.shapes few in
      by_acts (at_point a b w) _ looked (done_so _ k (at_point a b w) refl refl l.holds l.ended l.shown)

  -- every small command, with steps enough for a listing of all grounds
  pub answered : (c : Command) → small_command c ≡ true → length k ≤ n → Answered k c (runs (suc n) own m (said c) [])
  unfolding acts core one_act small_command
  answered (put i s) sc few = put_answered i s (and_parts _ _ sc).0
  answered (drop_it i) sc few = drop_answered i
  answered (at_point a b w) sc few = point_answered a b w sc few
  answered (how_lies i j) sc few = by_acts (how_lies i j) (no m 2) refl (unknown_so m k (how_lies i j) refl h)
  answered (all_that i) sc few = by_acts (all_that i) (no m 2) refl (unknown_so m k (all_that i) refl h)
  answered (area_of i) sc few = by_acts (area_of i) (no m 2) refl (unknown_so m k (area_of i) refl h)

-- one command after the other
pub right : (cs : List Command) (m : List ℕ) (k : Map) → Holds m k → every small_command cs ≡ true → Right core own m k cs
unfolding Right every
right [] m k h s = refl
right (c ∷ cs) m k h s =
    let p = and_parts (small_command c) (every small_command cs) s in
    let a = answered m k h (length k) c p.0 (omega arith) in (
      suc (length k),
      becomes k c,
      (
        (λ u. ((a.not_known u).0, (a.not_known u).1, becomes_unknown k c u)),
        (λ t r. ((a.not_taken t r).0, (a.not_taken t r).1, becomes_refused k c r)),
        (λ t r. ((a.taken t r).0, (a.taken t r).1, becomes_after k c t r)),
      ),
      right cs (runs (suc (length k)) own m (said c) []).memory (becomes k c) a.holds p.1,
    )
