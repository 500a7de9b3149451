-- What lasts over any commands: a ground that was put stays till it is dropped, and a number that has no ground is never told.
use Rattle.std.proofs.Common.{◌≡◌, ℕ, zero, suc, ◌<◌, Bool, true, false, not, ◌&&◌, eqb, ◌⊎◌, List, [], ◌∷◌, ◌++◌, sym, refl, ap, ◌∙◌, subst, inl, inr, ⊎_elim, arith}
use Rattle.std.proofs.lemmas.Bool.{cases_Bool, and_parts, and_from, eq-eqb, eqb-true, eqb-false, ne_eqb, and_left}
use Rattle.plane.specs.Lists.{pick, every, any, those}
use Rattle.plane.proofs.Booleans.{pick_both, and_false_right, pick_true, pick_false, or_right, or_from, or_left, not_both, false_from, false_from_not, true_from}
use Rattle.plane.proofs.Lists.{every_append}
use Rattle.ground.specs.Shapes.{Shape, in_shape}
use Rattle.map.specs.House.{Kept, Map, Command, put, drop_it, at_point, how_lies, all_that, area_of, there, shape_at, refusal, after, Shown, small_command, core}
use Rattle.map.specs.Promise.{Ran}
use Rattle.map.specs.Sizes.{memory_length, most_grounds}
use Rattle.map.specs.Machine.{own, point}
use Rattle.map.specs.History.{rising_rows, ShownRising, asked, memory_from, memory_after, puts, drops, none_done, tells_of, PutStays, DroppedGone, OnlyPut}
use Rattle.map.proofs.Kept.{kept, rising_those}
use Rattle.map.proofs.Numbered.{rows_rise, there_put, shape_put, there_drop, shape_drop, told_of}
use Rattle.map.proofs.Holding.{Holds, start_holds}
use Rattle.map.proofs.Answering.{becomes, Answered, becomes_after, answered}

-- a command that is said to a memory which holds a map is answered right
pub asked_right : {m : List ℕ} {k : Map} (c : Command) → Holds m k → small_command c ≡ true → Answered k c (asked m c)
asked_right {m} {k} c h small = answered m k h most_grounds c small h.few_grounds

-- it ends as done only if it is known and not refused
done_means : (k : Map) (c : Command) (r : Ran) → Answered k c r → r.end ≡ 0 → (core c ≡ true) × (refusal k c ≡ 0)
done_means k c r a e =
    let known : core c ≡ true = true_from (core c) (λ u. let two = (a.not_known u).0 in omega arith) in
    (known, ⊎_elim (λ p. p) (λ p. absurd (let f = (a.not_taken known p).0 in omega arith)) (zero_or (refusal k c)))
  where
    zero_or : (n : ℕ) → (n ≡ 0) ⊎ (0 < n)
    zero_or zero = inl refl
    zero_or (suc n) = inr (omega arith)

-- at point tells a number exactly if its ground has the point
pub told_at : {m : List ℕ} {k : Map} (i a b w : ℕ) → Holds m k → small_command (at_point a b w) ≡ true
    → tells_of i (asked m (at_point a b w)) ≡ (there k i && in_shape (shape_at k i) (point a b w))
unfolding Shown core refusal
told_at {m} {k} i a b w h small =
    ap (λ rows. any (λ row. any (λ n. eqb n i) row) rows) ((asked_right (at_point a b w) h small).taken refl refl).1
    ∙ told_of (λ s. in_shape s (point a b w)) i k h.rises

-- the map that commands leave
abbrev pub kept_from : Map → List Command → Map
kept_from k [] = k
kept_from k (c ∷ cs) = kept_from (becomes k c) cs

-- and their memory holds it
pub kept_holds : (cs : List Command) (m : List ℕ) (k : Map) → Holds m k → every small_command cs ≡ true → Holds (memory_from m cs) (kept_from k cs)
unfolding memory_from every
kept_holds [] m k h s = h
kept_holds (c ∷ cs) m k h s =
    let p = and_parts (small_command c) (every small_command cs) s in
    kept_holds cs (asked m c).memory (becomes k c) (asked_right c h p.0).holds p.1

-- what a command that isn't refused keeps lasts over all commands, but for those that the test tells of, if none of these ends as done
module _ (P : Map → Type 0) (f : Command → Bool) (keeps : (k : Map) (c : Command) → refusal k c ≡ 0 → f c ≡ false → P k → P (after k c)) where
  lasts_one : (k : Map) (c : Command) (r : Ran) → Answered k c r → not (f c && eqb r.end 0) ≡ true → P k → P (becomes k c)
  lasts_one k c r a none p = ⊎_elim taken left (cases_Bool (core c && eqb (refusal k c) 0))
    where
      taken : (core c && eqb (refusal k c) 0) ≡ true → P (becomes k c)
      taken t =
          let q = and_parts (core c) (eqb (refusal k c) 0) t in
          let z = eqb-true (refusal k c) 0 q.1 in
          let ended = eq-eqb r.end 0 (a.taken q.0 z).0 in
          let other : f c ≡ false = false_from (f c) (λ t. not_both (f c && eqb r.end 0) (and_from (f c) (eqb r.end 0) t ended) (false_from_not (f c && eqb r.end 0) none)) in
          subst P (sym (becomes_after k c q.0 z)) (keeps k c z other p)

      left : (core c && eqb (refusal k c) 0) ≡ false → P (becomes k c)
      left t = subst P (sym (pick_false (core c && eqb (refusal k c) 0) (after k c) k t)) p

  lasts : (cs : List Command) (m : List ℕ) (k : Map) → Holds m k → every small_command cs ≡ true → none_done f m cs ≡ true → P k → P (kept_from k cs)
  unfolding none_done every
  lasts [] m k h s n p = p
  lasts (c ∷ cs) m k h s n p =
      let q = and_parts (small_command c) (every small_command cs) s in
      let r = and_parts (not (f c && eqb (asked m c).end 0)) (none_done f (asked m c).memory cs) n in
      let a = asked_right c h q.0 in
      lasts cs (asked m c).memory (becomes k c) a.holds q.1 r.1 (lasts_one k c (asked m c) a r.0 p)

-- THE GROUND OF A NUMBER
-- the map has a ground s under the number i
abbrev Stays : ℕ → Shape → Map → Type 0
Stays i s k = (there k i ≡ true) × (shape_at k i ≡ s)

-- a put that isn't refused finds no ground of its number
put_new : (k : Map) (i : ℕ) (s : Shape) → refusal k (put i s) ≡ 0 → there k i ≡ false
unfolding refusal
put_new k i s z = false_from (there k i) (λ t. let four : refusal k (put i s) ≡ 4 = pick_true (there k i) 4 _ t in omega arith)

-- a number that is on the map is another than one that isn't
other_number : (k : Map) (i j : ℕ) → there k i ≡ true → there k j ≡ false → eqb j i ≡ false
other_number k i j t f = ne_eqb j i (λ e. not_both (there k i) t (ap (there k) (sym e) ∙ f))

-- a ground stays under any command that doesn't drop it, and a number stays without one under any that puts none
stays_after : (i : ℕ) (s : Shape) (k : Map) (c : Command) → refusal k c ≡ 0 → drops i c ≡ false → Stays i s k → Stays i s (after k c)
unfolding after drops
stays_after i s k (put j t) z d p =
    let new = put_new k j t z in
    let apart = other_number k i j p.0 new in
    (there_put (kept j t) k i ∙ or_right (eqb j i) (there k i) p.0, shape_put (kept j t) k i new ∙ pick_false (eqb j i) t (shape_at k i) apart ∙ p.1)
stays_after i s k (drop_it j) z d p =
    let apart : eqb i j ≡ false = ne_eqb i j (λ e. eqb-false j i d (sym e)) in
    (there_drop j k i ∙ and_from (there k i) (not (eqb i j)) p.0 (ap not apart), shape_drop j k i apart ∙ p.1)
stays_after i s k (at_point a b w) z d p = p
stays_after i s k (how_lies j l) z d p = p
stays_after i s k (all_that j) z d p = p
stays_after i s k (area_of j) z d p = p

absent_after : (i : ℕ) (k : Map) (c : Command) → refusal k c ≡ 0 → puts i c ≡ false → there k i ≡ false → there (after k c) i ≡ false
unfolding after puts
absent_after i k (put j t) z d p = there_put (kept j t) k i ∙ or_from (eqb j i) (there k i) d p
absent_after i k (drop_it j) z d p = there_drop j k i ∙ and_left (there k i) (not (eqb i j)) p
absent_after i k (at_point a b w) z d p = p
absent_after i k (how_lies j l) z d p = p
absent_after i k (all_that j) z d p = p
absent_after i k (area_of j) z d p = p

-- after it was put it is there
put_there : (k : Map) (i : ℕ) (s : Shape) → there k i ≡ false → Stays i s (after k (put i s))
unfolding after
put_there k i s new =
    let same = eq-eqb i i refl in
    (there_put (kept i s) k i ∙ or_left (eqb i i) (there k i) same, shape_put (kept i s) k i new ∙ pick_true (eqb i i) s (shape_at k i) same)

-- after a drop, done or refused, it isn't there
drop_absent : (k : Map) (i : ℕ) → there (becomes k (drop_it i)) i ≡ false
unfolding core refusal after
drop_absent k i =
    pick_both (λ l. there l i ≡ false) (eqb (pick (there k i) 0 3) 0) (after k (drop_it i)) k
    (λ _. there_drop i k i ∙ ap (λ t. there k i && not t) (eq-eqb i i refl) ∙ and_false_right (there k i))
    (λ f. false_from (there k i) (λ t. not_both (eqb (pick (there k i) 0 3) 0) (ap (λ n. eqb n 0) (pick_true (there k i) 0 3 t)) f))

-- some commands, and then some more
memory_append : (m : List ℕ) (cs ds : List Command) → memory_from m (cs ++ ds) ≡ memory_from (memory_from m cs) ds
unfolding memory_from
memory_append m [] ds = refl
memory_append m (c ∷ cs) ds = memory_append (asked m c).memory cs ds

-- what is said from the start leads to memories that hold a map
pub after_holds : (cs : List Command) → every small_command cs ≡ true → Holds (memory_after cs) (kept_from [] cs)
unfolding own
after_holds cs s = kept_holds cs own.start [] (start_holds memory_length refl) s

-- a number that has no ground isn't told, for as long as none is put
absent_told : (cs : List Command) (m : List ℕ) (k : Map) (i a b w : ℕ) → Holds m k → every small_command cs ≡ true → small_command (at_point a b w) ≡ true
    → none_done (puts i) m cs ≡ true
    → there k i ≡ false → tells_of i (asked (memory_from m cs) (at_point a b w)) ≡ false
absent_told cs m k i a b w h s sp n p =
    told_at i a b w (kept_holds cs m k h s) sp
    ∙ and_left (there (kept_from k cs) i) (in_shape (shape_at (kept_from k cs) i) (point a b w)) (lasts (λ l. there l i ≡ false) (puts i) (absent_after i) cs m k h s n p)

-- THE PROMISES
pub shown_rising : ShownRising
unfolding ShownRising core refusal Shown
shown_rising cs a b w s sp =
    let h = after_holds cs s in
    let k : Map = kept_from [] cs in
    let f : Kept → Bool = λ l. in_shape l.shape (point a b w) in
    ap rising_rows ((asked_right (at_point a b w) h sp).taken refl refl).1 ∙ rows_rise (those f k) (rising_those f k h.rises)

pub only_put : OnlyPut
unfolding OnlyPut own any
only_put cs i a b w s sp n = absent_told cs own.start [] i a b w (start_holds memory_length refl) s sp n refl

pub dropped_gone : DroppedGone
unfolding DroppedGone memory_from every
dropped_gone before since i a b w s sp n =
    let parts = and_parts (every small_command before) (every small_command (drop_it i ∷ since)) (sym (every_append small_command before (drop_it i ∷ since)) ∙ s) in
    let said_small = and_parts (small_command (drop_it i)) (every small_command since) parts.1 in
    let h = after_holds before parts.0 in
    let answer = asked_right (drop_it i) h said_small.0 in
    ap (λ m. tells_of i (asked m (at_point a b w))) (memory_append own.start before (drop_it i ∷ since))
    ∙ absent_told since (asked (memory_after before) (drop_it i)).memory (becomes (kept_from [] before) (drop_it i)) i a b w answer.holds said_small.1 sp
    (ap (λ m. none_done (puts i) m since) (sym (memory_append own.start before (drop_it i ∷ []))) ∙ n)
    (drop_absent (kept_from [] before) i)

pub put_stays : PutStays
unfolding PutStays memory_from every
put_stays before since i s a b w sm sp e n =
    let k : Map = kept_from [] before in
    let parts = and_parts (every small_command before) (every small_command (put i s ∷ since)) (sym (every_append small_command before (put i s ∷ since)) ∙ sm) in
    let said_small = and_parts (small_command (put i s)) (every small_command since) parts.1 in
    let h = after_holds before parts.0 in
    let answer = asked_right (put i s) h said_small.0 in
    let went = done_means k (put i s) (asked (memory_after before) (put i s)) answer e in
    let m₁ : List ℕ = (asked (memory_after before) (put i s)).memory in
    let k₁ : Map = becomes k (put i s) in
    let lasting = lasts (Stays i s) (drops i) (stays_after i s) since m₁ k₁ answer.holds said_small.1
    (ap (λ m. none_done (drops i) m since) (sym (memory_append own.start before (put i s ∷ []))) ∙ n)
    (subst (Stays i s) (sym (becomes_after k (put i s) went.0 went.1)) (put_there k i s (put_new k i s went.1))) in
    ap (λ m. tells_of i (asked m (at_point a b w))) (memory_append own.start before (put i s ∷ since))
    ∙ told_at i a b w (kept_holds since m₁ k₁ answer.holds said_small.1) sp
    ∙ ap (λ t. t && in_shape (shape_at (kept_from k₁ since) i) (point a b w)) lasting.0
    ∙ ap (λ t. in_shape t (point a b w)) lasting.1
