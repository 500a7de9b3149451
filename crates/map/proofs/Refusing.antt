-- What is refused leaves every memory as it was: a refusal comes at once or never, since a listing that has begun is never refused.
use Rattle.std.proofs.Common.{◌≡◌, ℕ, zero, suc, ◌<◌, ◌&&◌, eqb, ltb, ◌⊎◌, List, [], ◌∷◌, length, get_or, sym, refl, ap, ◌∙◌, subst, inl, inr, ⊎_elim, arith}
use Rattle.std.proofs.lemmas.Bool.{cases_eq, ne_eqb}
use Rattle.plane.specs.Lists.{pick}
use Rattle.plane.proofs.Booleans.{pick_both, pick_false}
use Rattle.ground.specs.Shapes.{Point, a_shape}
use Rattle.map.specs.House.{Command, put, drop_it, at_point, how_lies, all_that, area_of}
use Rattle.map.specs.Promise.{said, next, shows, done, Step, Ran, one_act, runs}
use Rattle.map.specs.Sizes.{memory_length, most_grounds, head_length, at_grounds, at_cursor, at_left, at_a, at_b, at_w}
use Rattle.map.specs.Memory.{number_at, behind, Sought, seek, Listed, scan, with_record, without_record, opened, closed, has_room, within_count}
use Rattle.map.specs.Machine.{no, stepped, point, small_point, put_step, drop_step, tell_step, next_step, acts, own}
use Rattle.map.specs.History.{asked, memory_from, RefusedNothing}
use Rattle.map.proofs.Changing.{opened_length}
use Rattle.map.proofs.Shown.{goes, runs_on}

-- it ends as done, or is still at it
abbrev Goes_on : Ran → Type 0
Goes_on r = (r.end ≡ 0) ⊎ (r.end ≡ 1000)

-- A LISTING IS NEVER REFUSED
-- it shows a number and goes on, or is done
tell_on : (n : ℕ) (m : List ℕ) (v : Point) (l : Listed) (ss : List (List ℕ)) → ((m₁ : List ℕ) (ss₁ : List (List ℕ)) → length m₁ ≡ memory_length → Goes_on (runs n own m₁ next ss₁))
    → length m ≡ memory_length → Goes_on (goes n ss (tell_step m v l))
unfolding tell_step one_act
tell_on n m v l ss later long =
    let o : List ℕ = opened m (behind m l.place) l.left v in
    pick_both (λ st. Goes_on (goes n ss st)) l.found (stepped o (shows (number_at m l.place ∷ []))) (stepped (closed m) done)
    (λ _. later o _ (opened_length m (behind m l.place) l.left v (omega arith) ∙ long))
    (λ _. inl refl)

-- gone on with, it does so again
next_on : (n : ℕ) (m : List ℕ) (ss : List (List ℕ)) → length m ≡ memory_length → Goes_on (runs n own m next ss)
unfolding acts next_step one_act runs
next_on zero m ss long = inr refl
next_on (suc n) m ss long =
    let v : Point = point (get_or m at_a 0) (get_or m at_b 0) (get_or m at_w 0) in
    let further : Step = tell_step m v (scan m v (get_or m at_left 0) (get_or m at_cursor 0)) in
    subst Goes_on (sym (runs_on n m next ss long))
    (pick_both (λ st. Goes_on (goes n ss st)) (eqb (get_or m at_cursor 0) 0) (stepped m done) (pick (small_point v) further (stepped (closed m) done))
    (λ _. inl refl)
    (λ _. pick_both (λ st. Goes_on (goes n ss st)) (small_point v) further (stepped (closed m) done)
    (λ _. tell_on n m v (scan m v (get_or m at_left 0) (get_or m at_cursor 0)) ss (next_on n) long) (λ _. inl refl)))

-- WHAT IS REFUSED
-- if it was refused, the memory is as it was, and nothing was shown
abbrev SameIfRefused : List ℕ → Ran → Type 0
SameIfRefused m r = 0 < r.end → r.end < 1000 → (r.memory ≡ m) × (r.showed ≡ [])

-- what goes on isn't refused
not_refused : (m : List ℕ) (r : Ran) → Goes_on r → SameIfRefused m r
not_refused m r (inl e) low high = absurd (omega arith)
not_refused m r (inr e) low high = absurd (omega arith)

-- every command
acts_refused : (n : ℕ) (m : List ℕ) (c : Command) → length m ≡ memory_length → SameIfRefused m (goes n [] (acts m (said c)))
unfolding acts put_step drop_step one_act
acts_refused n m (put i s) long =
    let g : Sought = seek m (get_or m at_grounds 0) head_length i in
    let goal : Step → Type 0 = λ st. SameIfRefused m (goes n [] st) in
    pick_both goal (ltb i 18446744073709551616) (put_step m i s g) (no m 1)
    (λ _. pick_both goal g.found (no m 4) (pick (a_shape s) (pick (has_room m g.place s) (stepped (with_record m g.place i s) done) (no m 7)) (no m 5))
    (λ _ _ _. (refl, refl))
    (λ _. pick_both goal (a_shape s) (pick (has_room m g.place s) (stepped (with_record m g.place i s) done) (no m 7)) (no m 5)
    (λ _. pick_both goal (has_room m g.place s) (stepped (with_record m g.place i s) done) (no m 7) (λ _ low _. absurd (omega arith)) (λ _ _ _. (refl, refl)))
    (λ _ _ _. (refl, refl))))
    (λ _ _ _. (refl, refl))
acts_refused n m (drop_it i) long =
    let g : Sought = seek m (get_or m at_grounds 0) head_length i in
    pick_both (λ st. SameIfRefused m (goes n [] st)) (g.found && within_count m g.place) (stepped (without_record m g.place) done) (no m 3)
    (λ _ low _. absurd (omega arith)) (λ _ _ _. (refl, refl))
acts_refused n m (at_point a b w) long =
    let v : Point = point a b w in
    let l : Listed = scan m v (get_or m at_grounds 0) head_length in
    pick_both (λ st. SameIfRefused m (goes n [] st)) (small_point v) (tell_step m v l) (no m 1)
    (λ _. not_refused m (goes n [] (tell_step m v l)) (tell_on n m v l [] (next_on n) long)) (λ _ _ _. (refl, refl))
acts_refused n m (how_lies i j) long = λ _ _. (refl, refl)
acts_refused n m (all_that i) long = λ _ _. (refl, refl)
acts_refused n m (area_of i) long = λ _ _. (refl, refl)

-- also in a memory of another length, which refuses all
pub refused_same : (n : ℕ) (m : List ℕ) (c : Command) → SameIfRefused m (runs n own m (said c) [])
unfolding runs own one_act
refused_same zero m c = λ low high. absurd (omega arith)
refused_same (suc n) m c =
    ⊎_elim (λ long. subst (SameIfRefused m) (sym (runs_on n m (said c) [] long)) (acts_refused n m c long))
    (λ short. subst (λ st. SameIfRefused m (goes n [] st)) (sym (pick_false (eqb (length m) memory_length) (acts m (said c)) (no m 1) (ne_eqb (length m) memory_length short))) (λ _ _. (refl, refl)))
    (cases_eq (length m) memory_length)

-- so that every later answer is what it would be without it
pub refused_nothing : RefusedNothing
unfolding RefusedNothing memory_from
refused_nothing m c low high =
    let same = refused_same (suc most_grounds) m c low high in
    (same.0, same.1, λ later d. ap (λ m₁. asked (memory_from m₁ later) d) same.0)
