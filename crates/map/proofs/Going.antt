-- Going on with a request: each row that is shown leaves fewer records to look at, and what came of all the steps.
use Rattle.std.proofs.Common.{◌≡◌, ℕ, zero, suc, ◌+◌, ◌<◌, Bool, true, false, ◌&&◌, eqb, ltb, leb, List, [], ◌∷◌, ◌++◌, length, get_or, set, Ok, Err, sym, refl, ap, ◌∙◌, append_assoc, append-nil, zero-add, subst, arith, length-set, get_or-set_other, get_or-set_same, eq-eqb}
use Rattle.std.proofs.lemmas.Bool.{false≢true}
use Rattle.terms.specs.Refusals.{refusal_number}
use Rattle.terms.specs.declared.refusal.Refusal.{Refusal}
use Rattle.terms.specs.declared.refusal.Refusal.TheVariants.{OutOfRange, NotKnown, NotThere, Taken, NoGround, NoRoom}
use Rattle.plane.specs.Lists.{pick}
use Rattle.plane.proofs.Booleans.{pick_both}
use Rattle.ground.specs.Shapes.{Point, Shape, a_shape}
use Rattle.map.specs.House.{put, drop_it, at_point, how_lies, all_that, area_of}
use Rattle.map.specs.Promise.{Event, said, next, Act, shows, done, refused, Step, ran, runs, one_act}
use Rattle.map.specs.Sizes.{memory_length, head_length, at_grounds, at_cursor, at_left, at_a, at_b, at_w}
use Rattle.map.specs.Memory.{number_at, Listed, listed, scan, whole_at, has_at, behind, opened, closed, Sought, seek, has_room, within_count}
use Rattle.map.specs.Machine.{own, acts, put_step, drop_step, tell_step, next_step, stepped, point, small_point}
use Rattle.map.specs.Code.{act_of, Takes}
use Rattle.map.specs.Asking.{flattened, End, Went}
use Rattle.map.specs.declared.act.Act as code
use Rattle.map.specs.declared.act.Act.TheVariants.{Shows, Done, Refused}

-- in a memory of its own length the machine does what is said of all memories
pub own_acts : (m : List ℕ) (ev : Event) → length m ≡ memory_length → acts m ev ≡ own.step m ev
unfolding own
own_acts m ev long = let e = eq-eqb (length m) memory_length long in rw e refl

-- WHAT THE MACHINE DOES IS WELL FORMED, whatever stands in its memory: it shows one number, or is done, or refuses for a reason that has a name
unfoldable Fine : Step → Type 0
Fine s = (a : code.Act) × (act_of a ≡ s.act)

well_told : (m : List ℕ) (a : code.Act) → Fine (stepped m (act_of a))
unfolding Fine
well_told m a = (a, refl)

put_fine : (m : List ℕ) (i : ℕ) (s : Shape) (g : Sought) → Fine (put_step m i s g)
unfolding put_step
put_fine m i s g =
    pick_both Fine g.found _ _ (λ e. well_told m (Refused Taken))
    (λ _. pick_both Fine (a_shape s) _ _ (λ e. pick_both Fine (has_room m g.place s) _ _ (λ f. well_told _ Done) (λ _. well_told m (Refused NoRoom))) (λ _. well_told m (Refused NoGround)))

tell_fine : (m : List ℕ) (v : Point) (l : Listed) → Fine (tell_step m v l)
unfolding tell_step
tell_fine m v l = pick_both Fine l.found _ _ (λ e. well_told _ (Shows (number_at m l.place))) (λ _. well_told _ Done)

next_fine : (m : List ℕ) (v : Point) → Fine (next_step m v)
unfolding next_step
next_fine m v =
    pick_both Fine (eqb (get_or m at_cursor 0) 0) _ _ (λ e. well_told m Done)
    (λ _. pick_both Fine (small_point v) _ _ (λ e. tell_fine m v (scan m v (get_or m at_left 0) (get_or m at_cursor 0))) (λ _. well_told _ Done))

acts_fine : (m : List ℕ) (ev : Event) → Fine (acts m ev)
unfolding acts drop_step
acts_fine m (said (put i s)) =
    pick_both Fine (ltb i 18446744073709551616) _ _ (λ e. put_fine m i s (seek m (get_or m at_grounds 0) head_length i)) (λ _. well_told m (Refused OutOfRange))
acts_fine m (said (drop_it i)) =
    let g : Sought = seek m (get_or m at_grounds 0) head_length i in
    pick_both Fine (g.found && within_count m g.place) _ _ (λ e. well_told _ Done) (λ _. well_told m (Refused NotThere))
acts_fine m (said (at_point a b w)) =
    pick_both Fine (small_point (point a b w)) _ _ (λ e. tell_fine m (point a b w) (scan m (point a b w) (get_or m at_grounds 0) head_length)) (λ _. well_told m (Refused OutOfRange))
acts_fine m (said (how_lies i j)) = well_told m (Refused NotKnown)
acts_fine m (said (all_that i)) = well_told m (Refused NotKnown)
acts_fine m (said (area_of i)) = well_told m (Refused NotKnown)
acts_fine m next = next_fine m (point (get_or m at_a 0) (get_or m at_b 0) (get_or m at_w 0))

pub own_act : (m : List ℕ) (ev : Event) → (a : code.Act) × (act_of a ≡ (own.step m ev).act)
unfolding own Fine
own_act m ev = pick_both Fine (eqb (length m) memory_length) (acts m ev) (stepped m (refused 1)) (λ e. acts_fine m ev) (λ _. well_told m (Refused OutOfRange))

-- so it shows at most two numbers, and refuses with 1 to 999
abbrev act_fine : Act → Bool
act_fine (shows s) = leb (length s) 2
act_fine done = true
act_fine (refused k) = leb 1 k && ltb k 1000

refusal_ends : (why : Refusal) → leb 1 (refusal_number why) && ltb (refusal_number why) 1000 ≡ true
refusal_ends OutOfRange = refl
refusal_ends NotKnown = refl
refusal_ends NotThere = refl
refusal_ends Taken = refl
refusal_ends NoGround = refl
refusal_ends NoRoom = refl

code_fine : (a : code.Act) → act_fine (act_of a) ≡ true
code_fine (Shows n) = refl
code_fine Done = refl
code_fine (Refused why) = refusal_ends why

own_fine : (m : List ℕ) (ev : Event) → act_fine (own.step m ev).act ≡ true
own_fine m ev = let a = own_act m ev in subst (λ (b : Act). act_fine b ≡ true) a.1 (code_fine a.0)

-- EACH ROW LEAVES FEWER RECORDS
fewer : (b c : Bool) (x : Listed) (k p : ℕ) → (x.found ≡ true → x.left < k) →
    (pick b (pick c (listed true p k) x) (listed false p 0)).found ≡ true → (pick b (pick c (listed true p k) x) (listed false p 0)).left < suc k
fewer true true x k p h e = omega arith
fewer true false x k p h e = let l = h e in omega arith
fewer false c x k p h e = absurd (false≢true e)

scan_left : (m : List ℕ) (v : Point) (k p : ℕ) → (scan m v k p).found ≡ true → (scan m v k p).left < k
unfolding scan
scan_left m v zero p e = absurd (false≢true e)
scan_left m v (suc k) p e = fewer (whole_at m p) (has_at m p v) (scan m v k (behind m p)) k p (scan_left m v k (behind m p)) e

-- a step that goes on and shows a row leaves fewer records than there were
Fewer : List ℕ → Step → Type 0
Fewer m s = (r : List ℕ) → s.act ≡ shows r → get_or s.memory at_left 0 < get_or m at_left 0

not_shown : (m m₁ : List ℕ) (a : Act) → ((r : List ℕ) → a ≡ shows r → ⊥) → Fewer m (stepped m₁ a)
unfolding Fewer
not_shown m m₁ a never r e = absurd (never r e)

done_shows : (r : List ℕ) → done ≡ shows r → ⊥
done_shows r e = cc

refused_shows : (k : ℕ) (r : List ℕ) → refused k ≡ shows r → ⊥
refused_shows k r e = cc

-- what the cursor says of the records that are left
left_opened : (m : List ℕ) (p k : ℕ) (v : Point) → length m ≡ memory_length → get_or (opened m p k v) at_left 0 ≡ k
left_opened m p k v long =
    let l : 3 < length (set m 2 p) = rw length-set (omega arith) in
    let one = set (set m 2 p) 3 k in
    let two = set one 4 v.px in
    get_or-set_other (set two 5 v.py) 6 3 v.w 0 (omega arith)
    ∙ (get_or-set_other two 5 3 v.py 0 (omega arith) ∙ (get_or-set_other one 4 3 v.px 0 (omega arith) ∙ get_or-set_same (set m 2 p) 3 k 0 l))

tell_fewer : (m : List ℕ) (v : Point) (l : Listed) → length m ≡ memory_length → (l.found ≡ true → l.left < get_or m at_left 0) → Fewer m (tell_step m v l)
unfolding tell_step Fewer
tell_fewer m v l long less =
    pick_both (Fewer m) l.found _ _ (λ e r s. rw (left_opened m (behind m l.place) l.left v long) (less e)) (λ _. not_shown m (closed m) done done_shows)

next_fewer : (m : List ℕ) → length m ≡ memory_length → Fewer m (own.step m next)
unfolding own acts next_step
next_fewer m long =
    let v : Point = point (get_or m at_a 0) (get_or m at_b 0) (get_or m at_w 0) in
    pick_both (Fewer m) (eqb (length m) memory_length) _ _
    (λ e.
    pick_both (Fewer m) (eqb (get_or m at_cursor 0) 0) _ _ (λ f. not_shown m m done done_shows)
    (λ _. pick_both (Fewer m) (small_point v) _ _
    (λ f. tell_fewer m v (scan m v (get_or m at_left 0) (get_or m at_cursor 0)) long (scan_left m v (get_or m at_left 0) (get_or m at_cursor 0)))
    (λ _. not_shown m (closed m) done done_shows)))
    (λ _. not_shown m m (refused 1) (refused_shows 1))

-- THE WAY SO FAR: after j steps and the one that was taken last, with the rows before that one
pub record Way (m₀ : List ℕ) (ev₀ : Event) (a : code.Act) (m₁ shown : List ℕ) : Type 0 where
  pub steps : ℕ
  pub rows : List (List ℕ)
  pub from : List ℕ
  pub at : Event
  pub flat : shown ≡ flattened rows
  pub runs_on : (n : ℕ) → runs (steps + suc n) own m₀ ev₀ [] ≡ runs (suc n) own from at rows
  pub last : Takes a m₁ (own.step from at)

pub way_begins : (m₀ : List ℕ) (ev₀ : Event) (a : code.Act) (m₁ : List ℕ) → Takes a m₁ (own.step m₀ ev₀) → Way m₀ ev₀ a m₁ []
unfolding flattened
way_begins m₀ ev₀ a m₁ t =
    record { steps = 0; rows = []; from = m₀; at = ev₀; flat = refl; runs_on = λ n. ap (λ (k : ℕ). runs k own m₀ ev₀ []) (zero-add (suc n)); last = t }

flattened_more : (rs : List (List ℕ)) (r : List ℕ) → flattened (rs ++ r ∷ []) ≡ flattened rs ++ r
unfolding flattened
flattened_more [] r = append-nil r
flattened_more (q ∷ rs) r = ap (λ (l : List ℕ). q ++ l) (flattened_more rs r) ∙ sym (append_assoc q (flattened rs) r)

one_more : (m : List ℕ) (ev : Event) (rs : List (List ℕ)) (k n : ℕ) → (own.step m ev).act ≡ shows (k ∷ []) →
    runs (suc n) own m ev rs ≡ runs n own (own.step m ev).memory next (rs ++ (k ∷ []) ∷ [])
unfolding runs one_act
one_more m ev rs k n is = rw is refl

-- a row more, and the step behind it
pub way_goes_on : (m₀ : List ℕ) (ev₀ : Event) (k : ℕ) (m₁ shown : List ℕ) (a : code.Act) (m₂ : List ℕ) → Way m₀ ev₀ (Shows k) m₁ shown →
    Takes a m₂ (own.step m₁ next) → Way m₀ ev₀ a m₂ (shown ++ k ∷ [])
way_goes_on m₀ ev₀ k m₁ shown a m₂ way t =
    let row : List ℕ = k ∷ [] in
    record {
      steps = suc way.steps;
      rows = way.rows ++ row ∷ [];
      from = m₁;
      at = next;
      flat = rw way.flat (sym (flattened_more way.rows row));
      runs_on = λ n.
          ap (λ (j : ℕ). runs j own m₀ ev₀ []) (omega arith)
          ∙ (way.runs_on (suc n) ∙ (one_more way.from way.at way.rows k (suc n) (sym way.last.does) ∙ ap (λ (m : List ℕ). runs (suc n) own m next (way.rows ++ row ∷ [])) (sym way.last.leaves)));
      last = t;
    }

-- THE END
ends_done : (m : List ℕ) (ev : Event) (rs : List (List ℕ)) → (own.step m ev).act ≡ done → runs 1 own m ev rs ≡ ran (own.step m ev).memory rs 0
unfolding runs one_act
ends_done m ev rs is = rw is

ends_refused : (m : List ℕ) (ev : Event) (rs : List (List ℕ)) (why : Refusal) → (own.step m ev).act ≡ refused (refusal_number why) →
    runs 1 own m ev rs ≡ ran (own.step m ev).memory rs (refusal_number why)
unfolding runs one_act
ends_refused m ev rs why is =
    let t : leb 1 (refusal_number why) && ltb (refusal_number why) 1000 ≡ true = rw is at (own_fine m ev) in
    rw (is, t)

pub way_done : (m₀ : List ℕ) (ev₀ : Event) (m₁ shown : List ℕ) → Way m₀ ev₀ Done m₁ shown → Went m₀ ev₀ m₁ shown (Ok tt)
unfolding Went
way_done m₀ ev₀ m₁ shown way = (
  way.steps + 1,
  way.rows,
  way.flat,
  way.runs_on 0 ∙ (ends_done way.from way.at way.rows (sym way.last.does) ∙ ap (λ (m : List ℕ). ran m way.rows 0) (sym way.last.leaves)),
)

pub way_refused : (m₀ : List ℕ) (ev₀ : Event) (why : Refusal) (m₁ shown : List ℕ) → Way m₀ ev₀ (Refused why) m₁ shown → Went m₀ ev₀ m₁ shown (Err why)
unfolding Went
way_refused m₀ ev₀ why m₁ shown way = (
  way.steps + 1,
  way.rows,
  way.flat,
  way.runs_on 0 ∙ (ends_refused way.from way.at way.rows why (sym way.last.does) ∙ ap (λ (m : List ℕ). ran m way.rows (refusal_number why)) (sym way.last.leaves)),
)

-- a way whose last step was no row has ended
pub way_ends : (m₀ : List ℕ) (ev₀ : Event) (a : code.Act) (m₁ shown : List ℕ) → ((n : ℕ) → a ≡ Shows n → ⊥) → Way m₀ ev₀ a m₁ shown → (e : End) × Went m₀ ev₀ m₁ shown e
way_ends m₀ ev₀ (Shows n) m₁ shown never way = absurd (never n refl)
way_ends m₀ ev₀ Done m₁ shown never way = (Ok tt, way_done m₀ ev₀ m₁ shown way)
way_ends m₀ ev₀ (Refused why) m₁ shown never way = (Err why, way_refused m₀ ev₀ why m₁ shown way)

-- the records that are left, while rows are shown
abbrev pub still : code.Act → List ℕ → ℕ
still (Shows n) m = suc (get_or m at_left 0)
still Done m = 0
still (Refused why) m = 0

pub still_falls : (n : ℕ) (m : List ℕ) (a : code.Act) (m₁ : List ℕ) → length m ≡ memory_length → Takes a m₁ (own.step m next) → still a m₁ < still (Shows n) m
unfolding Fewer
still_falls n m (Shows k) m₁ long t =
    let f : get_or (own.step m next).memory at_left 0 < get_or m at_left 0 = next_fewer m long (k ∷ []) (sym t.does) in
    let e = t.leaves in
    rw e (omega arith)
still_falls n m Done m₁ long t = omega arith
still_falls n m (Refused why) m₁ long t = omega arith

-- the way with what was done last named anew
pub way_named : (m₀ : List ℕ) (ev₀ : Event) (a b : code.Act) (m₁ shown : List ℕ) → a ≡ b → Way m₀ ev₀ a m₁ shown → Way m₀ ev₀ b m₁ shown
way_named m₀ ev₀ a b m₁ shown e way = subst (λ (d : code.Act). Way m₀ ev₀ d m₁ shown) e way

-- what is neither a row nor a refusal is the end
pub only_done : (a : code.Act) → ((n : ℕ) → a ≡ Shows n → ⊥) → ((why : Refusal) → a ≡ Refused why → ⊥) → a ≡ Done
only_done (Shows n) f g = absurd (f n refl)
only_done Done f g = refl
only_done (Refused why) f g = absurd (g why refl)
