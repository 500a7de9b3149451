-- A listing: from record to record, step by step, it shows the numbers of the grounds that have the point, and no others.
use Rattle.std.proofs.Common.{◌≡◌, ℕ, zero, suc, ◌<◌, ◌≤◌, true, false, eqb, List, [], ◌∷◌, ◌++◌, length, get_or, drop, sym, refl, ap, ◌∙◌, subst, append_assoc, append-nil, arith}
use Rattle.std.proofs.lemmas.Bool.{and_parts, eq-eqb, ne_eqb}
use Rattle.plane.specs.Lists.{pick, every, those, each}
use Rattle.plane.proofs.Booleans.{pick_true, pick_false}
use Rattle.ground.specs.Shapes.{Point, a_point, in_shape, a_shape}
use Rattle.map.specs.House.{Kept, Map}
use Rattle.map.specs.Promise.{Event, next, done, Step, Ran, one_act, runs}
use Rattle.map.specs.Sizes.{memory_length, head_length, at_cursor, at_left, at_a, at_b, at_w}
use Rattle.map.specs.Memory.{number_at, behind, whole_at, has_at, listed, scan, opened, closed}
use Rattle.map.specs.Machine.{no, stepped, point, small_point, tell_step, next_step, acts, own}
use Rattle.map.proofs.Recorded.{encoded, number_here, behind_here, drop_behind, whole_here, has_here}
use Rattle.map.proofs.Sought.{first_record}
use Rattle.map.proofs.Changing.{opened_length, opened_cursor, opened_left, opened_a, opened_b, opened_w, opened_behind}
use Rattle.map.proofs.Holding.{Holds, closed_holds, opened_holds}

-- what becomes of a step: it ends, or it is gone on with for n steps more
abbrev pub goes : ℕ → List (List ℕ) → Step → Ran
goes n ss st = one_act (λ m₁ ss₁. runs n own m₁ next ss₁) ss st.memory st.act

-- a memory of the machine's own length takes the machine's steps
pub own_step : (m : List ℕ) (ev : Event) → length m ≡ memory_length → own.step m ev ≡ acts m ev
unfolding own
own_step m ev h = pick_true (eqb (length m) memory_length) (acts m ev) (no m 1) (eq-eqb (length m) memory_length h)

pub runs_on : (n : ℕ) (m : List ℕ) (ev : Event) (ss : List (List ℕ)) → length m ≡ memory_length → runs (suc n) own m ev ss ≡ goes n ss (acts m ev)
unfolding runs
runs_on n m ev ss h = ap (goes n ss) (own_step m ev h)

-- a point in range is a point
small_point_w : (v : Point) → small_point v ≡ true → a_point v ≡ true
small_point_w v s = (and_parts _ _ (and_parts _ _ s).0).0

-- an open listing goes on where its cursor stands, with the point that it was opened for
pub next_opened : (m : List ℕ) (p n : ℕ) (v : Point) → head_length ≤ length m → 0 < p → small_point v ≡ true
    → acts (opened m p n v) next ≡ tell_step (opened m p n v) v (scan (opened m p n v) v n p)
unfolding acts next_step
next_opened m p n v h q s =
    let o : List ℕ = opened m p n v in
    let cursor = opened_cursor m p n v h in
    let back : point (get_or o at_a 0) (get_or o at_b 0) (get_or o at_w 0) ≡ v =
    ap (λ a. point a (get_or o at_b 0) (get_or o at_w 0)) (opened_a m p n v h)
    ∙ ap (λ b. point v.px b (get_or o at_w 0)) (opened_b m p n v h)
    ∙ ap (λ w. point v.px v.py w) (opened_w m p n v h) in
    let further : ℕ → ℕ → Step = λ j c. tell_step o v (scan o v j c) in
    ap (next_step o) back
    ∙ pick_false (eqb (get_or o at_cursor 0) 0) (stepped o done) (pick (small_point v) (further (get_or o at_left 0) (get_or o at_cursor 0)) (stepped (closed o) done)) (ne_eqb (get_or o at_cursor 0) 0 (omega arith))
    ∙ pick_true (small_point v) (further (get_or o at_left 0) (get_or o at_cursor 0)) (stepped (closed o) done) s
    ∙ ap (λ j. further j (get_or o at_cursor 0)) (opened_left m p n v h)
    ∙ ap (further n) cursor

-- a listing came to its end: the map is as it was
pub record ListedSo (k : Map) (ss : List (List ℕ)) (r : Ran) : Type 0 where
  pub holds : Holds r.memory k
  pub shown : r.showed ≡ ss
  pub ended : r.end ≡ 0

-- the numbers of the grounds that have the point, in a row each
abbrev pub rows : Point → Map → List (List ℕ)
rows v ks = each (λ k. k.id ∷ []) (those (λ k. in_shape k.shape v) ks)

-- the first of several records that are looked at: it is found if its ground has the point
scan_first : (m : List ℕ) (v : Point) (p : ℕ) (l : Kept) (ls : Map) (rest : List ℕ) → a_point v ≡ true → a_shape l.shape ≡ true → drop p m ≡ encoded (l ∷ ls) ++ rest
    → scan m v (suc (length ls)) p ≡ pick (in_shape l.shape v) (listed true p (length ls)) (scan m v (length ls) (behind m p))
unfolding scan
scan_first m v p l ls rest av al h =
    let here = first_record m p l ls rest h in
    pick_true (whole_at m p) (pick (has_at m p v) (listed true p (length ls)) (scan m v (length ls) (behind m p))) (listed false p 0) (whole_here m p l (encoded ls ++ rest) here)
    ∙ ap (λ t. pick t (listed true p (length ls)) (scan m v (length ls) (behind m p))) (has_here m p l (encoded ls ++ rest) here al v av)

-- from any record on: what is left is looked at, and each ground that has the point is shown
pub lists : (v : Point) → small_point v ≡ true → (k ls : Map) (m : List ℕ) (p n : ℕ) (ss : List (List ℕ)) (rest : List ℕ) → Holds m k → head_length ≤ p
    → drop p m ≡ encoded ls ++ rest → every (λ l. a_shape l.shape) ls ≡ true → length ls ≤ n → ListedSo k (ss ++ rows v ls) (goes n ss (tell_step m v (scan m v (length ls) p)))
unfolding every those each scan tell_step one_act
lists v sv k [] m p n ss rest h low at al few = record { holds = closed_holds h; shown = sym (append-nil ss); ended = refl }
lists v sv k (l ∷ ls) m p zero ss rest h low at al few = absurd (omega arith)
lists v sv k (l ∷ ls) m p (suc n) ss rest h low at al few =
    let here = first_record m p l ls rest at in
    let q : ℕ = behind m p in
    let o : List ℕ = opened m q (length ls) v in
    let shapes = and_parts (a_shape l.shape) (every (λ j. a_shape j.shape) ls) al in
    let within : head_length ≤ length m = omega (arith, h.long) in
    let beyond : head_length ≤ q = omega (arith, behind_here m p l (encoded ls ++ rest) here) in
    let later = drop_behind m p l (encoded ls ++ rest) here in
    let long : length o ≡ memory_length = opened_length m q (length ls) v within ∙ h.long in
    let row : List (List ℕ) = (l.id ∷ []) ∷ [] in
    let same : ss ++ (number_at m p ∷ []) ∷ [] ≡ ss ++ row = ap (λ i. ss ++ (i ∷ []) ∷ []) (number_here m p l (encoded ls ++ rest) here) in
    let hit : ListedSo k (ss ++ row ++ rows v ls) (runs (suc n) own o next (ss ++ (number_at m p ∷ []) ∷ [])) =
    subst (ListedSo k (ss ++ row ++ rows v ls))
    (sym (ap (runs (suc n) own o next) same ∙ runs_on n o next (ss ++ row) long ∙ ap (goes n (ss ++ row)) (next_opened m q (length ls) v within (omega arith) sv)))
    (lists v sv k ls o q n (ss ++ row) rest (opened_holds q (length ls) v h) beyond (opened_behind m q (length ls) v within q beyond ∙ later) shapes.1 (omega arith)) in
    let missed = lists v sv k ls m q (suc n) ss rest h beyond later shapes.1 (omega arith) in
    subst (λ x. ListedSo k (ss ++ rows v (l ∷ ls)) (goes (suc n) ss (tell_step m v x))) (sym (scan_first m v p l ls rest (small_point_w v sv) shapes.0 at))
    (elim (in_shape l.shape v) as
    (λ t. ListedSo k (ss ++ each (λ j. j.id ∷ []) (pick t (l ∷ those (λ j. in_shape j.shape v) ls) (those (λ j. in_shape j.shape v) ls)))
    (goes (suc n) ss (tell_step m v (pick t (listed true p (length ls)) (scan m v (length ls) q)))))
    [ true ↦ subst (λ rs. ListedSo k rs (runs (suc n) own o next (ss ++ (number_at m p ∷ []) ∷ []))) (append_assoc ss row (rows v ls)) hit | false ↦ missed ])
