-- One step of the machine: what was lent for it, what it says, and the act that is told so.
use Rattle.std.proofs.Common.{◌≡◌, ℕ, ◌%◌, ◌<◌, ◌≤◌, ◌≢◌, true, false, ◌&&◌, eqb, leb, List, [], ◌∷◌, length, get_or, refl, sym, ◌∙◌, ap, subst, arith}
use Rattle.std.proofs.lemmas.List.{length-replicate}
use Rattle.std.proofs.lemmas.Bool.Decides.{nat_tests}
use Rattle.map.specs.Sizes.{memory_length}
use Rattle.terms.specs.Refusals.{refusal_number}
use Rattle.terms.specs.declared.refusal.Refusal.{Refusal}
use Rattle.map.specs.Promise as promise
use Rattle.map.specs.Promise.{Event, shows, done, refused}
use Rattle.map.specs.Machine.{own, acts}
use Rattle.map.specs.Entry.{event_of, ActTold, StepSays, step_fits, lent_fits}
use Rattle.map.specs.Asking.{handed}
use Rattle.map.specs.Code.{act_of, Takes}
use Rattle.map.specs.declared.act.Act.{Act}
use Rattle.map.specs.declared.act.Act.TheVariants as code
use Rattle.map.specs.declared.told.Told.{Told}
use Rattle.map.specs.declared.told.Told.TheVariants.{Shows, Done, No}
use Rattle.map.proofs.Going.{own_acts, own_act}

-- the memory at the start has the machine's own length
own_length : length own.start ≡ memory_length
unfolding own
own_length = length-replicate {A = ℕ} memory_length 0

-- what was lent fits: the length of the memory, the kind, an even row that is not too long, and room for what is shown
fits_is :
    (m : List ℕ) (kind : ℕ) (row out : List ℕ) →
    step_fits m kind row out ≡ eqb (length m) memory_length && (leb kind 6 && ((leb (length row) 512 && eqb (length row % 2) 0) && leb 2 (length out)))
unfolding step_fits
fits_is m kind row out = ap (λ (n : ℕ). eqb (length m) n && (leb kind 6 && ((leb (length row) 512 && eqb (length row % 2) 0) && leb 2 (length out)))) own_length

pub lent_parts : (row out : List ℕ) → lent_fits row out ≡ true → (length row ≤ 512) × (length row % 2 ≡ 0) × (2 ≤ length out)
lent_parts row out h = (grind (arith, nat_tests), grind (arith, nat_tests), grind (arith, nat_tests))

fitting : (m : List ℕ) (kind : ℕ) (row out : List ℕ) → length m ≡ memory_length → kind ≤ 6 → lent_fits row out ≡ true → step_fits m kind row out ≡ true
fitting m kind row out long known h =
    let e = fits_is m kind row out in
    let p = lent_parts row out h in
    grind (arith, nat_tests)

unknown : (m : List ℕ) (kind : ℕ) (row out : List ℕ) → 6 < kind → step_fits m kind row out ≡ false
unknown m kind row out h = let e = fits_is m kind row out in grind (arith, nat_tests)

misfit : (m : List ℕ) (kind : ℕ) (row out : List ℕ) → lent_fits row out ≡ false → step_fits m kind row out ≡ false
misfit m kind row out h = let e = fits_is m kind row out in grind (arith, nat_tests)

mislaid : (m : List ℕ) (kind : ℕ) (row out : List ℕ) → length m ≢ memory_length → step_fits m kind row out ≡ false
mislaid m kind row out h = let e = fits_is m kind row out in grind (arith, nat_tests)

-- a row that fits is handed on
whole_row : (row : List ℕ) → length row ≤ 512 → length row % 2 ≡ 0 → handed row ≡ row
whole_row row short even = grind (arith, nat_tests)

-- what does not fit is told so, and nothing is changed
told_none : (m : List ℕ) (kind a b c : ℕ) (row out : List ℕ) → step_fits m kind row out ≡ false → StepSays m kind a b c row out (step_fits m kind row out) (No 0) m out
unfolding StepSays
told_none m kind a b c row out h = rw h (refl, refl, refl)

pub no_kind : (m : List ℕ) (kind a b c : ℕ) (row out : List ℕ) → 6 < kind → StepSays m kind a b c row out (step_fits m kind row out) (No 0) m out
no_kind m kind a b c row out h = told_none m kind a b c row out (unknown m kind row out h)

pub no_room : (m : List ℕ) (kind a b c : ℕ) (row out : List ℕ) → lent_fits row out ≡ false → StepSays m kind a b c row out (step_fits m kind row out) (No 0) m out
no_room m kind a b c row out h = told_none m kind a b c row out (misfit m kind row out h)

pub no_memory : (m : List ℕ) (kind a b c : ℕ) (row out : List ℕ) → length m ≢ memory_length → StepSays m kind a b c row out (step_fits m kind row out) (No 0) m out
no_memory m kind a b c row out h = told_none m kind a b c row out (mislaid m kind row out h)

-- a step that the code takes is the machine's own
pub step_taken :
    (m : List ℕ) (kind a b c : ℕ) (row out m₁ out₁ : List ℕ) (act : Act) (r : Told) (ev : Event) →
    length m ≡ memory_length → kind ≤ 6 → lent_fits row out ≡ true → ev ≡ event_of kind a b c (handed row) →
    Takes act m₁ (acts m ev) → ActTold (act_of act) r out out₁ →
    StepSays m kind a b c row out (step_fits m kind row out) r m₁ out₁
unfolding StepSays
step_taken m kind a b c row out m₁ out₁ act r ev long known fits heard takes told =
    let p = lent_parts row out fits in
    let f = fitting m kind row out long known fits in
    let whole = whole_row row p.0 p.1 in
    let is : ev ≡ event_of kind a b c row = subst (λ (l : List ℕ). ev ≡ event_of kind a b c l) whole heard in
    let t = rw is at takes in
    let e = own_acts m (event_of kind a b c row) long in
    rw (f, ← e) (t.leaves, rw t.does at told)

-- WHAT IS TOLD, AS AN ACT
-- a step of the machine's own, as it is told
abbrev pub Stepped : List ℕ → Event → Told → (memory out out₁ : List ℕ) → Type 0
Stepped m ev r m₁ out out₁ = (m₁ ≡ (own.step m ev).memory) × ActTold (own.step m ev).act r out out₁

-- what fits is told as such a step
pub step_of :
    (m : List ℕ) (kind a b c : ℕ) (row out : List ℕ) (r : Told) (m₁ out₁ : List ℕ) (ev : Event) →
    length m ≡ memory_length → kind ≤ 6 → length row ≤ 512 → length row % 2 ≡ 0 → 2 ≤ length out → event_of kind a b c row ≡ ev →
    StepSays m kind a b c row out (step_fits m kind row out) r m₁ out₁ → Stepped m ev r m₁ out out₁
unfolding StepSays
step_of m kind a b c row out r m₁ out₁ ev long known short even room is says =
    let lent : lent_fits row out ≡ true = grind (arith, nat_tests) in
    let f = fitting m kind row out long known lent in
    let s : Stepped m (event_of kind a b c row) r m₁ out out₁ = rw f at says in
    subst (λ (e : Event). Stepped m e r m₁ out out₁) is s

row_act : (a : Act) (k : ℕ) (out out₁ : List ℕ) → ActTold (act_of a) (Shows k) out out₁ → shows (get_or out₁ 0 0 ∷ []) ≡ act_of a
unfolding ActTold
row_act (code.Shows n) k out out₁ (e, f) = ap (λ (l : List ℕ). shows (get_or l 0 0 ∷ [])) f
row_act code.Done k out out₁ (e, f) = cc
row_act (code.Refused why) k out out₁ (e, f) = cc

done_act : (a : promise.Act) (out out₁ : List ℕ) → ActTold a Done out out₁ → done ≡ a
unfolding ActTold
done_act (shows s) out out₁ (e, f) = cc
done_act done out out₁ t = refl
done_act (refused k) out out₁ (e, f) = cc

refused_act : (a : promise.Act) (k : ℕ) (out out₁ : List ℕ) → ActTold a (No k) out out₁ → refused k ≡ a
unfolding ActTold
refused_act (shows s) k out out₁ (e, f) = cc
refused_act done k out out₁ (e, f) = cc
refused_act (refused j) k out out₁ (e, f) = cc

-- a row is of one number, at the front of the row that was lent
pub takes_row : (m : List ℕ) (ev : Event) (k : ℕ) (m₁ out out₁ : List ℕ) → Stepped m ev (Shows k) m₁ out out₁ → Takes (code.Shows (get_or out₁ 0 0)) m₁ (own.step m ev)
takes_row m ev k m₁ out out₁ s =
    let w = own_act m ev in
    let t : ActTold (act_of w.0) (Shows k) out out₁ = subst (λ (a : promise.Act). ActTold a (Shows k) out out₁) (sym w.1) s.1 in
    record { leaves = s.0; does = row_act w.0 k out out₁ t ∙ w.1 }

pub takes_done : (m : List ℕ) (ev : Event) (m₁ out out₁ : List ℕ) → Stepped m ev Done m₁ out out₁ → Takes code.Done m₁ (own.step m ev)
takes_done m ev m₁ out out₁ s = record { leaves = s.0; does = done_act (own.step m ev).act out out₁ s.1 }

pub takes_refused : (m : List ℕ) (ev : Event) (k : ℕ) (why : Refusal) (m₁ out out₁ : List ℕ) → Stepped m ev (No k) m₁ out out₁ → refusal_number why ≡ k →
    Takes (code.Refused why) m₁ (own.step m ev)
takes_refused m ev k why m₁ out out₁ s e = record { leaves = s.0; does = ap (λ (n : ℕ). refused n) e ∙ refused_act (own.step m ev).act k out out₁ s.1 }

named_refusal : (a : Act) (k : ℕ) → refused k ≡ act_of a → (why : Refusal) × (refusal_number why ≡ k)
named_refusal (code.Shows n) k e = absurd (cc)
named_refusal code.Done k e = absurd (cc)
named_refusal (code.Refused why) k e = (why, (cc))

-- no other numbers are told than those of refusals
pub refusal_told : (m : List ℕ) (ev : Event) (k : ℕ) (m₁ out out₁ : List ℕ) → Stepped m ev (No k) m₁ out out₁ → (why : Refusal) × (refusal_number why ≡ k)
refusal_told m ev k m₁ out out₁ s =
    let w = own_act m ev in
    named_refusal w.0 k (refused_act (own.step m ev).act k out out₁ s.1 ∙ sym w.1)
