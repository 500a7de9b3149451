-- The pairs of edges of a ring, in order: an edge against its neighbour, against those behind that one, and against the last.
use Rattle.std.proofs.Common.{◌≡◌, ℕ, zero, suc, ◌+◌, ◌-◌, ◌<◌, ◌≤◌, Bool, true, false, not, ◌&&◌, eqb, List, [], ◌∷◌, ◌++◌, length, get_or, drop, sym, refl, ap, ◌∙◌, subst, ⊎_elim, arith, length-drop}
use Rattle.std.proofs.lemmas.List.{get_or-drop, get_or_append_left, get_or_at, length-append}
use Rattle.std.proofs.lemmas.Bool.{eq-eqb, ne_eqb, cases_eq, and_left, and_right, and_parts, and_from}
use Rattle.plane.specs.Lists.{pick}
use Rattle.plane.proofs.Booleans.{and_assoc, and_true_right, false_from_not, false_from, not_both, pick_true, pick_false}
use Rattle.plane.specs.Corners.{corner}
use Rattle.plane.specs.Edges.{Edge, edge, meet}
use Rattle.ground.specs.Shapes.{neighbours_fine, clear_of, last_edge, all_but_last, path_clear, ring_clear}
use Rattle.ground.specs.Paths.{FirstMet, fits_last}
use Rattle.ground.specs.Refusals.{numbered, fit_together, FirstMeeting}
use Rattle.ground.proofs.Fronts.{left_at}

abbrev no_edge : Edge
no_edge = edge (corner 0 0) (corner 0 0)

-- the edge with the number i + n is the n-th of those that are left from i on
numbered_at : (es : List Edge) (i : ℕ) (xs : List Edge) → 1 ≤ i → drop (i - 1) es ≡ xs → (n : ℕ) → numbered es (i + n) ≡ get_or xs n no_edge
numbered_at es i xs one left n =
    let k : i + n - 1 ≡ (i - 1) + n = omega arith in
    ap (λ j. get_or es j no_edge) k ∙ sym (get_or-drop (i - 1) es n no_edge) ∙ ap (λ ys. get_or ys n no_edge) left

-- how two edges fit, if N says it of neighbours and M that two meet
abbrev fit_by : (N M : Edge → Edge → Bool) → List Edge → ℕ → ℕ → Bool
fit_by N M es i j =
    pick (eqb j (i + 1)) (N (numbered es i) (numbered es j))
    (pick (eqb i 1 && eqb j (length es)) (N (numbered es j) (numbered es i)) (not (M (numbered es i) (numbered es j))))

and_true : (t u : Bool) → u ≡ true → t && u ≡ t
and_true true u h = h
and_true false u h = refl

module _ (N M : Edge → Edge → Bool) (es : List Edge) (i : ℕ) (one : 1 ≤ i) (e f : Edge) (fs : List Edge) (left : drop (i - 1) es ≡ e ∷ f ∷ fs) where
  many : length es ≡ i + 1 + length fs
  many = omega (arith, length-drop (i - 1) es, ap length left)

  own : numbered es i ≡ e
  own = let k : i ≡ i + 0 = omega arith in ap (numbered es) k ∙ numbered_at es i (e ∷ f ∷ fs) one left 0

  next : numbered es (i + 1) ≡ f
  next = numbered_at es i (e ∷ f ∷ fs) one left 1

  -- an edge and the next
  fit_next : fit_by N M es i (i + 1) ≡ N e f
  fit_next = pick_true _ _ _ (eq-eqb (i + 1) (i + 1) refl) ∙ ap (λ a. N a (numbered es (i + 1))) own ∙ ap (N e) next

  -- an edge and one between the next and the last
  fit_between : (k : ℕ) → k + 1 < length fs → fit_by N M es i (i + 2 + k) ≡ not (M e (get_or fs k no_edge))
  fit_between k few =
      let there : numbered es (i + 2 + k) ≡ get_or fs k no_edge =
      let s : i + 2 + k ≡ i + suc (suc k) = omega arith in ap (numbered es) s ∙ numbered_at es i (e ∷ f ∷ fs) one left (suc (suc k)) in
      pick_false _ _ _ (ne_eqb (i + 2 + k) (i + 1) (λ h. omega arith))
      ∙ pick_false _ _ _ (and_right (eqb i 1) _ (ne_eqb (i + 2 + k) (length es) (λ h. omega (arith, many))))
      ∙ ap (λ a. not (M a (numbered es (i + 2 + k)))) own ∙ ap (λ b. not (M e b)) there

  -- an edge and the last, if that is not the next
  fit_last : (qs : List Edge) (z : Edge) → fs ≡ qs ++ z ∷ [] → fit_by N M es i (length es) ≡ pick (eqb i 1) (N z e) (not (M e z))
  fit_last qs z ends =
      let more : length fs ≡ length qs + 1 = ap length ends ∙ length-append qs (z ∷ []) in
      let end : numbered es (length es) ≡ z =
      let s : length es ≡ i + suc (suc (length qs)) = omega (arith, many) in
      ap (numbered es) s ∙ numbered_at es i (e ∷ f ∷ fs) one left (suc (suc (length qs))) ∙ ap (λ gs. get_or gs (length qs) no_edge) ends ∙ get_or_at qs z [] no_edge (length qs) refl in
      pick_false _ _ _ (ne_eqb (length es) (i + 1) (λ h. omega (arith, many)))
      ∙ ap (λ t. pick t (N (numbered es (length es)) (numbered es i)) (not (M (numbered es i) (numbered es (length es))))) (and_true (eqb i 1) _ (eq-eqb (length es) (length es) refl))
      ∙ ap (λ b. pick (eqb i 1) (N b (numbered es i)) (not (M (numbered es i) b))) end
      ∙ ap (λ a. pick (eqb i 1) (N z a) (not (M a z))) own

-- WHAT IS LEFT of a ring, from its i-th edge on: the first edge still has the last one for its neighbour
abbrev leftover : ℕ → List Edge → Bool
leftover i es = pick (eqb i 1) (ring_clear es) (path_clear es)

all_but : (qs : List Edge) (z : Edge) → all_but_last (qs ++ z ∷ []) ≡ qs
unfolding all_but_last
all_but [] z = refl
all_but (e ∷ []) z = refl
all_but (e ∷ f ∷ fs) z = ap (λ gs. e ∷ gs) (all_but (f ∷ fs) z)

last_is : (f : Edge) (qs : List Edge) (z : Edge) → last_edge f (qs ++ z ∷ []) ≡ z
unfolding last_edge
last_is f [] z = refl
last_is f (e ∷ es) z = last_is e es z

clear_push : (e : Edge) (qs : List Edge) (z : Edge) → clear_of e (qs ++ z ∷ []) ≡ clear_of e qs && not (meet e z)
unfolding clear_of
clear_push e [] z = and_true_right (not (meet e z))
clear_push e (f ∷ fs) z = ap (λ t. not (meet e f) && t) (clear_push e fs z) ∙ sym (and_assoc (not (meet e f)) (clear_of e fs) (not (meet e z)))

ring_parts : (e f : Edge) (qs : List Edge) (z : Edge) →
    ring_clear (e ∷ f ∷ qs ++ z ∷ []) ≡ ((neighbours_fine e f && clear_of e qs) && neighbours_fine z e) && path_clear (f ∷ qs ++ z ∷ [])
unfolding ring_clear
ring_parts e f qs z =
    ap (λ gs. (neighbours_fine e f && clear_of e gs) && (neighbours_fine (last_edge f (qs ++ z ∷ [])) e && path_clear (f ∷ qs ++ z ∷ []))) (all_but qs z)
    ∙ ap (λ g. (neighbours_fine e f && clear_of e qs) && (neighbours_fine g e && path_clear (f ∷ qs ++ z ∷ []))) (last_is f qs z)
    ∙ sym (and_assoc (neighbours_fine e f && clear_of e qs) (neighbours_fine z e) (path_clear (f ∷ qs ++ z ∷ [])))

path_parts : (e f : Edge) (qs : List Edge) (z : Edge) →
    path_clear (e ∷ f ∷ qs ++ z ∷ []) ≡ ((neighbours_fine e f && clear_of e qs) && not (meet e z)) && path_clear (f ∷ qs ++ z ∷ [])
unfolding path_clear
path_parts e f qs z =
    ap (λ t. neighbours_fine e f && (t && path_clear (f ∷ qs ++ z ∷ []))) (clear_push e qs z)
    ∙ sym (and_assoc (neighbours_fine e f) (clear_of e qs && not (meet e z)) (path_clear (f ∷ qs ++ z ∷ [])))
    ∙ ap (λ t. t && path_clear (f ∷ qs ++ z ∷ [])) (sym (and_assoc (neighbours_fine e f) (clear_of e qs) (not (meet e z))))

leftover_parts : (i : ℕ) (e f : Edge) (qs : List Edge) (z : Edge) →
    leftover i (e ∷ f ∷ qs ++ z ∷ []) ≡ ((neighbours_fine e f && clear_of e qs) && fits_last i e z) && path_clear (f ∷ qs ++ z ∷ [])
leftover_parts i e f qs z =
    elim (eqb i 1) as (λ t. pick t (ring_clear (e ∷ f ∷ qs ++ z ∷ [])) (path_clear (e ∷ f ∷ qs ++ z ∷ [])) ≡ ((neighbours_fine e f && clear_of e qs) && pick t (neighbours_fine z e) (not (meet e z))) && path_clear (f ∷ qs ++ z ∷ []))
    [ true ↦ ring_parts e f qs z | false ↦ path_parts e f qs z ]

-- an edge that is clear of others meets none of them, and one that meets one of them is not clear of them
clear_at : (e : Edge) (qs : List Edge) → clear_of e qs ≡ true → (k : ℕ) → k < length qs → meet e (get_or qs k no_edge) ≡ false
unfolding clear_of
clear_at e [] h k few = absurd (omega arith)
clear_at e (f ∷ fs) h zero few = false_from_not _ (and_parts _ _ h).0
clear_at e (f ∷ fs) h (suc k) few = clear_at e fs (and_parts _ _ h).1 k (omega arith)

met_at : (e : Edge) (qs : List Edge) (k : ℕ) → k < length qs → meet e (get_or qs k no_edge) ≡ true → clear_of e qs ≡ false
met_at e qs k few met = false_from (clear_of e qs) (λ h. not_both _ met (clear_at e qs h k few))

-- A RING UP TO ITS i-TH EDGE e, with the path over qs left and then the last edge z: all pairs before fit, and what is left tells
pub record Fitted (es : List Edge) (i : ℕ) (e : Edge) (qs : List Edge) (z : Edge) : Type 0 where
  pub from_one : 1 ≤ i
  pub goes_on : drop (i - 1) es ≡ e ∷ qs ++ z ∷ []
  pub tells : leftover i (e ∷ qs ++ z ∷ []) ≡ ring_clear es
  pub before : (k l : ℕ) → 1 ≤ k → k < i → k < l → l ≤ length es → fit_together es k l ≡ true

pub fitted_none : (e : Edge) (qs : List Edge) (z : Edge) → Fitted (e ∷ qs ++ z ∷ []) 1 e qs z
fitted_none e qs z = record { from_one = omega arith; goes_on = refl; tells = refl; before = λ k l a b. absurd (omega arith) }

-- the answer of a pair that does not fit
abbrev pub Misfit : List Edge → ℕ → ℕ → Type 0
Misfit es i j = (ring_clear es ≡ false) × FirstMeeting es i j

module _ (es : List Edge) (i : ℕ) (e f : Edge) (qs : List Edge) (z : Edge) (so_far : Fitted es i e (f ∷ qs) z) where
  left_many : length es ≡ i + 2 + length qs
  left_many =
      omega (arith, many neighbours_fine meet es i so_far.from_one e f (qs ++ z ∷ []) so_far.goes_on, length-append qs (z ∷ []))

  at_next : fit_together es i (i + 1) ≡ neighbours_fine e f
  at_next = fit_next neighbours_fine meet es i so_far.from_one e f (qs ++ z ∷ []) so_far.goes_on

  at_between : (k : ℕ) → k < length qs → fit_together es i (i + 2 + k) ≡ not (meet e (get_or qs k no_edge))
  at_between k few =
      fit_between neighbours_fine meet es i so_far.from_one e f (qs ++ z ∷ []) so_far.goes_on k (omega (arith, length-append qs (z ∷ [])))
      ∙ ap (λ g. not (meet e g)) (get_or_append_left qs (z ∷ []) no_edge k few)

  at_last : fit_together es i (length es) ≡ fits_last i e z
  at_last = fit_last neighbours_fine meet es i so_far.from_one e f (qs ++ z ∷ []) so_far.goes_on qs z refl

  parts : ring_clear es ≡ ((neighbours_fine e f && clear_of e qs) && fits_last i e z) && path_clear (f ∷ qs ++ z ∷ [])
  parts = sym so_far.tells ∙ leftover_parts i e f qs z

  -- up to the first of those behind the next that is met, all fit
  fit_before : (n : ℕ) → n ≤ length qs → neighbours_fine e f ≡ true → ((j : ℕ) → j < n → meet e (get_or qs j no_edge) ≡ false) →
      (l : ℕ) → i < l → l < i + 2 + n → fit_together es i l ≡ true
  fit_before n few near off l after below =
      ⊎_elim
      (λ h. subst (λ m. fit_together es i m ≡ true) (sym h) (at_next ∙ near))
      (λ h. let j : l ≡ i + 2 + (l - (i + 2)) = omega arith in
      subst (λ m. fit_together es i m ≡ true) (sym j) (at_between (l - (i + 2)) (omega arith) ∙ ap not (off (l - (i + 2)) (omega arith))))
      (cases_eq l (i + 1))

  pub unjoined : neighbours_fine e f ≡ false → Misfit es i (i + 1)
  unjoined apart = (
    parts ∙ and_left _ _ (and_left _ _ (and_left _ _ apart)),
    record { from_one = so_far.from_one; in_order = omega arith; among = omega (arith, left_many); misfit = at_next ∙ apart; before = so_far.before; between = λ l a b. absurd (omega arith) },
  )

  pub met_between : neighbours_fine e f ≡ true → (k : ℕ) → FirstMet e qs k → Misfit es i (i + 2 + k)
  met_between near k met = (
    parts ∙ and_left _ _ (and_left _ _ (and_right _ _ (met_at e qs k met.among met.met))),
    record {
      from_one = so_far.from_one;
      in_order = omega arith;
      among = omega (arith, left_many, met.among);
      misfit = at_between k met.among ∙ ap not met.met;
      before = so_far.before;
      between = fit_before k (omega (arith, met.among)) near met.before;
    },
  )

  pub met_last : neighbours_fine e f ≡ true → clear_of e qs ≡ true → fits_last i e z ≡ false → Misfit es i (length es)
  met_last near clear apart = (
    parts ∙ and_left _ _ (and_right _ _ apart),
    record {
      from_one = so_far.from_one;
      in_order = omega (arith, left_many);
      among = omega arith;
      misfit = at_last ∙ apart;
      before = so_far.before;
      between = λ l a b. fit_before (length qs) (omega arith) near (clear_at e qs clear) l a (omega (arith, left_many));
    },
  )

  fit_all : neighbours_fine e f ≡ true → clear_of e qs ≡ true → fits_last i e z ≡ true → (l : ℕ) → i < l → l ≤ length es → fit_together es i l ≡ true
  fit_all near clear ends l after within =
      ⊎_elim
      (λ h. subst (λ m. fit_together es i m ≡ true) (sym h) (at_last ∙ ends))
      (λ h. fit_before (length qs) (omega arith) near (clear_at e qs clear) l after (omega (arith, left_many)))
      (cases_eq l (length es))

  pub fitted_more : neighbours_fine e f ≡ true → clear_of e qs ≡ true → fits_last i e z ≡ true → Fitted es (i + 1) f qs z
  fitted_more near clear ends =
      record {
        from_one = omega arith;
        goes_on =
            let k : i + 1 - 1 ≡ (i - 1) + 1 = omega (arith, so_far.from_one) in
            ap (λ m. drop m es) k ∙ (left_at es (i - 1) e (f ∷ qs ++ z ∷ []) so_far.goes_on).on;
        tells =
            pick_false _ _ _ (ne_eqb (i + 1) 1 (λ h. omega (arith, so_far.from_one)))
            ∙ sym (parts ∙ ap (λ t. t && path_clear (f ∷ qs ++ z ∷ [])) (and_from _ _ (and_from _ _ near clear) ends));
        before = λ k l a b c d.
            ⊎_elim (λ h. subst (λ m. fit_together es m l ≡ true) (sym h) (fit_all near clear ends l (omega arith) d)) (λ h. so_far.before k l a (omega arith) c d) (cases_eq k i);
      }

-- at the end the last edge is the next
module _ (es : List Edge) (i : ℕ) (e z : Edge) (so_far : Fitted es i e [] z) (enough : 3 ≤ length es) where
  end_many : length es ≡ i + 1
  end_many = omega (arith, many neighbours_fine meet es i so_far.from_one e z [] so_far.goes_on)

  end_left : ring_clear es ≡ neighbours_fine e z
  unfolding path_clear clear_of
  end_left = sym so_far.tells ∙ pick_false _ _ _ (ne_eqb i 1 (λ h. omega (arith, end_many))) ∙ and_true_right (neighbours_fine e z)

  pub end_fits : neighbours_fine e z ≡ true → ring_clear es ≡ true
  end_fits near = end_left ∙ near

  pub end_unjoined : neighbours_fine e z ≡ false → Misfit es i (length es)
  end_unjoined apart = (
    end_left ∙ apart,
    record {
      from_one = so_far.from_one;
      in_order = omega (arith, end_many);
      among = omega arith;
      misfit = ap (fit_together es i) end_many ∙ fit_next neighbours_fine meet es i so_far.from_one e z [] so_far.goes_on ∙ apart;
      before = so_far.before;
      between = λ l a b. absurd (omega (arith, end_many));
    },
  )
