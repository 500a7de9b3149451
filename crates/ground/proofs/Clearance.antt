-- A ground's edges two by two: they don't meet, or are neighbours that have one corner in common. So a point amid an edge is on no other, and none crosses another
-- over.
use Rattle.std.proofs.Common.{◌≡◌, ℕ, ◌*◌, ◌≤◌, Bool, true, false, not, ◌&&◌, eqb, ◌⊎◌, List, [], ◌∷◌, ◌++◌, sym, refl, ap, ◌∙◌, ap₂, inl, inr, ⊎_elim}
use Rattle.std.proofs.lemmas.Bool.{and_parts, and_from, and_left, and_right, not-true, eqb-true}
use Rattle.plane.specs.Lists.{or, every}
use Rattle.plane.specs.Corners.{Corner, corner, grown, same_corner, in_line}
use Rattle.plane.specs.Edges.{Edge, edge, grown_edge, on_edge, cross_over, meet}
use Rattle.plane.specs.Parity.{touches}
use Rattle.plane.proofs.Booleans.{false_from, not_both, or_left, or_right, or_comm, or_cases, or_parts}
use Rattle.plane.proofs.Lists.{In, every_at, in_right}
use Rattle.plane.proofs.Sides.{on_edge_parts}
use Rattle.plane.proofs.Reversal.{parts, parts_by_reversed, cross_over_comm, meet_comm, on_edge_reversed}
use Rattle.plane.proofs.Crossings.{one_on, parts_off}
use Rattle.plane.proofs.Growth.{on_edge_grown, met_grown}
use Rattle.plane.proofs.Neighbours.{neighbour_off}
use Rattle.ground.specs.Shapes.{neighbours_fine, clear_of, last_edge, all_but_last, path_clear, ring_clear}

-- two edges that may stand in one ground: they don't meet, or the one is a fine neighbour of the other
abbrev pub fine : Edge → Edge → Bool
fine e f = or (not (meet e f)) (or (neighbours_fine e f) (neighbours_fine f e))

-- it is mutual
pub fine_comm : (e f : Edge) → fine e f ≡ fine f e
fine_comm e f = ap₂ (λ a b. or (not a) b) (meet_comm e f) (or_comm (neighbours_fine e f) (neighbours_fine f e))

-- edges that don't meet are fine, and so are fine neighbours
fine_apart : (e f : Edge) → not (meet e f) ≡ true → fine e f ≡ true
fine_apart e f h = or_left (not (meet e f)) (or (neighbours_fine e f) (neighbours_fine f e)) h

fine_next : (e f : Edge) → neighbours_fine e f ≡ true → fine e f ≡ true
fine_next e f h = or_right (not (meet e f)) (or (neighbours_fine e f) (neighbours_fine f e)) (or_left (neighbours_fine e f) (neighbours_fine f e) h)

-- each element stands so to every one behind it
unfoldable pub pairwise : {A : Type 0} → (A → A → Bool) → List A → Bool
pairwise r [] = true
pairwise r (x ∷ xs) = every (r x) xs && pairwise r xs

-- THE EDGES OF A GROUND ARE PAIRWISE FINE
-- an edge that is clear of a row, and a row of edges that is clear
clear_fine : (e : Edge) (fs : List Edge) → clear_of e fs ≡ true → every (fine e) fs ≡ true
unfolding clear_of every
clear_fine e [] h = refl
clear_fine e (f ∷ fs) h =
    let p = and_parts (not (meet e f)) (clear_of e fs) h in
    and_from (fine e f) (every (fine e) fs) (fine_apart e f p.0) (clear_fine e fs p.1)

path_fine : (es : List Edge) → path_clear es ≡ true → pairwise fine es ≡ true
unfolding path_clear pairwise every
path_fine [] h = refl
path_fine (e ∷ []) h = refl
path_fine (e ∷ f ∷ fs) h =
    let p = and_parts (neighbours_fine e f) (clear_of e fs && path_clear (f ∷ fs)) h in
    let q = and_parts (clear_of e fs) (path_clear (f ∷ fs)) p.1 in
    and_from (fine e f && every (fine e) fs) (pairwise fine (f ∷ fs)) (and_from (fine e f) (every (fine e) fs) (fine_next e f p.0) (clear_fine e fs q.0))
    (path_fine (f ∷ fs) q.1)

-- what holds of all but the last, and of the last
pub last_too : (g : Edge → Bool) (f : Edge) (fs : List Edge) → every g (all_but_last fs) ≡ true → g (last_edge f fs) ≡ true → every g fs ≡ true
unfolding every all_but_last last_edge
last_too g f [] h k = refl
last_too g f (e ∷ []) h k = and_from (g e) true k refl
last_too g f (e ∷ e₁ ∷ es) h k =
    let p = and_parts (g e) (every g (all_but_last (e₁ ∷ es))) h in
    and_from (g e) (every g (e₁ ∷ es)) p.0 (last_too g e (e₁ ∷ es) p.1 k)

-- so a ring that is clear
pub ring_fine : (es : List Edge) → ring_clear es ≡ true → pairwise fine es ≡ true
unfolding ring_clear pairwise every
ring_fine [] h = refl
ring_fine (e ∷ []) h = refl
ring_fine (e ∷ f ∷ fs) h =
    let p = and_parts (neighbours_fine e f && clear_of e (all_but_last fs)) (neighbours_fine (last_edge f fs) e && path_clear (f ∷ fs)) h in
    let q = and_parts (neighbours_fine e f) (clear_of e (all_but_last fs)) p.0 in
    let r = and_parts (neighbours_fine (last_edge f fs) e) (path_clear (f ∷ fs)) p.1 in
    and_from (fine e f && every (fine e) fs) (pairwise fine (f ∷ fs))
    (and_from (fine e f) (every (fine e) fs) (fine_next e f q.0)
    (last_too (fine e) f fs (clear_fine e (all_but_last fs) q.1) (fine_comm e (last_edge f fs) ∙ fine_next (last_edge f fs) e r.0)))
    (path_fine (f ∷ fs) r.1)

-- ONE EDGE AND THE OTHERS
-- what stands pairwise so, and the same from both sides: one element to those before it and to those behind it
pub pairwise_around : {A : Type 0} (r : A → A → Bool) → ((x y : A) → r x y ≡ r y x) → (before : List A) (x : A) (after : List A) →
    pairwise r (before ++ x ∷ after) ≡ true → ((y : A) → In y before → r x y ≡ true) × ((y : A) → In y after → r x y ≡ true)
unfolding pairwise
pairwise_around r comm [] x after h = ((λ y m. absurd m), (λ y m. every_at (r x) y after m (and_parts (every (r x) after) (pairwise r after) h).0))
pairwise_around {A} r comm (z ∷ zs) x after h =
    let p = and_parts (every (r z) (zs ++ x ∷ after)) (pairwise r (zs ++ x ∷ after)) h in
    let rest = pairwise_around r comm zs x after p.1 in
    let here = comm x z ∙ every_at (r z) x (zs ++ x ∷ after) (in_right x zs (x ∷ after) (inl refl)) p.0 in
    ((λ y m. ⊎_elim (λ e. ap (r x) e ∙ here) (λ n. rest.0 y n) m), rest.1)

-- an element, with what stands before it and behind it
pub split_in : {A : Type 0} (x : A) (xs : List A) → In x xs → (before : List A) × (after : List A) × (xs ≡ before ++ x ∷ after)
split_in x [] m = absurd m
split_in x (y ∷ ys) (inl e) = ([], ys, ap (λ z. z ∷ ys) (sym e))
split_in x (y ∷ ys) (inr m) = let w = split_in x ys m in (y ∷ w.0, w.1, ap (◌∷◌ y) w.2)

-- A POINT AMID AN EDGE
-- corners with the same coordinates are one
pub one_corner : (a b : Corner) → same_corner a b ≡ true → a ≡ b
one_corner a b h =
    let p = and_parts (eqb a.x b.x) (eqb a.y b.y) h in
    ap₂ corner (eqb-true a.x b.x p.0) (eqb-true a.y b.y p.1)

-- neighbours have a corner in common, and the other end of neither is on the other
pub neighbours_parts : (e f : Edge) → neighbours_fine e f ≡ true → (e.other ≡ f.one) × (on_edge e f.other ≡ false) × (on_edge f e.one ≡ false)
neighbours_parts e f h =
    let p = and_parts (same_corner e.other f.one) (not (on_edge e f.other) && (not (on_edge f e.one) && not (same_corner e.one e.other))) h in
    let q = and_parts (not (on_edge e f.other)) (not (on_edge f e.one) && not (same_corner e.one e.other)) p.1 in
    let r = and_parts (not (on_edge f e.one)) (not (same_corner e.one e.other)) q.1 in
    (one_corner e.other f.one p.0, not-true (on_edge e f.other) q.0, not-true (on_edge f e.one) r.0)

module _ (w : ℕ) (above : 1 ≤ w) (m : Corner) where
  -- where neither of a b and b d has an end on the other, a point of a b that is not b is not on b d
  joined_off : (a b d : Corner) → on_edge (grown_edge w (edge a b)) m ≡ true → (m.x ≡ w * b.x → m.y ≡ w * b.y → ⊥) → on_edge (edge a b) d ≡ false →
      on_edge (edge b d) a ≡ false → on_edge (grown_edge w (edge b d)) m ≡ false
  joined_off a b d here off far back =
      neighbour_off (grown w a) (grown w b) (grown w d) m here off (on_edge_grown w above (edge a b) d ∙ far) (on_edge_grown w above (edge b d) a ∙ back)

  module _ (e : Edge) (here : on_edge (grown_edge w e) m ≡ true) where
    -- the neighbour behind
    off_next : (m.x ≡ w * e.other.x → m.y ≡ w * e.other.y → ⊥) → (f : Edge) → neighbours_fine e f ≡ true → on_edge (grown_edge w f) m ≡ false
    off_next off f h =
        let p = neighbours_parts e f h in
        let joint = ap (λ c. edge c f.other) p.0 in
        sym (ap (λ t. on_edge (grown_edge w t) m) joint)
        ∙ joined_off e.one e.other f.other here off p.1 (ap (λ t. on_edge t e.one) joint ∙ p.2)

    -- the neighbour before
    off_last : (m.x ≡ w * e.one.x → m.y ≡ w * e.one.y → ⊥) → (f : Edge) → neighbours_fine f e ≡ true → on_edge (grown_edge w f) m ≡ false
    off_last off f h =
        let p = neighbours_parts f e h in
        let joint = ap (λ c. edge c f.one) (sym p.0) in
        sym (on_edge_reversed (grown_edge w f) m) ∙ sym (ap (λ t. on_edge (grown_edge w t) m) joint)
        ∙ joined_off e.other e.one f.one (on_edge_reversed (grown_edge w e) m ∙ here) off (on_edge_reversed e f.one ∙ p.2)
        (ap (λ t. on_edge t e.other) joint ∙ on_edge_reversed f e.other ∙ p.1)

    -- what doesn't meet the edge
    off_unmet : (f : Edge) → meet e f ≡ false → on_edge (grown_edge w f) m ≡ false
    off_unmet f apart = false_from (on_edge (grown_edge w f) m) (λ there. not_both (meet e f) (met_grown w above e f m here there) apart)

    -- ALONE: all made w times as large, a point of an edge that is neither end is on no edge that may stand with it in one ground
    pub alone : (m.x ≡ w * e.one.x → m.y ≡ w * e.one.y → ⊥) → (m.x ≡ w * e.other.x → m.y ≡ w * e.other.y → ⊥) → (f : Edge) → fine e f ≡ true → on_edge (grown_edge w f) m ≡ false
    alone off_one off_other f h =
        ⊎_elim (λ k. off_unmet f (not-true (meet e f) k))
        (λ k. ⊎_elim (λ l. off_next off_other f l) (λ l. off_last off_one f l) (or_cases (neighbours_fine e f) (neighbours_fine f e) k))
        (or_cases (not (meet e f)) (or (neighbours_fine e f) (neighbours_fine f e)) h)

-- NO EDGE OF A GROUND CROSSES ANOTHER OVER
-- an edge does not cross itself over
self_uncrossed : (e : Edge) → cross_over e e ≡ false
self_uncrossed e = and_left (parts e e) (parts e e) (parts_off e e.one e.other (on_edge_parts e e.one (one_on e)).0)

-- nor do neighbours
next_uncrossed : (e f : Edge) → neighbours_fine e f ≡ true → cross_over e f ≡ false
next_uncrossed e f h =
    and_right (parts e f) (parts f e)
    (sym (parts_by_reversed f e)
    ∙ parts_off f e.other e.one (ap (in_line f.one f.other) (neighbours_parts e f h).0 ∙ (on_edge_parts f f.one (one_on f)).0))

fine_uncrossed : (e f : Edge) → fine e f ≡ true → cross_over e f ≡ false
fine_uncrossed e f h =
    ⊎_elim (λ k. (or_parts (cross_over e f) (touches f.one f.other e) (not-true (meet e f) k)).0)
    (λ k.
    ⊎_elim (next_uncrossed e f) (λ l. cross_over_comm e f ∙ next_uncrossed f e l)
    (or_cases (neighbours_fine e f) (neighbours_fine f e) k))
    (or_cases (not (meet e f)) (or (neighbours_fine e f) (neighbours_fine f e)) h)

-- of what stands pairwise so, two elements are one or stand so
pairwise_two : {A : Type 0} (r : A → A → Bool) → ((x y : A) → r x y ≡ r y x) → (xs : List A) → pairwise r xs ≡ true → (x y : A) → In x xs → In y xs →
    (x ≡ y) ⊎ (r x y ≡ true)
unfolding pairwise
pairwise_two r comm [] h x y i j = absurd i
pairwise_two r comm (z ∷ zs) h x y (inl d) (inl e) = inl (d ∙ sym e)
pairwise_two r comm (z ∷ zs) h x y (inl d) (inr j) = inr (ap (λ u. r u y) d ∙ every_at (r z) y zs j (and_parts (every (r z) zs) (pairwise r zs) h).0)
pairwise_two r comm (z ∷ zs) h x y (inr i) (inl e) =
    inr (comm x y ∙ ap (λ u. r u x) e ∙ every_at (r z) x zs i (and_parts (every (r z) zs) (pairwise r zs) h).0)
pairwise_two r comm (z ∷ zs) h x y (inr i) (inr j) = pairwise_two r comm zs (and_parts (every (r z) zs) (pairwise r zs) h).1 x y i j

pub ring_uncrossed : (es : List Edge) → ring_clear es ≡ true → (e f : Edge) → In e es → In f es → cross_over e f ≡ false
ring_uncrossed es clear e f i j =
    ⊎_elim (λ d. ap (cross_over e) (sym d) ∙ self_uncrossed e) (fine_uncrossed e f)
    (pairwise_two fine fine_comm es (ring_fine es clear) e f i j)
