-- Edges that may stand in one ground may do so grown, and in the mirror; and no edge of a ground is a single corner.
use Rattle.std.proofs.Common.{◌≡◌, ℕ, ◌≤◌, Bool, true, not, ◌&&◌, eqb, List, [], ◌∷◌, refl, ap, ◌∙◌, ap₂}
use Rattle.std.proofs.lemmas.Bool.{and_parts, and_from, false≢true, eq-eqb, not-true}
use Rattle.plane.specs.Lists.{or, every, each}
use Rattle.plane.specs.Corners.{Corner, same_corner, left_turn, right_turn}
use Rattle.plane.specs.Edges.{Edge, grown_edge, on_edge, meet}
use Rattle.plane.proofs.Booleans.{and_comm, or_comm, not_both}
use Rattle.plane.proofs.Lists.{In, every_at, every_each, every_same}
use Rattle.plane.proofs.Turns.{mirrored}
use Rattle.plane.proofs.Chains.{moved}
use Rattle.plane.proofs.Reversal.{parts}
use Rattle.plane.proofs.Northward.{on_edge_mirrored}
use Rattle.plane.proofs.Growth.{meet_grown, on_edge_grown, same_corner_grown}
use Rattle.ground.specs.Shapes.{neighbours_fine, clear_of, last_edge, all_but_last, path_clear, ring_clear}
use Rattle.ground.proofs.Clearance.{fine, pairwise, last_too}

-- images that stand to each other as the elements do stand pairwise as they do
pub pairwise_each : {A : Type 0} (r : A → A → Bool) (g : A → A) → ((x y : A) → r (g x) (g y) ≡ r x y) → (xs : List A) → pairwise r (each g xs) ≡ pairwise r xs
unfolding pairwise each
pairwise_each r g same [] = refl
pairwise_each r g same (x ∷ xs) =
    ap₂ ◌&&◌ (every_each (r (g x)) g xs ∙ every_same (λ y. r (g x) (g y)) (r x) xs (same x)) (pairwise_each r g same xs)

-- what `fine` asks, of edges that are moved in such a way that these tests stay
fine_kept : (g : Edge → Edge) → ((e f : Edge) → meet (g e) (g f) ≡ meet e f) → ((e f : Edge) → neighbours_fine (g e) (g f) ≡ neighbours_fine e f) → (e f : Edge) →
    fine (g e) (g f) ≡ fine e f
fine_kept g met next e f = ap₂ or (ap not (met e f)) (ap₂ or (next e f) (next f e))

-- GROWN
pub fine_grown : (k : ℕ) → 1 ≤ k → (e f : Edge) → fine (grown_edge k e) (grown_edge k f) ≡ fine e f
fine_grown k above = fine_kept (grown_edge k) (meet_grown k above) next
  where
    next : (e f : Edge) → neighbours_fine (grown_edge k e) (grown_edge k f) ≡ neighbours_fine e f
    next e f =
        ap₂ ◌&&◌ (same_corner_grown k above e.other f.one)
        (ap₂ ◌&&◌ (ap not (on_edge_grown k above e f.other))
        (ap₂ ◌&&◌ (ap not (on_edge_grown k above f e.one)) (ap not (same_corner_grown k above e.one e.other))))

-- IN THE MIRROR
parts_mirrored : (e f : Edge) → parts (moved mirrored e) (moved mirrored f) ≡ parts e f
parts_mirrored e f =
    or_comm (right_turn e.one e.other f.one && left_turn e.one e.other f.other)
    (left_turn e.one e.other f.one && right_turn e.one e.other f.other)

-- edges meet in the mirror as they do
meet_mirrored : (e f : Edge) → meet (moved mirrored e) (moved mirrored f) ≡ meet e f
meet_mirrored e f =
    ap₂ or (ap₂ ◌&&◌ (parts_mirrored e f) (parts_mirrored f e))
    (ap₂ or (ap₂ or (on_edge_mirrored e f.one) (on_edge_mirrored e f.other)) (ap₂ or (on_edge_mirrored f e.one) (on_edge_mirrored f e.other)))

-- and corners are the same
same_corner_mirrored : (a b : Corner) → same_corner (mirrored a) (mirrored b) ≡ same_corner a b
same_corner_mirrored a b = and_comm (eqb a.y b.y) (eqb a.x b.x)

-- so what may stand in one ground may do so in the mirror
pub fine_mirrored : (e f : Edge) → fine (moved mirrored e) (moved mirrored f) ≡ fine e f
fine_mirrored = fine_kept (moved mirrored) meet_mirrored next
  where
    next : (e f : Edge) → neighbours_fine (moved mirrored e) (moved mirrored f) ≡ neighbours_fine e f
    next e f =
        ap₂ ◌&&◌ (same_corner_mirrored e.other f.one)
        (ap₂ ◌&&◌ (ap not (on_edge_mirrored e f.other)) (ap₂ ◌&&◌ (ap not (on_edge_mirrored f e.one)) (ap not (same_corner_mirrored e.one e.other))))

-- NO EDGE OF A GROUND IS A SINGLE CORNER
abbrev pub distinct : Edge → Bool
distinct e = not (same_corner e.one e.other)

-- the first of two fine neighbours is not
neighbours_distinct : (e f : Edge) → neighbours_fine e f ≡ true → distinct e ≡ true
neighbours_distinct e f h =
    let p = and_parts (same_corner e.other f.one) (not (on_edge e f.other) && (not (on_edge f e.one) && distinct e)) h in
    let q = and_parts (not (on_edge e f.other)) (not (on_edge f e.one) && distinct e) p.1 in
    (and_parts (not (on_edge f e.one)) (distinct e) q.1).1

-- nor any edge of a clear path but the last
path_distinct : (es : List Edge) → path_clear es ≡ true → every distinct (all_but_last es) ≡ true
unfolding path_clear all_but_last every
path_distinct [] h = refl
path_distinct (e ∷ []) h = refl
path_distinct (e ∷ f ∷ fs) h =
    let p = and_parts (neighbours_fine e f) (clear_of e fs && path_clear (f ∷ fs)) h in
    and_from (distinct e) (every distinct (all_but_last (f ∷ fs))) (neighbours_distinct e f p.0)
    (path_distinct (f ∷ fs) (and_parts (clear_of e fs) (path_clear (f ∷ fs)) p.1).1)

-- in a clear ring the last has a neighbour too
pub ring_distinct : (es : List Edge) → ring_clear es ≡ true → every distinct es ≡ true
unfolding ring_clear every last_edge
ring_distinct [] h = refl
ring_distinct (e ∷ []) h = absurd (false≢true h)
ring_distinct (e ∷ f ∷ fs) h =
    let p = and_parts (neighbours_fine e f && clear_of e (all_but_last fs)) (neighbours_fine (last_edge f fs) e && path_clear (f ∷ fs)) h in
    let q = and_parts (neighbours_fine e f) (clear_of e (all_but_last fs)) p.0 in
    let r = and_parts (neighbours_fine (last_edge f fs) e) (path_clear (f ∷ fs)) p.1 in
    and_from (distinct e) (every distinct (f ∷ fs)) (neighbours_distinct e f q.0)
    (last_too distinct e (f ∷ fs) (path_distinct (f ∷ fs) r.1) (neighbours_distinct (last_edge f fs) e r.0))

-- the ends of each differ
pub ends_apart : (es : List Edge) → every distinct es ≡ true → (e : Edge) → In e es → e.one.x ≡ e.other.x → e.one.y ≡ e.other.y → ⊥
ends_apart es h e i hx hy =
    not_both (same_corner e.one e.other) (and_from _ _ (eq-eqb e.one.x e.other.x hx) (eq-eqb e.one.y e.other.y hy))
    (not-true (same_corner e.one e.other) (every_at distinct e es i h))

-- grown, they still do
pub distinct_grown : (w : ℕ) → 1 ≤ w → (es : List Edge) → every distinct (each (grown_edge w) es) ≡ every distinct es
distinct_grown w above es =
    every_each distinct (grown_edge w) es
    ∙ every_same (λ e. distinct (grown_edge w e)) distinct es (λ e. ap not (same_corner_grown w above e.one e.other))
