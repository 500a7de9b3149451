-- A clear ring is clear from whichever edge it is begun; so each of its edges may stand first.
use Rattle.std.proofs.Common.{◌≡◌, true, not, ◌&&◌, List, [], ◌∷◌, ◌++◌, refl, ap, ◌∙◌}
use Rattle.std.proofs.lemmas.Bool.{and_parts, and_from}
use Rattle.plane.specs.Edges.{Edge, meet}
use Rattle.plane.proofs.Reversal.{meet_comm}
use Rattle.ground.specs.Shapes.{neighbours_fine, clear_of, last_edge, all_but_last, path_clear, ring_clear}

-- ONE EDGE MORE AT THE END
all_but_last_push : (es : List Edge) (e : Edge) → all_but_last (es ++ e ∷ []) ≡ es
unfolding all_but_last
all_but_last_push [] e = refl
all_but_last_push (f ∷ []) e = refl
all_but_last_push (f ∷ g ∷ fs) e = ap (◌∷◌ f) (all_but_last_push (g ∷ fs) e)

-- the edge pushed is the last
last_edge_push : (f : Edge) (es : List Edge) (e : Edge) → last_edge f (es ++ e ∷ []) ≡ e
unfolding last_edge
last_edge_push f [] e = refl
last_edge_push f (g ∷ es) e = last_edge_push g es e

-- an edge clear of the others and of the new one
clear_push : (f : Edge) (es : List Edge) (e : Edge) → clear_of f es ≡ true → not (meet f e) ≡ true → clear_of f (es ++ e ∷ []) ≡ true
unfolding clear_of
clear_push f [] e h k = and_from (not (meet f e)) true k refl
clear_push f (g ∷ es) e h k =
    let p = and_parts (not (meet f g)) (clear_of f es) h in
    and_from (not (meet f g)) (clear_of f (es ++ e ∷ [])) p.0 (clear_push f es e p.1 k)

-- an edge behind a clear path, which the last one leads to and none of the others meets
path_push : (f : Edge) (es : List Edge) (e : Edge) → path_clear (f ∷ es) ≡ true → clear_of e (all_but_last (f ∷ es)) ≡ true →
    neighbours_fine (last_edge f es) e ≡ true →
    path_clear (f ∷ es ++ e ∷ []) ≡ true
unfolding path_clear clear_of all_but_last last_edge
path_push f [] e path clear joined = and_from (neighbours_fine f e) true joined refl
path_push f (g ∷ es) e path clear joined =
    let p = and_parts (neighbours_fine f g) (clear_of f es && path_clear (g ∷ es)) path in
    let q = and_parts (clear_of f es) (path_clear (g ∷ es)) p.1 in
    let c = and_parts (not (meet e f)) (clear_of e (all_but_last (g ∷ es))) clear in
    and_from (neighbours_fine f g) (clear_of f (es ++ e ∷ []) && path_clear (g ∷ es ++ e ∷ [])) p.0
    (and_from (clear_of f (es ++ e ∷ [])) (path_clear (g ∷ es ++ e ∷ [])) (clear_push f es e q.0 (ap not (meet_comm f e) ∙ c.0))
    (path_push g es e q.1 c.1 joined))

-- THE RING FROM ITS SECOND EDGE ON
-- what a clear ring of three edges and more says of the first two
pub record Begun (e f g : Edge) (es : List Edge) : Type 0 where
  pub first : neighbours_fine e f ≡ true
  pub apart : clear_of e (all_but_last (g ∷ es)) ≡ true
  pub back : neighbours_fine (last_edge g es) e ≡ true
  pub second : neighbours_fine f g ≡ true
  pub clear : clear_of f es ≡ true
  pub rest : path_clear (g ∷ es) ≡ true

-- its parts
pub ring_begun : (e f g : Edge) (es : List Edge) → ring_clear (e ∷ f ∷ g ∷ es) ≡ true → Begun e f g es
unfolding ring_clear path_clear last_edge
ring_begun e f g es h =
    let p = and_parts (neighbours_fine e f && clear_of e (all_but_last (g ∷ es))) (neighbours_fine (last_edge g es) e && path_clear (f ∷ g ∷ es)) h in
    let q = and_parts (neighbours_fine e f) (clear_of e (all_but_last (g ∷ es))) p.0 in
    let r = and_parts (neighbours_fine (last_edge g es) e) (path_clear (f ∷ g ∷ es)) p.1 in
    let t = and_parts (neighbours_fine f g) (clear_of f es && path_clear (g ∷ es)) r.1 in
    let u = and_parts (clear_of f es) (path_clear (g ∷ es)) t.1 in
    record { first = q.0; apart = q.1; back = r.0; second = t.0; clear = u.0; rest = u.1 }

-- begun at the second edge, with the first one last, it is clear
pub ring_turned : (e f g : Edge) (es : List Edge) → ring_clear (e ∷ f ∷ g ∷ es) ≡ true → ring_clear (f ∷ g ∷ es ++ e ∷ []) ≡ true
unfolding ring_clear
ring_turned e f g es h =
    let p = ring_begun e f g es h in
    and_from (neighbours_fine f g && clear_of f (all_but_last (es ++ e ∷ [])))
    (neighbours_fine (last_edge g (es ++ e ∷ [])) f && path_clear (g ∷ es ++ e ∷ []))
    (and_from (neighbours_fine f g) (clear_of f (all_but_last (es ++ e ∷ []))) p.second (ap (clear_of f) (all_but_last_push es e) ∙ p.clear))
    (and_from (neighbours_fine (last_edge g (es ++ e ∷ [])) f) (path_clear (g ∷ es ++ e ∷ []))
    (ap (λ x. neighbours_fine x f) (last_edge_push g es e) ∙ p.first)
    (path_push g es e p.rest p.apart p.back))
