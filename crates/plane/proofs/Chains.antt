-- Closed lists of edges: what keeps them closed.
use Rattle.std.proofs.Common.{ℕ, List, [], ◌∷◌, ◌++◌, sym, refl, ap, ◌∙◌}
use Rattle.plane.specs.Lists.{each}
use Rattle.plane.specs.Corners.{Corner, grown}
use Rattle.plane.specs.Edges.{Edge, edge, grown_edge}
use Rattle.plane.specs.Parity.{xor, xors, changes, Closed}
use Rattle.plane.proofs.Booleans.{xor_self, xor_false_right, xor_comm, xor_assoc, xor_through}
use Rattle.plane.proofs.Xors.{xors_same, xors_append, xors_turned, xors_each}

-- the edge between the images of the ends
abbrev pub moved : (Corner → Corner) → Edge → Edge
moved g e = edge (g e.one) (g e.other)

-- the edge gone the other way
abbrev pub reversed : Edge → Edge
reversed e = edge e.other e.one

pub closed_none : Closed []
unfolding xors
closed_none f = refl

-- two closed lists together
pub closed_append : (es fs : List Edge) → Closed es → Closed fs → Closed (es ++ fs)
closed_append es fs c d f = let p = c f in let q = d f in let r = xors_append (changes f) es fs in cc

-- what is left of a closed list when a closed part is taken away
pub closed_rest : (es fs : List Edge) → Closed (es ++ fs) → Closed es → Closed fs
closed_rest es fs c d f = let p = c f in let q = d f in let r = xors_append (changes f) es fs in cc

-- begun at another edge
pub closed_turned : (es fs : List Edge) → Closed (es ++ fs) → Closed (fs ++ es)
closed_turned es fs c f = xors_turned (changes f) fs es ∙ c f

-- every corner moved, whichever way
pub closed_moved : (g : Corner → Corner) (es : List Edge) → Closed es → Closed (each (moved g) es)
closed_moved g es c f = xors_each (changes f) (moved g) es ∙ c (λ a. f (g a))

-- made w times as large
pub closed_grown : (w : ℕ) (es : List Edge) → Closed es → Closed (each (grown_edge w) es)
closed_grown w es c = closed_moved (grown w) es c

-- every edge gone the other way
pub closed_reversed : (es : List Edge) → Closed es → Closed (each reversed es)
closed_reversed es c f =
    xors_each (changes f) reversed es ∙ xors_same (λ e. changes f (reversed e)) (changes f) es (λ e. xor_comm (f e.other) (f e.one)) ∙ c f

-- an edge cut at any corner
pub closed_cut : (a b c : Corner) (es : List Edge) → Closed (edge a c ∷ es) → Closed (edge a b ∷ edge b c ∷ es)
unfolding xors
closed_cut a b c es h f = sym (xor_assoc (xor (f a) (f b)) (xor (f b) (f c)) (xors (changes f) es)) ∙ ap (λ t. xor t (xors (changes f) es)) (xor_through (f a) (f b) (f c)) ∙ h f

-- an edge there and back
pub closed_back : (a b : Corner) → Closed (edge a b ∷ edge b a ∷ [])
unfolding xors
closed_back a b f = ap (xor (xor (f a) (f b))) (xor_false_right (xor (f b) (f a))) ∙ xor_through (f a) (f b) (f a) ∙ xor_self (f a)
