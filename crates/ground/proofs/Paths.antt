-- Paths of edges over the corners of a row.
use Rattle.std.proofs.Common.{◌≡◌, ℕ, Bool, true, not, ◌&&◌, List, [], ◌∷◌, refl}
use Rattle.plane.specs.Corners.{corner}
use Rattle.plane.specs.Edges.{Edge, edge, meet}
use Rattle.ground.specs.Shapes.{clear_of}
use Rattle.ground.specs.Paths.{FirstMet}
use Rattle.ground.proofs.Fronts.{FailsAt}
use Rattle.std.proofs.lemmas.Bool.{not-true, not-false}

-- THE EDGES of a path one by one, up to the first that is met
abbrev pub unmet : Edge → Edge → Bool
unmet e f = not (meet e f)

pub clear_more : (e f : Edge) (fs : List Edge) → clear_of e (f ∷ fs) ≡ (unmet e f && clear_of e fs)
unfolding clear_of
clear_more e f fs = refl

pub clear_none : (e : Edge) → clear_of e [] ≡ true
unfolding clear_of
clear_none e = refl

pub first_met : (e : Edge) (es : List Edge) (k : ℕ) → FailsAt (unmet e) (clear_of e) (edge (corner 0 0) (corner 0 0)) es k → FirstMet e es k
first_met e es k h =
    record { among = h.among; met = not-false _ h.fails; before = λ j b. not-true _ (h.before j b) }
