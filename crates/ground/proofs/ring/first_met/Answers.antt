use Rattle.std.proofs.Common.{◌≡◌, true, false, List, Option, ℕ, Some, None, MatchOption, inl, refl, arith, rules}
use Rattle.std.proofs.lemmas.Iterator.{IsFirst-from_position}
use Rattle.std.proofs.lemmas.Iterator.Consumers.{YieldsList-from_first}
use Rattle.plane.specs.Code.{along}
use Rattle.plane.specs.Corners.{corner}
use Rattle.plane.specs.Edges.{Edge, edge}
use Rattle.ground.specs.Shapes.{clear_of}
use Rattle.ground.specs.Paths.{FirstMet}
use Rattle.ground.specs.Walks.{edges_left}
use Rattle.ground.proofs.Fronts.{FailsAt, fails_first}
use Rattle.ground.proofs.Paths.{unmet, clear_more, clear_none, first_met}
use Rattle.ground.proofs.ring.first_met.Goals as goal

pub position-requires-clause-fits : goal.position-requires-clause-fits
position-requires-clause-fits c = inl (omega (arith, c.requires))

found : (e : Edge) (es : List Edge) (r : Option ℕ) → MatchOption r (clear_of e es ≡ true) (λ k. FailsAt (unmet e) (clear_of e) (edge (corner 0 0) (corner 0 0)) es k) →
    MatchOption r (clear_of e es ≡ true) (λ k. FirstMet e es k)
found e es None h = h
found e es (Some k) h = first_met e es k h

pub returns : goal.returns
returns c =
    let e = along c.args.e in
    let es = edges_left c.args.others in
    found e es c.position.result
    (fails_first (unmet e) (clear_of e) (clear_none e) (clear_more e) (edge (corner 0 0) (corner 0 0)) es c.position.result
    (IsFirst-from_position c.position.new.self _ c.position.result (λ y. unmet e y ≡ false) (λ y. unmet e y ≡ true) c.position.ensures.ran
    (YieldsList-from_first along edges_left es refl) (λ x q k. search rules) (λ x q k. search rules)))
