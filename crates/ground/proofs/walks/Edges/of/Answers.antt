use Rattle.std.proofs.Common.{ap, ◌∙◌}
use Rattle.plane.specs.Code.{at}
use Rattle.ground.specs.Shapes.{edges}
use Rattle.ground.specs.Walks.{corners_left, ring_from}
use Rattle.ground.proofs.Around.{ring_all}
use Rattle.ground.proofs.walks.Edges.of.Goals as goal

pub returns : goal.returns
returns c =
    ap (λ f. ring_from c.next-first.result (at f) (corners_left c.next-first.new.self)) c.unwrap_or-one.ensures
    ∙ ring_all c.next-first.result _ _ _ c.next-first.ensures.steps ∙ ap edges c.of-rest.ensures
