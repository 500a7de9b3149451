use Rattle.std.proofs.Common.{refl, ap, ◌∙◌}
use Rattle.plane.specs.Corners.{corner}
use Rattle.ground.specs.Rows.{near_corner}
use Rattle.relate.specs.Rings.{as_corners}
use Rattle.relate.proofs.Rings.{last_near}
use Rattle.relate.proofs.ring.Ring.edges.Goals as goal

pub invariant_of-result : goal.invariant_of-result
invariant_of-result c =
    let ring = c.args.self.now in
    record { one_near = ap near_corner c.last_corner.ensures ∙ last_near (corner 0 0) (as_corners ring.corners.now) refl ring.near; rest_near = ring.near }
