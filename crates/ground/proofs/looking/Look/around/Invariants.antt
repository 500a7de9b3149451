use Rattle.std.proofs.Common.{◌≡◌}
use Rattle.plane.specs.Lists.{every}
use Rattle.plane.specs.Sights.{near_edge}
use Rattle.ground.specs.Rows.{near_corner, shape_of}
use Rattle.ground.specs.Looks.{point, look_of}
use Rattle.ground.specs.Walks.{edges_left}
use Rattle.ground.proofs.Looks.{seen}
use Rattle.ground.proofs.looking.Look.around.Given as goal

-- with the edges that are left all is seen; the corners are in range if those edges are
abbrev pub invariant-loop-edge : goal.invariant-loop-edge
invariant-loop-edge l =
    (seen (point l.fn.point.a l.fn.point.b l.fn.point.w) l.look (edges_left l.edge-iterator) ≡ look_of (shape_of l.row) (point l.fn.point.a l.fn.point.b l.fn.point.w))
    × (every near_edge (edges_left l.edge-iterator) ≡ every near_corner (shape_of l.row))
