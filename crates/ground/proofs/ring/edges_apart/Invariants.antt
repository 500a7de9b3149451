use Rattle.std.proofs.Common.{◌≡◌, ◌+◌, length}
use Rattle.plane.specs.Code.{along}
use Rattle.ground.specs.Rows.{shape_of}
use Rattle.ground.specs.Shapes.{edges}
use Rattle.ground.specs.Walks.{edges_left}
use Rattle.ground.proofs.Pairs.{Fitted}
use Rattle.ground.proofs.ring.edges_apart.Given as goal

abbrev pub invariant-loop-next : goal.invariant-loop-next
invariant-loop-next l =
    Fitted (edges (shape_of l.row)) l.first (along l.edge) (edges_left l.rest) (along l.last)
    × (l.first + 1 + length (edges_left l.rest) ≡ length (edges (shape_of l.row)))

abbrev pub decreases-loop-next : goal.decreases-loop-next
decreases-loop-next l = length (edges_left l.rest)
