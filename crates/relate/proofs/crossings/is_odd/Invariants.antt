use Rattle.std.proofs.Common.{◌≡◌}
use Rattle.plane.specs.Corners.{corner}
use Rattle.plane.specs.Edges.{grown_edge}
use Rattle.plane.specs.Parity.{xor, xors, crosses}
use Rattle.ground.specs.Looks.{point}
use Rattle.relate.specs.Going.{shape_in, edges_left}
use Rattle.relate.specs.Samples.{raw}
use Rattle.relate.proofs.crossings.is_odd.Given as goal

-- the count so far, with the edges that are left, is the count of all
abbrev pub invariant-loop-near : goal.invariant-loop-near
invariant-loop-near l =
    xor l.odd (xors (λ e. crosses (grown_edge 1048576 e) (corner l.a l.b)) (edges_left l.near-iterator)) ≡ raw (shape_in l.ring) (point l.a l.b 1048576)
