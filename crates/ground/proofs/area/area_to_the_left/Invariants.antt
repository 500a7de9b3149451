use Rattle.std.proofs.Common.{◌≡◌, ◌+◌, ◌*◌}
use Rattle.plane.specs.Lists.{added_up}
use Rattle.ground.specs.Shapes.{left_sum, right_sum}
use Rattle.ground.specs.Rows.{shape_of}
use Rattle.ground.specs.Walks.{edges_left}
use Rattle.ground.proofs.area.area_to_the_left.Given as goal

-- with the products of the edges that are left, both sums are those of the ring
abbrev pub invariant-loop-edge : goal.invariant-loop-edge
invariant-loop-edge l =
    (l.sums.left + added_up (λ e. e.one.x * e.other.y) (edges_left l.edge-iterator) ≡ left_sum (shape_of l.row))
    × (l.sums.right + added_up (λ e. e.one.y * e.other.x) (edges_left l.edge-iterator) ≡ right_sum (shape_of l.row))
