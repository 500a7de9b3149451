-- What the code's values stand for. Assumes nothing: these are definitions.
use Rattle.std.specs.Prelude.{◌≡◌, true, false}
use Rattle.plane.specs.Corners.{Corner, corner, left_turn, right_turn, in_line}
use Rattle.plane.specs.Edges.{Edge, edge}
use Rattle.plane.specs.declared.corner.Corner as coded_corner
use Rattle.plane.specs.declared.edge.Edge as coded_edge
use Rattle.plane.specs.declared.turning.Turn.{Turn}
use Rattle.plane.specs.declared.turning.Turn.TheVariants.{Left, Right, Straight}

abbrev pub at : coded_corner.Corner → Corner
at c = corner c.x c.y

abbrev pub along : coded_edge.Edge → Edge
along e = edge (at e.one) (at e.other)

-- from a over b to c it turns so: one of the three tests holds, and the others don't
abbrev pub TurnsSo : Corner → Corner → Corner → Turn → Type 0
TurnsSo a b c Left = (left_turn a b c ≡ true) × (right_turn a b c ≡ false) × (in_line a b c ≡ false)
TurnsSo a b c Right = (left_turn a b c ≡ false) × (right_turn a b c ≡ true) × (in_line a b c ≡ false)
TurnsSo a b c Straight = (left_turn a b c ≡ false) × (right_turn a b c ≡ false) × (in_line a b c ≡ true)
