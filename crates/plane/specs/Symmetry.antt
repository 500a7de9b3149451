-- What does not depend on the order in which corners and edges are named. Each is a statement, a type. Assumes nothing.
use Rattle.std.specs.Prelude.{◌≡◌}
use Rattle.plane.specs.Corners.{Corner, left_turn, right_turn, in_line}
use Rattle.plane.specs.Edges.{Edge, meet}

-- Three corners turn the same way, whichever of them is the first.
unfoldable pub TurnCycles : Type 0
TurnCycles =
    (a b c : Corner) → (left_turn b c a ≡ left_turn a b c) × (right_turn b c a ≡ right_turn a b c) × (in_line b c a ≡ in_line a b c)

-- Gone backwards, they turn the other way.
unfoldable pub TurnReverses : Type 0
TurnReverses =
    (a b c : Corner) → (left_turn c b a ≡ right_turn a b c) × (right_turn c b a ≡ left_turn a b c) × (in_line c b a ≡ in_line a b c)

-- If an edge meets another, that one meets it.
unfoldable pub MeetsBothWays : Type 0
MeetsBothWays = (e f : Edge) → meet e f ≡ meet f e
