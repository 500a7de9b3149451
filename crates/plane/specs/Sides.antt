-- On which sides of one edge the ends of another lie. Assumes nothing: these are definitions.
use Rattle.std.specs.Prelude.{Bool, ◌&&◌}
use Rattle.plane.specs.Lists.{or}
use Rattle.plane.specs.Corners.{left_turn, right_turn}
use Rattle.plane.specs.Edges.{Edge}

-- the ends of f lie on the two sides of e
abbrev pub parts : Edge → Edge → Bool
parts e f =
    or (left_turn e.one e.other f.one && right_turn e.one e.other f.other)
    (right_turn e.one e.other f.one && left_turn e.one e.other f.other)

-- both ends of f lie on the one side of e
abbrev pub leaves_aside : Edge → Edge → Bool
leaves_aside e f =
    or (left_turn e.one e.other f.one && left_turn e.one e.other f.other)
    (right_turn e.one e.other f.one && right_turn e.one e.other f.other)
