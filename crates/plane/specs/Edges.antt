-- Edges: what lies on one, what two have in common, and which edges a line to the east crosses. Assumes nothing: these are definitions.
use Rattle.std.specs.Prelude.{ℕ, Bool, ◌&&◌, nat_le, nat_lt}
use Rattle.plane.specs.Lists.{or}
use Rattle.plane.specs.Corners.{Corner, grown, left_turn, right_turn, in_line, between}

-- an edge goes from one corner to the other
pub record Edge : Type 0 where
  pub one : Corner
  pub other : Corner

abbrev pub edge : Corner → Corner → Edge
edge a b = record { one = a; other = b }

abbrev pub grown_edge : ℕ → Edge → Edge
grown_edge w e = edge (grown w e.one) (grown w e.other)

-- the corner is a point of the edge, its ends among them
abbrev pub on_edge : Edge → Corner → Bool
on_edge e c = in_line e.one e.other c && (between e.one.x e.other.x c.x && between e.one.y e.other.y c.y)

-- does an edge cross the line that goes from the corner straight to the east? The lower end counts, the upper one doesn't, and a level edge never does
abbrev pub rises : Edge → Corner → Bool
rises e c = (nat_le e.one.y c.y && nat_lt c.y e.other.y) && left_turn e.one e.other c

abbrev pub falls : Edge → Corner → Bool
falls e c = (nat_le e.other.y c.y && nat_lt c.y e.one.y) && right_turn e.one e.other c

-- each edge has its ends on the two sides of the other: they have one point in common, which is an end of neither
abbrev pub cross_over : Edge → Edge → Bool
cross_over e f =
    or (left_turn e.one e.other f.one && right_turn e.one e.other f.other) (right_turn e.one e.other f.one && left_turn e.one e.other f.other)
    && or (left_turn f.one f.other e.one && right_turn f.one f.other e.other) (right_turn f.one f.other e.one && left_turn f.one f.other e.other)

-- two edges have a point in common
abbrev pub meet : Edge → Edge → Bool
meet e f = or (cross_over e f) (or (or (on_edge e f.one) (on_edge e f.other)) (or (on_edge f e.one) (on_edge f e.other)))
