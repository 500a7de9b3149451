-- Which way an edge goes, and what is amid it. Assumes nothing: these are definitions.
use Rattle.std.specs.Prelude.{Bool, not, ◌&&◌, ◌==◌, nat_lt}
use Rattle.plane.specs.Lists.{or}
use Rattle.plane.specs.Corners.{Corner, same_corner}
use Rattle.plane.specs.Edges.{Edge, on_edge}

-- the edge goes up, or is level and goes west: what is just east of it, or just above it, is on its right
abbrev pub upward : Edge → Bool
upward e = or (nat_lt e.one.y e.other.y) (e.one.y == e.other.y && nat_lt e.other.x e.one.x)

-- p is on the edge and none of its ends
abbrev pub amid : Edge → Corner → Bool
amid e p = on_edge e p && (not (same_corner e.one p) && not (same_corner e.other p))
