-- How two grounds lie, told by finitely many points: a point on each edge just after each corner that lies on it. Assumes nothing: these are definitions.
use Rattle.std.specs.Prelude.{ℕ, ◌+◌, ◌*◌, Bool, true, false, not, ◌&&◌, ◌++◌, ◌==◌}
use Rattle.plane.specs.Lists.{pick, any}
use Rattle.plane.specs.Corners.{Corner}
use Rattle.plane.specs.Edges.{Edge, grown_edge, on_edge, meet}
use Rattle.plane.specs.Parity.{xor, xors, crosses}
use Rattle.ground.specs.Shapes.{Point, Shape, edges, as_corner}
use Rattle.ground.specs.Statements.{crossing}

-- the line from the point to the east crosses an odd number of edges. Beside the border that says whether the point is inside; on it, whether a point just to
-- the east of it is
abbrev pub raw : Shape → Point → Bool
raw s p = xors (λ e. crosses (grown_edge p.w e) (as_corner p)) (edges s)

-- the corner is on the edge, the edge is not level, and goes on after the corner
abbrev pub starts : Edge → Corner → Bool
starts e u = on_edge e u && not (u.y == e.other.y)

-- the point just after the corner, on the way to the edge's end: no corner lies between the two, since coordinates are below 2^20
abbrev pub sample : Edge → Corner → Point
sample e u = record { px = 1048575 * u.x + e.other.x; py = 1048575 * u.y + e.other.y; w = 1048576 }

-- at that point the two grounds have the parities i and j
abbrev pub shows : Shape → Shape → Bool → Bool → Edge → Corner → Bool
shows s t i j e u = starts e u && (not (xor i (raw s (sample e u))) && not (xor j (raw t (sample e u))))

-- so it is at some sample, of the edges of both and the corners of both
unfoldable pub seen : Shape → Shape → Bool → Bool → Bool
seen s t i j = any (λ e. any (shows s t i j e) (s ++ t)) (edges s ++ edges t)

-- an edge of the one has a point in common with an edge of the other
unfoldable pub meeting : Shape → Shape → Bool
meeting s t = any (λ e. any (meet e) (edges t)) (edges s)

-- THE WAY: 0 apart; 1 they touch; 2 the first is within the other; 3 the other is within the first; 4 they're the same; 5 they lie over each other
unfoldable pub way_of : Shape → Shape → ℕ
way_of s t =
    pick (crossing s t) 5
    (pick (seen s t true true)
    (pick (seen s t true false) (pick (seen s t false true) 5 3) (pick (seen s t false true) 2 4))
    (pick (meeting s t) 1 0))
