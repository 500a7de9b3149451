-- On which side of its edges a ground lies. Each statement is a type. Assumes nothing.
use Rattle.std.specs.Prelude.{◌≡◌, ℕ, ◌%◌, ◌≤◌, true, false, not, ◌⊎◌, ◌==◌}
use Rattle.std.specs.List.{AllByRecursion}
use Rattle.plane.specs.Corners.{Corner, grown, left_turn, right_turn}
use Rattle.plane.specs.Edges.{Edge, edge, grown_edge, meet}
use Rattle.plane.specs.Orientation.{upward, amid}
use Rattle.ground.specs.Shapes.{Point, a_point, Shape, edges, as_corner, crossings, inside, in_shape, a_shape}

-- Amid an edge of a ground the line to the east crosses an odd number of edges if the edge goes down, or is level and goes east: what is just east of the point,
-- or just above it, is inside then.
unfoldable pub AmidOdd : Type 0
AmidOdd =
    (s : Shape) (p : Point) → a_shape s ≡ true → a_point p ≡ true →
    AllByRecursion (λ e. amid (grown_edge p.w e) (as_corner p) ≡ true → (crossings s p % 2 == 1) ≡ not (upward e)) (edges s)

-- the point that is the corner when all is made w times as large
abbrev pub point_at : ℕ → Corner → Point
point_at w c = record { px = c.x; py = c.y; w = w }

-- beside the edge e, all made w times as large: q, seen from p amid e, with no other edge between
abbrev pub Beside : Shape → ℕ → Edge → Corner → Corner → Type 0
Beside s w e p q = (amid (grown_edge w e) p ≡ true) × AllByRecursion (λ f. (f ≡ e) ⊎ (meet (grown_edge w f) (edge p q) ≡ false)) (edges s)

-- A ground is on the left hand of each of its edges: what is beside an edge is inside if it is on the left, and outside if it is on the right.
unfoldable pub LeftHand : Type 0
LeftHand =
    (s : Shape) (w : ℕ) (p q : Corner) → a_shape s ≡ true → 1 ≤ w →
    AllByRecursion (λ e. Beside s w e p q →
    (left_turn (grown w e.one) (grown w e.other) q ≡ true → inside s (point_at w q) ≡ true)
    × (right_turn (grown w e.one) (grown w e.other) q ≡ true → in_shape s (point_at w q) ≡ false)) (edges s)
