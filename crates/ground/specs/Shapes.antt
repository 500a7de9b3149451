-- Which rows of corners are grounds, and which points they have. Assumes nothing: these are definitions.
use Rattle.std.specs.Prelude.{ℕ, ◌-◌, ◌*◌, ◌%◌, Bool, true, false, not, ◌&&◌, List, [], ◌∷◌, length, ◌==◌, nat_le, nat_lt}
use Rattle.plane.specs.Lists.{or, every, any, those, added_up}
use Rattle.plane.specs.Corners.{Corner, corner, same_corner}
use Rattle.plane.specs.Edges.{Edge, edge, grown_edge, on_edge, rises, falls, meet}

-- a point is px / w, py / w, for w of at least 1
pub record Point : Type 0 where
  pub px : ℕ
  pub py : ℕ
  pub w : ℕ

abbrev pub a_point : Point → Bool
a_point p = nat_le 1 p.w

-- a row of corners; which rows are grounds `a_shape` says
abbrev pub Shape : Type 0
Shape = List Corner

-- an edge goes from each corner to the next, and from the last one to the first
unfoldable pub edges_from : Corner → Corner → List Corner → List Edge
edges_from f a [] = edge a f ∷ []
edges_from f a (b ∷ bs) = edge a b ∷ edges_from f b bs

unfoldable pub edges : Shape → List Edge
edges [] = []
edges (a ∷ as₁) = edges_from a a as₁

-- A POINT AND A SHAPE: all made w times as large, the point is a corner
abbrev pub as_corner : Point → Corner
as_corner p = corner p.px p.py

abbrev pub on_border : Shape → Point → Bool
on_border s p = any (λ e. on_edge (grown_edge p.w e) (as_corner p)) (edges s)

-- how many edges the line crosses that goes from the point straight to the east
abbrev pub crossings : Shape → Point → ℕ
crossings s p = length (those (λ e. or (rises (grown_edge p.w e) (as_corner p)) (falls (grown_edge p.w e) (as_corner p))) (edges s))

-- within the border: an odd number of crossings
abbrev pub inside : Shape → Point → Bool
inside s p = crossings s p % 2 == 1 && not (on_border s p)

-- a ground has the points inside it and those of its border
abbrev pub in_shape : Shape → Point → Bool
in_shape s p = or (inside s p) (on_border s p)

-- WHICH SHAPES THERE ARE: 3 to 256 corners, no two edges meet but neighbours, in their corner, and there they don't lie on each other; gone round to the left

-- neighbours: the end of the one begins the other, and nothing else of them meets
abbrev pub neighbours_fine : Edge → Edge → Bool
neighbours_fine e f =
    same_corner e.other f.one && (not (on_edge e f.other) && (not (on_edge f e.one) && not (same_corner e.one e.other)))

unfoldable pub clear_of : Edge → List Edge → Bool
clear_of e [] = true
clear_of e (f ∷ fs) = not (meet e f) && clear_of e fs

unfoldable pub last_edge : Edge → List Edge → Edge
last_edge e [] = e
last_edge e (f ∷ fs) = last_edge f fs

unfoldable pub all_but_last : List Edge → List Edge
all_but_last [] = []
all_but_last (e ∷ []) = []
all_but_last (e ∷ f ∷ fs) = e ∷ all_but_last (f ∷ fs)

-- of a row of edges each is a fine neighbour of the next, and meets none of those after that
unfoldable pub path_clear : List Edge → Bool
path_clear [] = true
path_clear (e ∷ []) = true
path_clear (e ∷ f ∷ fs) = neighbours_fine e f && (clear_of e fs && path_clear (f ∷ fs))

-- a row of edges that closes: the first edge meets the last only in the first corner
unfoldable pub ring_clear : List Edge → Bool
ring_clear [] = false
ring_clear (e ∷ []) = false
ring_clear (e ∷ f ∷ fs) =
    (neighbours_fine e f && clear_of e (all_but_last fs)) && (neighbours_fine (last_edge f fs) e && path_clear (f ∷ fs))

abbrev pub left_sum : Shape → ℕ
left_sum s = added_up (λ e. e.one.x * e.other.y) (edges s)

abbrev pub right_sum : Shape → ℕ
right_sum s = added_up (λ e. e.one.y * e.other.x) (edges s)

abbrev pub twice_area : Shape → ℕ
twice_area s = left_sum s - right_sum s

-- a ground: corners below 2^20; gone round to the left, its area is above 0
abbrev pub a_shape : Shape → Bool
a_shape s =
    ((nat_le 3 (length s) && nat_le (length s) 256) && every (λ c. nat_lt c.x 1048576 && nat_lt c.y 1048576) s)
    && (ring_clear (edges s) && nat_lt (right_sum s) (left_sum s))
