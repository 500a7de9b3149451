-- Which rows of numbers are grounds, and why the others are none. Assumes nothing: these are definitions.
use Rattle.std.specs.Prelude.{◌≡◌, ℕ, ◌+◌, ◌-◌, ◌%◌, ◌<◌, ◌≤◌, Bool, true, false, not, ◌&&◌, List, length, ◌==◌, nat_le, nat_lt, slice_index_or}
use Rattle.plane.specs.Lists.{pick, every}
use Rattle.plane.specs.Corners.{Corner, corner}
use Rattle.plane.specs.Edges.{Edge, edge, meet}
use Rattle.ground.specs.Shapes.{Shape, edges, neighbours_fine, ring_clear, left_sum, right_sum, a_shape}
use Rattle.ground.specs.Rows.{near_corner, shape_of}
use Rattle.ground.specs.declared.refusal.NoGround.{NoGround}
use Rattle.ground.specs.declared.refusal.NoGround.TheVariants.{Odd, TooFew, TooMany, OutOfRange, EdgesMeet, Clockwise}

-- no number is left over, and the corners are a ground
abbrev pub is_ground : List ℕ → Bool
is_ground row = length row % 2 == 0 && a_shape (shape_of row)

-- gone round to the left: the area is above 0
abbrev pub goes_left : Shape → Bool
goes_left s = nat_lt (right_sum s) (left_sum s)

-- a row whose area can be told: no number is left over or out of range, there are 256 corners at most, and it is gone round to the left
abbrev pub has_area : List ℕ → Bool
has_area row = (length row % 2 == 0 && nat_le (length row) 512) && (every near_corner (shape_of row) && goes_left (shape_of row))

-- CORNERS AND EDGES BY NUMBER, from 1: an edge has the number of the corner that it starts from
abbrev pub corner_numbered : Shape → ℕ → Corner
corner_numbered s k = slice_index_or s (k - 1) (corner 0 0)

abbrev pub numbered : List Edge → ℕ → Edge
numbered es k = slice_index_or es (k - 1) (edge (corner 0 0) (corner 0 0))

-- of the edges i and j, i < j, of a ring: neighbours have their one corner in common, others nothing
abbrev pub fit_together : List Edge → ℕ → ℕ → Bool
fit_together es i j =
    pick (j == i + 1) (neighbours_fine (numbered es i) (numbered es j))
    (pick (i == 1 && j == length es) (neighbours_fine (numbered es j) (numbered es i)) (not (meet (numbered es i) (numbered es j))))

-- k is the first corner out of range
pub record FirstFar (s : Shape) (k : ℕ) : Type 0 where
  pub from_one : 1 ≤ k
  pub among : k ≤ length s
  pub far : near_corner (corner_numbered s k) ≡ false
  pub before : (j : ℕ) → 1 ≤ j → j < k → near_corner (corner_numbered s j) ≡ true

-- i and j are the first two edges that do not fit together
pub record FirstMeeting (es : List Edge) (i j : ℕ) : Type 0 where
  pub from_one : 1 ≤ i
  pub in_order : i < j
  pub among : j ≤ length es
  pub misfit : fit_together es i j ≡ false
  pub before : (k l : ℕ) → 1 ≤ k → k < i → k < l → l ≤ length es → fit_together es k l ≡ true
  pub between : (l : ℕ) → i < l → l < j → fit_together es i l ≡ true

-- WHAT IS WRONG, in the order in which it is looked for: the earlier faults are not there
abbrev pub WholeCorners : List ℕ → Type 0
WholeCorners row = length row % 2 ≡ 0

abbrev pub WellSized : List ℕ → Type 0
WellSized row = WholeCorners row × (3 ≤ length (shape_of row)) × (length (shape_of row) ≤ 256)

abbrev pub InRange : List ℕ → Type 0
InRange row = WellSized row × (every near_corner (shape_of row) ≡ true)

unfoldable pub Wrong : List ℕ → NoGround → Type 0
Wrong row Odd = length row % 2 ≡ 1
Wrong row TooFew = WholeCorners row × (length (shape_of row) < 3)
Wrong row TooMany = WholeCorners row × (256 < length (shape_of row))
Wrong row (OutOfRange k) = WellSized row × FirstFar (shape_of row) k
Wrong row (EdgesMeet i j) = InRange row × FirstMeeting (edges (shape_of row)) i j
Wrong row Clockwise = InRange row × (ring_clear (edges (shape_of row)) ≡ true) × (left_sum (shape_of row) ≤ right_sum (shape_of row))

-- the row is no ground, and this is why
abbrev pub Refuses : List ℕ → NoGround → Type 0
Refuses row why = (is_ground row ≡ false) × Wrong row why
