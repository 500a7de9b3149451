-- Open paths over corners: the edges of a ring but for the last one, which closes it. Assumes nothing: these are definitions.
use Rattle.std.specs.Prelude.{◌≡◌, ℕ, ◌<◌, Bool, true, false, not, List, [], ◌∷◌, length, ◌==◌, slice_index_or}
use Rattle.plane.specs.Lists.{pick}
use Rattle.plane.specs.Corners.{Corner, corner}
use Rattle.plane.specs.Edges.{Edge, edge, meet}
use Rattle.ground.specs.Shapes.{Shape, neighbours_fine}

-- from a corner over the others to the last
unfoldable pub path : Corner → Shape → List Edge
path a [] = []
path a (b ∷ bs) = edge a b ∷ path b bs

-- so many edges of a path come before the first that meets e
pub record FirstMet (e : Edge) (es : List Edge) (k : ℕ) : Type 0 where
  pub among : k < length es
  pub met : meet e (slice_index_or es k (edge (corner 0 0) (corner 0 0))) ≡ true
  pub before : (j : ℕ) → j < k → meet e (slice_index_or es j (edge (corner 0 0) (corner 0 0))) ≡ false

-- the i-th edge and the last one: the first edge is the last one's neighbour
abbrev pub fits_last : ℕ → Edge → Edge → Bool
fits_last i e z = pick (i == 1) (neighbours_fine z e) (not (meet e z))
