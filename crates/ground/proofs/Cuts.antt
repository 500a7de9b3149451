-- A ground cut along a line from corner to corner.
use Rattle.std.proofs.Common.{◌≡◌, ℕ, ◌+◌, ◌*◌, List, [], ◌∷◌, ◌++◌, refl, ap, ◌∙◌, arith}
use Rattle.plane.specs.Lists.{added_up}
use Rattle.plane.specs.Corners.{Corner}
use Rattle.plane.specs.Edges.{Edge, edge}
use Rattle.plane.proofs.Sums.{added_up_append}
use Rattle.ground.specs.Shapes.{Shape, edges, edges_from}
use Rattle.ground.specs.Statements.{CutAdds}
use Rattle.ground.proofs.Rings.{shape_parts}

-- the way round goes over a corner: up to it, and on from there
pub edges_through : (f a b : Corner) (cs bs : List Corner) → edges_from f a (cs ++ b ∷ bs) ≡ edges_from b a cs ++ edges_from f b bs
unfolding edges_from
edges_through f a b [] bs = refl
edges_through f a b (c ∷ cs) bs = ap (◌∷◌ (edge a c)) (edges_through f c b cs bs)

-- what is added up along the edges of the whole, and of the two parts
module _ (g : Edge → ℕ) (a b : Corner) (cs bs : Shape) where
  round_whole : added_up g (edges (a ∷ cs ++ b ∷ bs)) ≡ added_up g (edges_from b a cs) + added_up g (edges_from a b bs)
  unfolding edges
  round_whole = ap (added_up g) (edges_through a a b cs bs) ∙ added_up_append g (edges_from b a cs) (edges_from a b bs)

  round_first : added_up g (edges (a ∷ cs ++ b ∷ [])) ≡ added_up g (edges_from b a cs) + (g (edge b a) + 0)
  unfolding edges edges_from added_up
  round_first = ap (added_up g) (edges_through a a b cs []) ∙ added_up_append g (edges_from b a cs) (edge b a ∷ [])

  round_second : added_up g (edges (a ∷ b ∷ bs)) ≡ g (edge a b) + added_up g (edges_from a b bs)
  unfolding edges edges_from added_up
  round_second = refl

-- the new edge is gone there and back, so it adds nothing
pub cut_adds : CutAdds
unfolding CutAdds
cut_adds a b cs bs whole first second =
    let u = (shape_parts (a ∷ cs ++ b ∷ []) first).area in
    let v = (shape_parts (a ∷ b ∷ bs) second).area in
    omega (
      arith,
      round_whole (λ e. e.one.x * e.other.y) a b cs bs,
      round_whole (λ e. e.one.y * e.other.x) a b cs bs,
      round_first (λ e. e.one.x * e.other.y) a b cs bs,
      round_first (λ e. e.one.y * e.other.x) a b cs bs,
      round_second (λ e. e.one.x * e.other.y) a b cs bs,
      round_second (λ e. e.one.y * e.other.x) a b cs bs,
    )
