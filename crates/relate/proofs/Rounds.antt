-- A ring gone round, one edge after the other, the closing one first: what is told of the edges one by one adds up to what is told of them all.
use Rattle.std.proofs.Common.{◌≡◌, List, [], ◌∷◌, sym, refl, ap, ◌∙◌}
use Rattle.plane.specs.Corners.{Corner}
use Rattle.plane.specs.Edges.{Edge, edge}
use Rattle.ground.specs.Shapes.{Shape, edges, edges_from}
use Rattle.relate.specs.Rings.{edges_on, last_after, edges_round}

-- WHAT ADDS UP, in any order: all edges tell what the first and those after it tell together
module _ {M : Type 0} (join : M → M → M) (assoc : (a b c : M) → join (join a b) c ≡ join a (join b c)) (one : Edge → M) (all : List Edge → M)
    (more : (e : Edge) (es : List Edge) → all (e ∷ es) ≡ join (one e) (all es))
  where
    -- one edge on
    pub goes_on : (m : M) (e : Edge) (es : List Edge) → join (join m (one e)) (all es) ≡ join m (all (e ∷ es))
    goes_on m e es = assoc m (one e) (all es) ∙ ap (join m) (sym (more e es))

    module _ (comm : (a b : M) → join a b ≡ join b a) where
      closed : (f a : Corner) (bs : Shape) → join (all (edges_on a bs)) (one (edge (last_after a bs) f)) ≡ all (edges_from f a bs)
      unfolding edges_on last_after edges_from
      closed f a [] = comm _ _ ∙ sym (more (edge a f) [])
      closed f a (b ∷ bs) =
          let x = one (edge (last_after b bs) f) in
          ap (λ v. join v x) (more (edge a b) (edges_on b bs)) ∙ assoc _ _ x ∙ ap (join (one (edge a b))) (closed f b bs)
          ∙ sym (more (edge a b) (edges_from f b bs))

      -- the edges as they are gone along, and as the ring has them
      pub round : (s : Shape) → all (edges_round s) ≡ all (edges s)
      unfolding edges_on last_after edges
      round [] = refl
      round (c ∷ cs) = more (edge (last_after c cs) c) (edges_on c cs) ∙ comm _ _ ∙ closed c c cs
