-- Walks along a row, step by step.
use Rattle.std.proofs.Common.{◌≡◌, ◌∷◌, [], Option, Some, None, MatchOption, unwrap_or, refl, ap}
use Rattle.plane.specs.Code.{at}
use Rattle.plane.specs.Corners.{Corner}
use Rattle.plane.specs.Edges.{edge}
use Rattle.plane.specs.declared.corner.Corner as coded_corner
use Rattle.ground.specs.Shapes.{Shape, edges, edges_from}
use Rattle.ground.specs.Paths.{path}
use Rattle.ground.specs.Walks.{ring_from}

-- one corner on
pub ring_more : (f : Option coded_corner.Corner) (a b : Corner) (cs bs : Shape) → cs ≡ b ∷ bs → ring_from f a cs ≡ edge a b ∷ ring_from f b bs
unfolding path edges_from
ring_more None a b cs bs h = ap (path a) h
ring_more (Some f) a b cs bs h = ap (edges_from (at f) a) h

-- back to the first corner, and then no more
pub ring_back : (o p : Option coded_corner.Corner) (f : coded_corner.Corner) (a : Corner) (cs ds : Shape) → o ≡ Some f → p ≡ None → cs ≡ [] → ds ≡ [] →
    ring_from o a cs ≡ edge a (at f) ∷ ring_from p a ds
unfolding path edges_from
ring_back o p f a cs ds g h k l = rw (g, h, k, l) refl

pub ring_ends : (o : Option coded_corner.Corner) (a : Corner) (cs : Shape) → o ≡ None → cs ≡ [] → ring_from o a cs ≡ []
unfolding path
ring_ends o a cs h k = rw (h, k) refl

-- from the first corner of a shape, if it has one, over the others and back, these are its edges
pub ring_all : (o : Option coded_corner.Corner) (d : coded_corner.Corner) (s cs : Shape) → MatchOption o ((s ≡ []) × (cs ≡ [])) (λ f. s ≡ at f ∷ cs) →
    ring_from o (at (unwrap_or o d)) cs ≡ edges s
unfolding path edges
ring_all None d s cs (h, k) = rw (h, k) refl
ring_all (Some f) d s cs h = let e : s ≡ at f ∷ cs = h in rw e refl
