-- Each ground has a point inside: beside its border.
use Rattle.std.proofs.Common.{◌≡◌, true, not, ◌&&◌, [], ◌∙◌, ap₂}
use Rattle.std.proofs.lemmas.Bool.{le-leb}
use Rattle.plane.specs.Edges.{Edge, on_edge}
use Rattle.plane.specs.Parity.{parity}
use Rattle.plane.proofs.Lists.{In, any_at, any_false_from}
use Rattle.plane.proofs.Chains.{closed_none}
use Rattle.plane.proofs.Crossings.{one_on}
use Rattle.ground.specs.Shapes.{Point, edges, a_point, inside}
use Rattle.ground.specs.Statements.{SomeInside}
use Rattle.ground.proofs.Rings.{closed_edges, Shaped, shape_parts}
use Rattle.ground.proofs.Points.{inside_parity, border_enlarged}
use Rattle.ground.proofs.Clearance.{ring_fine}
use Rattle.ground.proofs.Symmetry.{ring_distinct, ends_apart}
use Rattle.ground.proofs.Slopes.{steep_edge}
use Rattle.ground.proofs.Borders.{PlaceInside, below_edges, beside_border}

-- beside the corner at which some edge begins
pub some_inside : SomeInside
unfolding SomeInside
some_inside s shaped =
    told
    (beside_border 1048576 (edges s) [] (closed_edges s) closed_none (ring_fine (edges s) parts.clear)
    (ends_apart (edges s) (ring_distinct (edges s) parts.clear)) (below_edges s shaped) (λ e i. absurd i) first.0.one
    (any_at (λ e. on_edge e first.0.one) first.0 (edges s) first.1 (one_on first.0))
    (any_false_from (λ e. on_edge e first.0.one) [] (λ e i. absurd i)))
  where
    parts : Shaped s
    parts = shape_parts s shaped

    first : (e : Edge) × In e (edges s) × (e.one.y ≡ e.other.y → ⊥)
    first = steep_edge s parts.area

    told : PlaceInside (edges s) [] (parity [] first.0.one) → (p : Point) × (a_point p ≡ true) × (inside s p ≡ true)
    told w = (point, le-leb 1 w.times w.above, inside_parity s point ∙ ap₂ (λ t b. t && not b) w.inside_one (border_enlarged s point ∙ w.off_one))
      where
        point : Point
        point = record { px = w.place.x; py = w.place.y; w = w.times }
