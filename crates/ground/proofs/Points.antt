-- A point and a ground: the point written as another fraction, the ground begun at another corner, and the line to the north in place of that to the east.
use Rattle.std.proofs.Common.{◌≡◌, ◌*◌, Bool, true, false, not, ◌&&◌, List, [], ◌∷◌, ◌++◌, sym, refl, ap, ◌∙◌, ap₂}
use Rattle.plane.specs.Lists.{or, any, each}
use Rattle.plane.specs.Edges.{Edge, grown_edge, on_edge}
use Rattle.plane.specs.Parity.{xors, Closed, crosses, parity}
use Rattle.plane.proofs.Booleans.{and_false_right}
use Rattle.plane.proofs.Lists.{any_same, any_each, each_each}
use Rattle.plane.proofs.Xors.{odd_those, xors_same, xors_each}
use Rattle.plane.proofs.Chains.{moved, closed_grown}
use Rattle.plane.proofs.Turns.{mirrored}
use Rattle.plane.proofs.Growth.{grown_edge_twice, on_edge_grown, crosses_grown}
use Rattle.plane.proofs.Boxes.{covered}
use Rattle.plane.proofs.Northward.{on_edge_mirrored, parity_mirrored}
use Rattle.ground.specs.Shapes.{Point, Shape, edges, as_corner, inside, on_border, in_shape}
use Rattle.ground.specs.Statements.{across, AnyBeginning, AnyWay, SamePoint}
use Rattle.ground.proofs.Rings.{any_edge_turned, odd_edges_turned, edges_moved, closed_edges}

-- THE EDGES SEEN FROM A POINT, all made w times as large
-- the line from the point to the east crosses the edge
abbrev pub seen_from : Point → Edge → Bool
seen_from p e = crosses (grown_edge p.w e) (as_corner p)

-- the point is on the edge
abbrev pub touched_by : Point → Edge → Bool
touched_by p e = on_edge (grown_edge p.w e) (as_corner p)

-- the edges of a row, so much larger that the point is a corner
abbrev pub enlarged : Shape → Point → List Edge
enlarged s p = each (grown_edge p.w) (edges s)

-- they close, as those of the row do
pub closed_enlarged : (s : Shape) (p : Point) → Closed (enlarged s p)
closed_enlarged s p = closed_grown p.w (edges s) (closed_edges s)

-- the point is on the border if it is on one of them
pub border_enlarged : (s : Shape) (p : Point) → on_border s p ≡ any (λ e. on_edge e (as_corner p)) (enlarged s p)
border_enlarged s p = sym (any_each (λ e. on_edge e (as_corner p)) (grown_edge p.w) (edges s))

-- inside: on no edge, and the crossings add up to odd
pub inside_sum : (s : Shape) (p : Point) → inside s p ≡ (xors (seen_from p) (edges s) && not (on_border s p))
inside_sum s p = ap (λ t. t && not (on_border s p)) (odd_those (seen_from p) (edges s))

-- the same, of the enlarged edges
pub inside_parity : (s : Shape) (p : Point) → inside s p ≡ (parity (enlarged s p) (as_corner p) && not (on_border s p))
inside_parity s p = inside_sum s p ∙ ap (λ t. t && not (on_border s p)) (sym (xors_each (λ e. crosses e (as_corner p)) (grown_edge p.w) (edges s)))

-- what is also had where the second holds need not be without it
pub or_and_not : (a b : Bool) → or (a && not b) b ≡ or a b
or_and_not true true = refl
or_and_not true false = refl
or_and_not false b = refl

-- a ground has what its edges enclose, and what is on one
pub in_shape_covered : (s : Shape) (p : Point) → in_shape s p ≡ covered (enlarged s p) (as_corner p)
in_shape_covered s p =
    ap (λ t. or t (on_border s p)) (inside_parity s p) ∙ or_and_not (parity (enlarged s p) (as_corner p)) (on_border s p)
    ∙ ap (or (parity (enlarged s p) (as_corner p))) (border_enlarged s p)

-- ANOTHER BEGINNING: a ground has the same points, whichever corner it begins with
pub any_beginning : AnyBeginning
unfolding AnyBeginning
any_beginning a s p =
    let border = any_edge_turned (touched_by p) a s in
    let seen = odd_edges_turned (seen_from p) a s in
    (inside_sum (a ∷ s) p ∙ ap₂ (λ t b. t && not b) seen border ∙ sym (inside_sum (s ++ a ∷ []) p), border)

-- ANOTHER FRACTION: a point is in the same grounds, however it is written
pub same_point : SamePoint
unfolding SamePoint
same_point s p n above = (inside_sum s more ∙ ap₂ (λ t b. t && not b) odd border ∙ sym (inside_sum s p), border)
  where
    more : Point
    more = record { px = n * p.px; py = n * p.py; w = n * p.w }

    seen : (e : Edge) → seen_from more e ≡ seen_from p e
    seen e = ap (λ f. crosses f (as_corner more)) (grown_edge_twice n p.w e) ∙ crosses_grown n above (grown_edge p.w e) (as_corner p)

    touched : (e : Edge) → touched_by more e ≡ touched_by p e
    touched e = ap (λ f. on_edge f (as_corner more)) (grown_edge_twice n p.w e) ∙ on_edge_grown n above (grown_edge p.w e) (as_corner p)

    odd : xors (seen_from more) (edges s) ≡ xors (seen_from p) (edges s)
    odd = xors_same (seen_from more) (seen_from p) (edges s) seen

    border : on_border s more ≡ on_border s p
    border = any_same (touched_by more) (touched_by p) (edges s) touched

-- two tests beside the failure of a third need to agree only where that fails
and_unless : (a b t : Bool) → (t ≡ false → a ≡ b) → (a && not t) ≡ (b && not t)
and_unless a b true h = and_false_right a ∙ sym (and_false_right b)
and_unless a b false h = ap (λ c. c && true) (h refl)

-- ANOTHER WAY: looking to the north, the same points are inside
pub any_way : AnyWay
unfolding AnyWay across
any_way s p shaped pointed =
    inside_parity (each across s) turned
    ∙ ap₂ (λ t b. t && not b) (ap (λ es. parity es (as_corner turned)) ring) border
    ∙ and_unless (parity (each (moved mirrored) (enlarged s p)) (as_corner turned)) (parity (enlarged s p) (as_corner p)) (on_border s p)
    (λ off. parity_mirrored (enlarged s p) (as_corner p) (closed_enlarged s p) (sym (border_enlarged s p) ∙ off))
    ∙ sym (inside_parity s p)
  where
    turned : Point
    turned = record { px = p.py; py = p.px; w = p.w }

    ring : enlarged (each across s) turned ≡ each (moved mirrored) (enlarged s p)
    ring =
        ap (each (grown_edge p.w)) (edges_moved across s)
        ∙ each_each (grown_edge p.w) (moved across) (edges s)
        ∙ sym (each_each (moved mirrored) (grown_edge p.w) (edges s))

    border : on_border (each across s) turned ≡ on_border s p
    border =
        border_enlarged (each across s) turned
        ∙ ap (any (λ e. on_edge e (as_corner turned))) ring
        ∙ any_each (λ e. on_edge e (as_corner turned)) (moved mirrored) (enlarged s p)
        ∙ any_same (λ e. on_edge (moved mirrored e) (as_corner turned)) (λ e. on_edge e (as_corner p)) (enlarged s p) (λ e. on_edge_mirrored e (as_corner p))
        ∙ sym (border_enlarged s p)
