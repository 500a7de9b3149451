-- The edges of two grounds: where none of the one crosses one of the other, none of all crosses another over. Edges meet in points.
use Rattle.std.proofs.Common.{◌≡◌, true, false, ◌++◌, ◌∙◌, ⊎_elim}
use Rattle.plane.specs.Lists.{any}
use Rattle.plane.specs.Edges.{Edge, cross_over}
use Rattle.plane.proofs.Lists.{In, any_false_at, in_left, in_right, in_append}
use Rattle.plane.proofs.Reversal.{cross_over_comm}
use Rattle.plane.proofs.Crossings.{meet_point}
use Rattle.plane.proofs.Growth.{met_grown}
use Rattle.ground.specs.Shapes.{Shape, edges, a_shape}
use Rattle.ground.specs.Statements.{crossing}
use Rattle.ground.proofs.Rings.{edge_ends, shape_parts}
use Rattle.ground.proofs.Clearance.{ring_uncrossed}
use Rattle.relate.specs.Statements.{MeetInPoints}

-- OF TWO GROUNDS that don't cross
pub none_crossed : (s t : Shape) → crossing s t ≡ false → (e f : Edge) → In e (edges s) → In f (edges t) → cross_over e f ≡ false
unfolding crossing
none_crossed s t h e f i j =
    any_false_at (λ g. cross_over e g) f (edges t) j (any_false_at (λ g. any (λ k. cross_over g k) (edges t)) e (edges s) i h)

-- so none of all the edges of both crosses another over
pub all_uncrossed : (s t : Shape) → a_shape s ≡ true → a_shape t ≡ true → crossing s t ≡ false → (e f : Edge) → In e (edges s ++ edges t) →
    In f (edges s ++ edges t) → cross_over e f ≡ false
all_uncrossed s t shaped_s shaped_t h e f i j =
    ⊎_elim
    (λ k. ⊎_elim (λ l. ring_uncrossed (edges s) (shape_parts s shaped_s).clear e f k l) (λ l. none_crossed s t h e f k l) (in_append f (edges s) (edges t) j))
    (λ k.
    ⊎_elim (λ l. cross_over_comm e f ∙ none_crossed s t h f e l k) (λ l. ring_uncrossed (edges t) (shape_parts t shaped_t).clear e f k l)
    (in_append f (edges s) (edges t) j))
    (in_append e (edges s) (edges t) i)

-- THE ENDS OF EDGES are corners of the one ground or of the other
pub edge_ends_both : (s t : Shape) (e : Edge) → In e (edges s ++ edges t) → In e.one (s ++ t) × In e.other (s ++ t)
edge_ends_both s t e i =
    ⊎_elim (λ k. let w = edge_ends s e k in (in_left e.one s t w.0, in_left e.other s t w.1))
    (λ k. let w = edge_ends t e k in (in_right e.one s t w.0, in_right e.other s t w.1)) (in_append e (edges s) (edges t) i)

-- TWO EDGES meet exactly if they have a point in common
pub meet_in_points : MeetInPoints
unfolding MeetInPoints
meet_in_points e f = (meet_point e f, λ w. met_grown w.0 w.2 e f w.1 w.3 w.4)
