-- An edge gone the other way has the same points, is crossed at the same points, and meets the same edges; and meeting is mutual.
use Rattle.std.proofs.Common.{◌≡◌, ℕ, Bool, ◌&&◌, ltb, leb, refl, ap, ◌∙◌, ap₂, arith}
use Rattle.std.proofs.lemmas.Bool.Decides.{nat_tests}
use Rattle.plane.specs.Lists.{or}
use Rattle.plane.specs.Corners.{Corner, left_turn, right_turn, between}
use Rattle.plane.specs.Edges.{Edge, edge, on_edge, rises, falls, cross_over, meet}
use Rattle.plane.specs.Parity.{crosses, touches}
use Rattle.plane.specs.Symmetry.{MeetsBothWays}
use Rattle.plane.proofs.Booleans.{and_comm, or_comm}
use Rattle.plane.proofs.Turns.{left_turn_swapped, right_turn_swapped, in_line_swapped}
use Rattle.plane.proofs.Chains.{reversed}

pub between_comm : (a b c : ℕ) → between b a c ≡ between a b c
between_comm a b c = grind (arith, nat_tests)

-- two pairs of tests, each turned round, and their places exchanged
pairs_turned : (a b c d : Bool) → or (d && c) (b && a) ≡ or (a && b) (c && d)
pairs_turned a b c d = or_comm (d && c) (b && a) ∙ ap₂ or (and_comm b a) (and_comm d c)

pub on_edge_reversed : (e : Edge) (c : Corner) → on_edge (reversed e) c ≡ on_edge e c
on_edge_reversed e c =
    ap₂ ◌&&◌ (in_line_swapped e.one e.other c)
    (ap₂ ◌&&◌ (between_comm e.one.x e.other.x c.x) (between_comm e.one.y e.other.y c.y))

pub rises_reversed : (e : Edge) (c : Corner) → rises (reversed e) c ≡ falls e c
rises_reversed e c = ap (◌&&◌ (leb e.other.y c.y && ltb c.y e.one.y)) (left_turn_swapped e.one e.other c)

pub falls_reversed : (e : Edge) (c : Corner) → falls (reversed e) c ≡ rises e c
falls_reversed e c = ap (◌&&◌ (leb e.one.y c.y && ltb c.y e.other.y)) (right_turn_swapped e.one e.other c)

pub crosses_reversed : (e : Edge) (c : Corner) → crosses (reversed e) c ≡ crosses e c
crosses_reversed e c = ap₂ or (rises_reversed e c) (falls_reversed e c) ∙ or_comm (falls e c) (rises e c)

-- MEETING
-- the ends of the second edge are on the two sides of the first
abbrev pub parts : Edge → Edge → Bool
parts e f =
    or (left_turn e.one e.other f.one && right_turn e.one e.other f.other)
    (right_turn e.one e.other f.one && left_turn e.one e.other f.other)

pub parts_reversed : (e f : Edge) → parts (reversed e) f ≡ parts e f
parts_reversed e f =
    ap₂ or (ap₂ ◌&&◌ (left_turn_swapped a b f.one) (right_turn_swapped a b f.other))
    (ap₂ ◌&&◌ (right_turn_swapped a b f.one) (left_turn_swapped a b f.other))
    ∙ or_comm (right_turn a b f.one && left_turn a b f.other) (left_turn a b f.one && right_turn a b f.other)
  where
    a : Corner
    a = e.one

    b : Corner
    b = e.other

pub parts_by_reversed : (e f : Edge) → parts e (reversed f) ≡ parts e f
parts_by_reversed e f =
    pairs_turned (left_turn e.one e.other f.one) (right_turn e.one e.other f.other) (right_turn e.one e.other f.one)
    (left_turn e.one e.other f.other)

pub cross_over_comm : (e f : Edge) → cross_over e f ≡ cross_over f e
cross_over_comm e f = and_comm (parts e f) (parts f e)

pub cross_over_reversed : (e f : Edge) → cross_over (reversed e) f ≡ cross_over e f
cross_over_reversed e f = ap₂ ◌&&◌ (parts_reversed e f) (parts_by_reversed f e)

pub cross_over_by_reversed : (e f : Edge) → cross_over e (reversed f) ≡ cross_over e f
cross_over_by_reversed e f = ap₂ ◌&&◌ (parts_by_reversed e f) (parts_reversed f e)

-- the segment gone the other way is touched by the same edges
pub touches_back : (p q : Corner) (e : Edge) → touches q p e ≡ touches p q e
touches_back p q e =
    ap₂ or (or_comm (on_edge e q) (on_edge e p)) (ap₂ or (on_edge_reversed (edge p q) e.one) (on_edge_reversed (edge p q) e.other))

-- and by the same edges gone the other way
pub touches_reversed : (p q : Corner) (e : Edge) → touches p q (reversed e) ≡ touches p q e
touches_reversed p q e =
    ap₂ or (ap₂ or (on_edge_reversed e p) (on_edge_reversed e q)) (or_comm (on_edge (edge p q) e.other) (on_edge (edge p q) e.one))

-- two edges meet if they cross over or touch
pub meet_touches : (e f : Edge) → meet e f ≡ or (cross_over e f) (touches f.one f.other e)
meet_touches e f = refl

pub meet_comm : (e f : Edge) → meet e f ≡ meet f e
meet_comm e f =
    ap₂ or (cross_over_comm e f) (or_comm (or (on_edge e f.one) (on_edge e f.other)) (or (on_edge f e.one) (on_edge f e.other)))

pub meet_reversed : (e f : Edge) → meet (reversed e) f ≡ meet e f
meet_reversed e f = ap₂ or (cross_over_reversed e f) (touches_reversed f.one f.other e)

pub meets_both_ways : MeetsBothWays
unfolding MeetsBothWays
meets_both_ways = meet_comm
