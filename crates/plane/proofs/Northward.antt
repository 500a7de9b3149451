-- Looking to the north in place of to the east: which edges the one line crosses and the other doesn't, and that over a closed list it comes to the same.
use Rattle.std.proofs.Common.{◌≡◌, ℕ, ◌<◌, ◌≤◌, Bool, false, ◌&&◌, eqb, ltb, leb, List, sym, ◌∙◌, ap₂, arith}
use Rattle.std.proofs.lemmas.Bool.Decides.{nat_tests}
use Rattle.plane.specs.Lists.{or, any, each}
use Rattle.plane.specs.Corners.{Corner, lefts, rights, between}
use Rattle.plane.specs.Edges.{Edge, on_edge}
use Rattle.plane.specs.Parity.{xor, xors, changes, Closed, crosses, parity}
use Rattle.plane.proofs.Booleans.{and_comm, same_from_xor}
use Rattle.plane.proofs.Xors.{xors_where, xors_xor, xors_each}
use Rattle.plane.proofs.Turns.{mirrored, in_line_mirrored}
use Rattle.plane.proofs.Chains.{moved}
use Rattle.plane.proofs.Sides.{north_of_both, south_of_both, east_of_both, west_of_both}

-- the corner is east of c and north of c
abbrev pub north_east : Corner → Corner → Bool
north_east c v = ltb c.x v.x && ltb c.y v.y

-- the two lines from c, by where the ends of the edge are: all that has to be known of the sums l and r is on which side of the edge c lies where it is
-- beyond both ends
crossed_twice : (ax ay bx by cx cy l r : ℕ) →
    (ax ≤ cx → cx < bx → ay ≤ cy → by ≤ cy → r ≤ l) → (bx ≤ cx → cx < ax → by ≤ cy → ay ≤ cy → l ≤ r) →
    (ax ≤ cx → cx < bx → cy < ay → cy < by → l < r) → (bx ≤ cx → cx < ax → cy < by → cy < ay → r < l) →
    (ay ≤ cy → cy < by → ax ≤ cx → bx ≤ cx → l ≤ r) → (by ≤ cy → cy < ay → bx ≤ cx → ax ≤ cx → r ≤ l) →
    (ay ≤ cy → cy < by → cx < ax → cx < bx → r < l) → (by ≤ cy → cy < ay → cx < bx → cx < ax → l < r) →
    (eqb l r && (between ax bx cx && between ay by cy)) ≡ false →
    xor
    (or ((leb ay cy && ltb cy by) && ltb r l) ((leb by cy && ltb cy ay) && ltb l r))
    (or ((leb ax cx && ltb cx bx) && ltb l r) ((leb bx cx && ltb cx ax) && ltb r l))
    ≡ xor (ltb cx ax && ltb cy ay) (ltb cx bx && ltb cy by)
crossed_twice ax ay bx by cx cy l r n n' s s' e e' w w' off = grind (arith, nat_tests)

-- an edge on which c doesn't lie is crossed by both lines or by neither, unless just one of its ends is north-east of c
pub northward : (e : Edge) (c : Corner) → on_edge e c ≡ false →
    xor (crosses e c) (crosses (moved mirrored e) (mirrored c)) ≡ changes (north_east c) e
northward e c off =
    let a = e.one in
    let b = e.other in
    crossed_twice a.x a.y b.x b.y c.x c.y (lefts a b c) (rights a b c)
    (north_of_both a b c) (λ p q h k. omega (arith, north_of_both b a c p q h k))
    (south_of_both a b c) (λ p q h k. omega (arith, south_of_both b a c p q h k))
    (east_of_both a b c) (λ p q h k. omega (arith, east_of_both b a c p q h k))
    (west_of_both a b c) (λ p q h k. omega (arith, west_of_both b a c p q h k))
    off

-- what is on an edge is so in the mirror
pub on_edge_mirrored : (e : Edge) (c : Corner) → on_edge (moved mirrored e) (mirrored c) ≡ on_edge e c
on_edge_mirrored e c =
    ap₂ ◌&&◌ (in_line_mirrored e.one e.other c) (and_comm (between e.one.y e.other.y c.y) (between e.one.x e.other.x c.x))

-- THE LINE TO THE NORTH: over a closed list of edges, on none of which c lies, it crosses an odd number of edges if the line to the east does
pub parity_mirrored : (es : List Edge) (c : Corner) → Closed es → any (λ e. on_edge e c) es ≡ false →
    parity (each (moved mirrored) es) (mirrored c) ≡ parity es c
parity_mirrored es c closed off =
    let east : Edge → Bool = λ e. crosses e c in
    let north : Edge → Bool = λ e. crosses (moved mirrored e) (mirrored c) in
    xors_each (λ e. crosses e (mirrored c)) (moved mirrored) es
    ∙ sym (same_from_xor (parity es c) (xors north es)
    (sym (xors_xor east north es)
    ∙ xors_where (λ e. on_edge e c) (λ e. xor (east e) (north e)) (changes (north_east c)) es (λ e h. northward e c h) off
    ∙ closed (north_east c)))
