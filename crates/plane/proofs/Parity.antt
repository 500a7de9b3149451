-- Crossing parity: along a segment that no edge of a closed list spoils, the parity changes with each edge that crosses it over.
use Rattle.std.proofs.Common.{◌≡◌, ◌≤◌, false, not, ◌&&◌, List, sym, ap, ◌∙◌, ap₂, ⊎_elim, le_of_lt}
use Rattle.std.proofs.lemmas.Bool.{cases_lt, and_parts}
use Rattle.plane.specs.Lists.{any}
use Rattle.plane.specs.Corners.{Corner, in_line}
use Rattle.plane.specs.Edges.{Edge, edge, cross_over, meet}
use Rattle.plane.specs.Parity.{xor, xors, changes, Closed, crosses, parity, touches, spoils, CrossingParity}
use Rattle.plane.proofs.Booleans.{xor_comm, same_from_xor, or_left, or_right}
use Rattle.plane.proofs.Lists.{any_same, any_stronger}
use Rattle.plane.proofs.Xors.{xors_xor, xors_where, xors_same, xors_none}
use Rattle.plane.proofs.Turns.{in_line_swapped}
use Rattle.plane.proofs.Reversal.{touches_back, cross_over_by_reversed}
use Rattle.plane.proofs.Segments.{right_of, carries}

-- the segment gone the other way is spoiled by the same edges
pub spoils_back : (p q : Corner) (e : Edge) → spoils q p e ≡ spoils p q e
spoils_back p q e =
    ap₂ ◌&&◌ (touches_back p q e) (ap not (ap₂ ◌&&◌ (in_line_swapped p q e.one) (in_line_swapped p q e.other)))

-- upward
parity_up :
    (es : List Edge) (p q : Corner) → p.y ≤ q.y → Closed es → any (spoils p q) es ≡ false →
    xor (parity es p) (parity es q) ≡ xors (λ e. cross_over e (edge p q)) es
parity_up es p q up closed fine =
    sym (xors_xor (λ e. crosses e p) (λ e. crosses e q) es)
    ∙ xors_where (spoils p q) (λ e. xor (crosses e p) (crosses e q)) (λ e. xor (changes (right_of p q) e) (cross_over e (edge p q))) es
    (λ e h. carries p q e up h) fine
    ∙ xors_xor (changes (right_of p q)) (λ e. cross_over e (edge p q)) es
    ∙ ap (λ t. xor t (xors (λ e. cross_over e (edge p q)) es)) (closed (right_of p q))

-- either way
pub crossing_parity : CrossingParity
unfolding CrossingParity
crossing_parity es p q closed fine =
    ⊎_elim (λ h. parity_up es p q (le_of_lt h) closed fine)
    (λ h.
    xor_comm (parity es p) (parity es q)
    ∙ parity_up es q p h closed (any_same (spoils q p) (spoils p q) es (spoils_back p q) ∙ fine)
    ∙ xors_same (λ e. cross_over e (edge q p)) (λ e. cross_over e (edge p q)) es (λ e. cross_over_by_reversed e (edge p q)))
    (cases_lt p.y q.y)

-- where no edge crosses the segment over either, the parity at its ends is the same
pub parity_kept :
    (es : List Edge) (p q : Corner) → Closed es → any (spoils p q) es ≡ false → any (λ e. cross_over e (edge p q)) es ≡ false →
    parity es p ≡ parity es q
unfolding CrossingParity
parity_kept es p q closed fine uncut =
    same_from_xor (parity es p) (parity es q) (crossing_parity es p q closed fine ∙ xors_none (λ e. cross_over e (edge p q)) es uncut)

-- so it is where no edge meets the segment
pub parity_unmet : (es : List Edge) (p q : Corner) → Closed es → any (λ e. meet e (edge p q)) es ≡ false → parity es p ≡ parity es q
parity_unmet es p q closed unmet =
    parity_kept es p q closed
    (any_stronger (spoils p q) (λ e. meet e (edge p q)) es
    (λ e h. or_right (cross_over e (edge p q)) (touches p q e) (and_parts (touches p q e) (not (in_line p q e.one && in_line p q e.other)) h).0)
    unmet)
    (any_stronger (λ e. cross_over e (edge p q)) (λ e. meet e (edge p q)) es (λ e h. or_left (cross_over e (edge p q)) (touches p q e) h) unmet)
