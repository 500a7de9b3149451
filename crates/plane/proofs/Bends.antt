-- Bends: how a chain of edges turns at a corner, seen in the parity along the edge before it and along the edge behind it.
use Rattle.std.proofs.Common.{◌≡◌, ℕ, ◌<◌, ◌≤◌, Bool, true, false, ◌&&◌, ltb, leb, List, sym, ap, ◌∙◌, ap₂, ⊎_elim, le_of_lt, arith}
use Rattle.std.proofs.lemmas.Bool.{cases_lt, and_left, and_right, le-leb, lt-leb, le-ltb, eqb-true, eq-eqb}
use Rattle.std.proofs.lemmas.Bool.Decides.{nat_tests}
use Rattle.plane.specs.Lists.{pick, or}
use Rattle.plane.specs.Corners.{Corner, lefts, rights, left_turn, right_turn, in_line}
use Rattle.plane.specs.Edges.{Edge, edge, rises, falls, cross_over, meet}
use Rattle.plane.specs.Parity.{xor, xors, changes, Closed, crosses, parity, touches}
use Rattle.plane.proofs.Booleans.{or_parts, or_from, xor_comm, xor_false_right, xor_from_same, pick_same}
use Rattle.plane.proofs.Xors.{xors_xor}
use Rattle.plane.proofs.Bands.{passes, beyond}
use Rattle.plane.proofs.Turns.{lefts_cycled, rights_cycled, lefts_swapped, rights_swapped, in_line_swapped}
use Rattle.plane.proofs.Reversal.{parts, cross_over_by_reversed, touches_back}
use Rattle.plane.proofs.Segments.{right_of, Carries, carries_free, carries_line}

-- at b, from p on to c: what the edge from b to c adds to the parity between p and b
abbrev pub next_bend : Corner → Corner → Corner → Bool
next_bend p b c = or (ltb p.y b.y && (leb c.y b.y && right_turn p b c)) (leb b.y p.y && (ltb b.y c.y && left_turn p b c))

-- at a, from z on to b: what the edge from z to a adds to the parity between a and b
abbrev pub last_bend : Corner → Corner → Corner → Bool
last_bend z a b = or (leb a.y b.y && (ltb a.y z.y && right_turn z a b)) (ltb b.y a.y && (leb z.y a.y && left_turn z a b))

-- the right of the segment, whichever of its ends is the lower
abbrev pub side : Corner → Corner → Corner → Bool
side p q c = pick (leb p.y q.y) (right_of p q c) (right_of q p c)

-- what an edge adds to the parity between p and q, besides what its ends say
abbrev pub bend : Corner → Corner → Edge → Bool
bend p q e = xor (xor (crosses e p) (crosses e q)) (changes (side p q) e)

-- in a closed list what the ends say cancels
pub parity_bends : (es : List Edge) (p q : Corner) → Closed es → xor (parity es p) (parity es q) ≡ xors (bend p q) es
parity_bends es p q closed =
    sym
    (xors_xor (λ e. xor (crosses e p) (crosses e q)) (changes (side p q)) es ∙ ap₂ xor (xors_xor (λ e. crosses e p) (λ e. crosses e q) es) (closed (side p q))
    ∙ xor_false_right (xor (parity es p) (parity es q)))

-- UNMET: an edge that does not meet the segment adds nothing, nor does one that is in line with it
nothing_added : (c₁ c₂ r₁ r₂ o : Bool) → xor c₁ c₂ ≡ xor (xor r₁ r₂) o → o ≡ false → xor (xor c₁ c₂) (xor r₁ r₂) ≡ false
nothing_added c₁ c₂ r₁ r₂ o h k = xor_from_same (xor c₁ c₂) (xor r₁ r₂) (h ∙ ap (xor (xor r₁ r₂)) k ∙ xor_false_right (xor r₁ r₂))

-- by what the segment carries, gone upward
bend_carried : (p q : Corner) (e : Edge) → cross_over e (edge p q) ≡ false → (p.y ≤ q.y → Carries p q e) → (q.y ≤ p.y → Carries q p e) →
    bend p q e ≡ false
bend_carried p q e over up down = ⊎_elim descending ascending (cases_lt q.y p.y)
  where
    chosen : Bool → Bool
    chosen t =
        xor (xor (crosses e p) (crosses e q))
        (xor (pick t (right_of p q e.one) (right_of q p e.one)) (pick t (right_of p q e.other) (right_of q p e.other)))

    ascending : p.y ≤ q.y → bend p q e ≡ false
    ascending h =
        ap chosen (le-leb p.y q.y h)
        ∙ nothing_added (crosses e p) (crosses e q) (right_of p q e.one) (right_of p q e.other) (cross_over e (edge p q)) (up h) over

    descending : q.y < p.y → bend p q e ≡ false
    descending h =
        ap chosen (lt-leb p.y q.y h)
        ∙ nothing_added (crosses e p) (crosses e q) (right_of q p e.one) (right_of q p e.other) (cross_over e (edge q p))
        (xor_comm (crosses e p) (crosses e q) ∙ down (le_of_lt h)) (cross_over_by_reversed e (edge p q) ∙ over)

-- an edge that the segment does not meet adds nothing
pub bend_unmet : (p q : Corner) (e : Edge) → meet e (edge p q) ≡ false → bend p q e ≡ false
bend_unmet p q e h =
    let w = or_parts (cross_over e (edge p q)) (touches p q e) h in
    bend_carried p q e w.0 (λ up. carries_free p q e up w.1) (λ down. carries_free q p e down (touches_back p q e ∙ w.1))

-- corners in line turn neither way
pub straight : (a b c : Corner) → in_line a b c ≡ true → (left_turn a b c ≡ false) × (right_turn a b c ≡ false)
straight a b c h =
    let same = eqb-true (lefts a b c) (rights a b c) h in (
      le-ltb (rights a b c) (lefts a b c) (omega arith),
      le-ltb (lefts a b c) (rights a b c)
          (omega arith),
    )

-- nor does an edge in line with the segment
pub bend_line : (p q : Corner) (e : Edge) → in_line p q e.one ≡ true → in_line p q e.other ≡ true → bend p q e ≡ false
bend_line p q e h k =
    bend_carried p q e (and_right _ _ apart) (λ _. carries_line p q e h k)
    (λ _. carries_line q p e (in_line_swapped p q e.one ∙ h) (in_line_swapped p q e.other ∙ k))
  where
    apart : parts (edge p q) e ≡ false
    apart =
        let s = straight p q e.one h in
        or_from _ _ (and_left _ (right_turn p q e.other) s.0) (and_left _ (left_turn p q e.other) s.1)

-- OVER PLAIN NUMBERS: heights, and the determinant l − r of the three corners
next_numbers : (py by cy l r : ℕ) →
    xor (passes by cy py l r) (pick (leb py by) (beyond cy py by l r) (beyond cy by py r l))
    ≡ or (ltb py by && (leb cy by && ltb l r)) (leb by py && (ltb by cy && ltb r l))
next_numbers py by cy l r = grind (arith, nat_tests)

-- the same for the edge before the segment
last_numbers : (zy ay by l r : ℕ) →
    xor (passes zy ay by l r) (pick (leb ay by) (beyond zy ay by l r) (beyond zy by ay r l))
    ≡ or (leb ay by && (ltb ay zy && ltb l r)) (ltb by ay && (leb zy ay && ltb r l))
last_numbers zy ay by l r = grind (arith, nat_tests)

-- THE EDGE BEHIND THE SEGMENT, AND THE EDGE BEFORE IT
-- an edge is not crossed from a corner in line with it, so not from its ends
pub crosses_in_line : (e : Edge) (c : Corner) → in_line e.one e.other c ≡ true → crosses e c ≡ false
crosses_in_line e c h = let s = straight e.one e.other c h in
    or_from (rises e c) (falls e c) (and_right (leb e.one.y c.y && ltb c.y e.other.y) (left_turn e.one e.other c) s.0)
    (and_right (leb e.other.y c.y && ltb c.y e.one.y) (right_turn e.one e.other c) s.1)

-- an edge is in line with its own ends
pub in_line_first : (a b : Corner) → in_line a b a ≡ true
in_line_first a b = eq-eqb (lefts a b a) (rights a b a) (omega arith)

pub in_line_second : (a b : Corner) → in_line a b b ≡ true
in_line_second a b = eq-eqb (lefts a b b) (rights a b b) (omega arith)

-- what is in line with the segment is not right of it
side_in_line : (p q c : Corner) → in_line p q c ≡ true → side p q c ≡ false
side_in_line p q c h =
    ap₂ (pick (leb p.y q.y)) (and_right _ _ (straight p q c h).1) (and_right _ _ (straight q p c (in_line_swapped p q c ∙ h)).1)
    ∙ pick_same (leb p.y q.y) false

-- right of the segment or not, by the determinant of its ends and the corner
side_numbers : (p q c : Corner) → side p q c
    ≡ pick (leb p.y q.y) (beyond c.y p.y q.y (lefts p q c) (rights p q c)) (beyond c.y q.y p.y (rights p q c) (lefts p q c))
side_numbers p q c =
    ap₂ (λ l r. pick (leb p.y q.y) (right_of p q c) (beyond c.y q.y p.y l r)) (lefts_swapped p q c) (rights_swapped p q c)

-- the edge that begins where the segment ends adds the bend there
pub bend_next : (p b c : Corner) → bend p b (edge b c) ≡ next_bend p b c
bend_next p b c =
    ap₂ xor (ap₂ xor (ap₂ (passes b.y c.y p.y) (lefts_cycled p b c) (rights_cycled p b c)) (crosses_in_line (edge b c) b (in_line_first b c))
    ∙ xor_false_right _)
    (ap₂ xor (side_in_line p b b (in_line_second p b)) (side_numbers p b c))
    ∙ next_numbers p.y b.y c.y (lefts p b c) (rights p b c)

-- the edge that ends where the segment begins adds the bend there
pub bend_last : (z a b : Corner) → bend a b (edge z a) ≡ last_bend z a b
bend_last z a b =
    ap₂ xor (ap (λ t. xor t (crosses (edge z a) b)) (crosses_in_line (edge z a) a (in_line_second z a)))
    (ap₂ xor
    (side_numbers a b z
    ∙ ap₂ (λ l r. pick (leb a.y b.y) (beyond z.y a.y b.y l r) (beyond z.y b.y a.y r l)) (lefts_cycled z a b) (rights_cycled z a b))
    (side_in_line a b a (in_line_first a b)) ∙ xor_false_right _)
    ∙ last_numbers z.y a.y b.y (lefts z a b) (rights z a b)
