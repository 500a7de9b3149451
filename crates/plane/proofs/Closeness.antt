-- Edges that must meet: their bounding boxes do, and neither has both ends on one side of the other.
use Rattle.std.proofs.Common.{◌≡◌, ℕ, suc, ◌*◌, ◌<◌, ◌≤◌, Bool, true, false, not, ◌&&◌, ltb, leb, ◌⊎◌, sym, ap, ◌∙◌, ap₂, inl, inr, arith}
use Rattle.std.proofs.lemmas.Bool.{and_from, and_parts, both_ways, cases_eq, eq-eqb, not_from_false, not-true}
use Rattle.std.proofs.lemmas.Bool.Decides.{nat_tests}
use Rattle.plane.specs.Lists.{or}
use Rattle.plane.specs.Corners.{Corner, lefts, rights, left_turn, right_turn, in_line, smaller, larger, between}
use Rattle.plane.specs.Edges.{Edge, edge, on_edge, cross_over, meet}
use Rattle.plane.specs.Parity.{touches}
use Rattle.plane.specs.Extents.{ranges_meet, boxes_meet}
use Rattle.plane.specs.Sides.{parts, leaves_aside}
use Rattle.plane.proofs.Booleans.{or_left, or_right, or_comm, and_comm, same_from_both, true_from, false_from}
use Rattle.plane.proofs.Chains.{reversed}
use Rattle.plane.proofs.Extents.{apart_unmet, aside_unmet}
use Rattle.plane.proofs.Incidence.{on_line, on_level}
use Rattle.plane.proofs.Products.{product_le}
use Rattle.plane.proofs.Reversal.{meet_comm}
use Rattle.plane.proofs.Turns.{Balance, Weighed, balance, weighed_x, weighed_y, left_turn_swapped, right_turn_swapped}

-- WHERE ONE END IS IN LINE, over plain numbers: p is in line with a b and q is not, and a and b are not on one side of p q
module _
    (la ra lb rb lp rp lq rq va vb vp vq : ℕ) (even : Balance la ra lb rb lp rp lq rq) (weighed : Weighed la ra lb rb lp rp lq rq va vb vp vq)
    (line : lp ≡ rp) (off : rq < lq) (a : ra ≤ la) (b : lb ≤ rb)
  where
    -- then p is not beyond both a and b
    not_before : vp < va → vp < vb → ⊥
    not_before h k =
        omega
        (arith, product_le ra la (suc vp) vb a k, product_le lb rb (suc vp) va b h, ap (λ n. n * vp) even, ap (λ n. n * vp) line, ap (λ n. n * vq) line)

    not_after : va < vp → vb < vp → ⊥
    not_after h k =
        omega
        (arith, product_le ra la (suc vb) vp a k, product_le lb rb (suc va) vp b h, ap (λ n. n * vp) even, ap (λ n. n * vp) line, ap (λ n. n * vq) line)

    amid : between va vb vp ≡ true
    amid = reach not_before not_after
      where
        reach : (vp < va → vp < vb → ⊥) → (va < vp → vb < vp → ⊥) → between va vb vp ≡ true
        reach h k = grind (arith, nat_tests)

-- a and b are not on one side of p q: so each is on its own, or in line
sides :
    (la ra lb rb lp rp lq rq : ℕ) → Balance la ra lb rb lp rp lq rq → lp ≡ rp → (lq ≡ rq → ⊥) →
    or (ltb ra la && ltb rb lb) (ltb la ra && ltb lb rb) ≡ false →
    ((rq < lq) × (ra ≤ la) × (lb ≤ rb)) ⊎ ((lq < rq) × (la ≤ ra) × (rb ≤ lb))
sides la ra lb rb lp rp lq rq even line off h = grind (arith, nat_tests)

module _ (a b p q : Corner) (line : lefts a b p ≡ rights a b p) (off : lefts a b q ≡ rights a b q → ⊥) (h : leaves_aside (edge p q) (edge a b) ≡ false) where
  -- in a direction v, p is between a and b
  amid_in :
      (v : Corner → ℕ) →
      Weighed (lefts p q a) (rights p q a) (lefts p q b) (rights p q b) (lefts a b p) (rights a b p) (lefts a b q) (rights a b q) (v a) (v b) (v p) (v q) →
      between (v a) (v b) (v p) ≡ true
  amid_in v weighed =
      elim (sides (lefts p q a) (rights p q a) (lefts p q b) (rights p q b) (lefts a b p) (rights a b p) (lefts a b q) (rights a b q) (balance a b p q) line off h) [
        | inl s ↦ amid (lefts p q a) (rights p q a) (lefts p q b) (rights p q b) (lefts a b p) (rights a b p) (lefts a b q) (rights a b q) (v a) (v b) (v p) (v q) (balance a b p q) weighed line s.0 s.1 s.2
        | inr s ↦ amid (rights p q a) (lefts p q a) (rights p q b) (lefts p q b) (rights a b p) (lefts a b p) (rights a b q) (lefts a b q) (v a) (v b) (v p) (v q) (sym (balance a b p q)) (sym weighed) (sym line) s.0 s.1 s.2
      ]

  -- an end in line with an edge, while the other end is not, lies on it
  end_on : on_edge (edge a b) p ≡ true
  end_on =
      and_from (in_line a b p) _ (eq-eqb (lefts a b p) (rights a b p) line)
      (and_from (between a.x b.x p.x) (between a.y b.y p.y) (amid_in (λ c. c.x) (weighed_x a b p q)) (amid_in (λ c. c.y) (weighed_y a b p q)))

-- AN END ON THE OTHER EDGE is enough
module _ (a b p q : Corner) where
  -- the first end, or the other one
  by_p : on_edge (edge a b) p ≡ true → touches p q (edge a b) ≡ true
  by_p h = or_left _ _ (or_left (on_edge (edge a b) p) (on_edge (edge a b) q) h)

  by_q : on_edge (edge a b) q ≡ true → touches p q (edge a b) ≡ true
  by_q h = or_left _ _ (or_right (on_edge (edge a b) p) (on_edge (edge a b) q) h)

  -- touching is mutual
  touches_turned : touches a b (edge p q) ≡ true → touches p q (edge a b) ≡ true
  touches_turned h =
      or_comm (or (on_edge (edge a b) p) (on_edge (edge a b) q)) (or (on_edge (edge p q) a) (on_edge (edge p q) b)) ∙ h

-- ALL IN LINE
-- of two ranges that meet one has an end of the other
end_in :
    (a b c d : ℕ) → ranges_meet a b c d ≡ true →
    ((between a b c ≡ true) ⊎ (between a b d ≡ true)) ⊎ ((between c d a ≡ true) ⊎ (between c d b ≡ true))
end_in a b c d h = grind (arith, nat_tests)

-- ranges meet in either order
ranges_turned : (a b c d : ℕ) → ranges_meet a b c d ≡ true → ranges_meet c d a b ≡ true
ranges_turned a b c d h = and_comm (leb (smaller c d) (larger a b)) (leb (smaller a b) (larger c d)) ∙ h

-- where a range of one number has an end of another range, this has that number
level_in : (a b c d : ℕ) → c ≡ d → (between c d a ≡ true) ⊎ (between c d b ≡ true) → between a b c ≡ true
level_in a b c d e (inl h) = grind (arith, nat_tests)
level_in a b c d e (inr h) = grind (arith, nat_tests)

-- and two such ranges that meet have the same number
level_met : (a b c d : ℕ) → a ≡ b → c ≡ d → ranges_meet a b c d ≡ true → (a ≡ c) × (a ≡ d)
level_met a b c d e f h = (grind (arith, nat_tests), grind (arith, nat_tests))

-- the ends of each are in line with the other
abbrev AllInLine : (a b p q : Corner) → Type 0
AllInLine a b p q = (lefts a b p ≡ rights a b p) × (lefts a b q ≡ rights a b q) × (lefts p q a ≡ rights p q a) × (lefts p q b ≡ rights p q b)

-- edges in line, the first not level, touch if they share a height
sloped_met :
    (a b p q : Corner) → AllInLine a b p q → (a.y ≡ b.y → ⊥) → ranges_meet a.y b.y p.y q.y ≡ true → touches p q (edge a b) ≡ true
sloped_met a b p q line slope h =
    elim (end_in a.y b.y p.y q.y h) [
      | inl k ↦ elim k [ inl i ↦ by_p a b p q (on_line a b p line.0 i slope) | inr i ↦ by_q a b p q (on_line a b q line.1 i slope) ]
      | inr k ↦ elim (cases_eq p.y q.y) [
        | inl e ↦ by_p a b p q (on_line a b p line.0 (level_in a.y b.y p.y q.y e k) slope)
        | inr n ↦ touches_turned a b p q (elim k [ inl i ↦ by_p p q a b (on_line p q a line.2 i n) | inr i ↦ by_q p q a b (on_line p q b line.3 i n) ])
      ]
    ]

-- level edges at one height touch if their extents do
level_edges_met :
    (a b p q : Corner) → a.y ≡ b.y → p.y ≡ q.y → ranges_meet a.y b.y p.y q.y ≡ true →
    ranges_meet a.x b.x p.x q.x ≡ true → touches p q (edge a b) ≡ true
level_edges_met a b p q e f h k =
    let l = level_met a.y b.y p.y q.y e f h in
    elim (end_in a.x b.x p.x q.x k) [
      | inl m ↦ elim m [
        | inl i ↦ by_p a b p q (on_level a b p l.0 (sym e ∙ l.0) i)
        | inr i ↦ by_q a b p q (on_level a b q l.1 (sym e ∙ l.1) i)
      ]
      | inr m ↦ touches_turned a b p q (elim m [
        | inl i ↦ by_p p q a b (on_level p q a (sym l.0) (sym l.1) i)
        | inr i ↦ by_q p q a b (on_level p q b (sym l.0 ∙ e) (sym l.1 ∙ e) i)
      ])
    ]

-- edges in line whose bounding boxes meet touch
in_line_met : (a b p q : Corner) → AllInLine a b p q → boxes_meet (edge a b) (edge p q) ≡ true → touches p q (edge a b) ≡ true
in_line_met a b p q line h =
    let box = and_parts (ranges_meet a.x b.x p.x q.x) (ranges_meet a.y b.y p.y q.y) h in
    elim (cases_eq a.y b.y) [
      | inr n ↦ sloped_met a b p q line n box.1
      | inl e ↦ elim (cases_eq p.y q.y) [
        | inr n ↦ touches_turned a b p q (sloped_met p q a b (line.2, line.3, line.0, line.1) n (ranges_turned a.y b.y p.y q.y box.1))
        | inl f ↦ level_edges_met a b p q e f box.1 box.0
      ]
    ]

-- ALL CASES, over plain numbers: two determinants, not both of one sign
abbrev one_sided : (lp rp lq rq : ℕ) → Bool
one_sided lp rp lq rq = or (ltb rp lp && ltb rq lq) (ltb lp rp && ltb lq rq)

module _ (la ra lb rb lp rp lq rq : ℕ) (even : Balance la ra lb rb lp rp lq rq) where
  -- where the ends of the one are in line with the other, so are those of the other
  both_in_line : lp ≡ rp → lq ≡ rq → one_sided la ra lb rb ≡ false → (la ≡ ra) × (lb ≡ rb)
  both_in_line p q h = (grind (arith, nat_tests), grind (arith, nat_tests))

  -- and where they are not, those of the other aren't both
  not_both : la ≡ ra → lb ≡ rb → (lp ≡ rp → ⊥) → one_sided lp rp lq rq ≡ false → ⊥
  not_both a b p h = grind (arith, nat_tests)

-- neither in line, nor on one side: on the two sides
two_sides : (lp rp lq rq : ℕ) → (lp ≡ rp → ⊥) → (lq ≡ rq → ⊥) → one_sided lp rp lq rq ≡ false → or (ltb rp lp && ltb lq rq) (ltb lp rp && ltb rq lq) ≡ true
two_sides lp rp lq rq p q h = grind (arith, nat_tests)

-- on one side is on one side, whichever way the edge is gone
aside_reversed : (e f : Edge) → leaves_aside (reversed e) f ≡ leaves_aside e f
aside_reversed e f =
    ap₂ or (ap₂ ◌&&◌ (left_turn_swapped a b f.one) (left_turn_swapped a b f.other))
    (ap₂ ◌&&◌ (right_turn_swapped a b f.one) (right_turn_swapped a b f.other))
    ∙ or_comm (right_turn a b f.one && right_turn a b f.other) (left_turn a b f.one && left_turn a b f.other)
  where
    a : Corner
    a = e.one

    b : Corner
    b = e.other

module _
    (a b p q : Corner) (box : boxes_meet (edge a b) (edge p q) ≡ true) (h : leaves_aside (edge a b) (edge p q) ≡ false)
    (k : leaves_aside (edge p q) (edge a b) ≡ false)
  where
    -- the ends of the second are both in line with the first
    met_in_line : lefts a b p ≡ rights a b p → lefts a b q ≡ rights a b q → touches p q (edge a b) ≡ true
    met_in_line i j =
        let ends = both_in_line (lefts p q a) (rights p q a) (lefts p q b) (rights p q b) (lefts a b p) (rights a b p) (lefts a b q) (rights a b q) (balance a b p q) i j k in
        in_line_met a b p q (i, j, ends.0, ends.1) box

    -- neither of them is
    met_across :
        (lefts a b p ≡ rights a b p → ⊥) → (lefts a b q ≡ rights a b q → ⊥) → meet (edge a b) (edge p q) ≡ true
    met_across i j =
        elim (cases_eq (lefts p q a) (rights p q a)) [
          | inl m ↦ elim (cases_eq (lefts p q b) (rights p q b)) [
            | inl n ↦ absurd (not_both (lefts p q a) (rights p q a) (lefts p q b) (rights p q b) (lefts a b p) (rights a b p) (lefts a b q) (rights a b q) (balance a b p q) m n i h)
            | inr n ↦ touched (touches_turned a b p q (by_p p q a b (end_on p q a b m n h)))
          ]
          | inr m ↦ elim (cases_eq (lefts p q b) (rights p q b)) [
            | inl n ↦ touched (touches_turned a b p q (by_q p q a b (end_on p q b a n m (aside_reversed (edge a b) (edge p q) ∙ h))))
            | inr n ↦ or_left _ (touches p q (edge a b))
                (and_from (parts (edge a b) (edge p q)) (parts (edge p q) (edge a b)) (two_sides (lefts a b p) (rights a b p) (lefts a b q) (rights a b q) i j h)
                (two_sides (lefts p q a) (rights p q a) (lefts p q b) (rights p q b) m n k))
          ]
        ]
      where
        touched : touches p q (edge a b) ≡ true → meet (edge a b) (edge p q) ≡ true
        touched t = or_right (cross_over (edge a b) (edge p q)) _ t

    -- such edges meet
    close_met : meet (edge a b) (edge p q) ≡ true
    close_met =
        elim (cases_eq (lefts a b p) (rights a b p)) [
          | inl i ↦ elim (cases_eq (lefts a b q) (rights a b q)) [
            | inl j ↦ or_right (cross_over (edge a b) (edge p q)) _ (met_in_line i j)
            | inr j ↦ or_right (cross_over (edge a b) (edge p q)) _ (by_p a b p q (end_on a b p q i j k))
          ]
          | inr i ↦ elim (cases_eq (lefts a b q) (rights a b q)) [
            | inl j ↦ or_right (cross_over (edge a b) (edge p q)) _ (by_q a b p q (end_on a b q p j i (aside_reversed (edge p q) (edge a b) ∙ k)))
            | inr j ↦ met_across i j
          ]
        ]

-- TWO EDGES MEET exactly if their bounding boxes do, and neither leaves the other aside
pub meet_told : (e f : Edge) → (boxes_meet e f && (not (leaves_aside e f) && not (leaves_aside f e))) ≡ meet e f
meet_told e f = same_from_both _ _ close far
  where
    close : (boxes_meet e f && (not (leaves_aside e f) && not (leaves_aside f e))) ≡ true → meet e f ≡ true
    close h =
        let p = and_parts (boxes_meet e f) (not (leaves_aside e f) && not (leaves_aside f e)) h in
        let q = and_parts (not (leaves_aside e f)) (not (leaves_aside f e)) p.1 in
        close_met e.one e.other f.one f.other p.0 (not-true (leaves_aside e f) q.0) (not-true (leaves_aside f e) q.1)

    far : meet e f ≡ true → (boxes_meet e f && (not (leaves_aside e f) && not (leaves_aside f e))) ≡ true
    far h =
        and_from (boxes_meet e f) _ (true_from (boxes_meet e f) (λ n. both_ways (meet e f) (apart_unmet e f n) h))
        (and_from (not (leaves_aside e f)) (not (leaves_aside f e)) (not_from_false (leaves_aside e f) (false_from (leaves_aside e f) (λ n. both_ways (meet e f) (aside_unmet e f n) h)))
        (not_from_false (leaves_aside f e) (false_from (leaves_aside f e) (λ n. both_ways (meet e f) (meet_comm e f ∙ aside_unmet f e n) h))))
