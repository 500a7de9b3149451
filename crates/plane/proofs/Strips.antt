-- A segment in the strip between the two ends of an edge, in one direction: the edge crosses it over exactly if its ends are on the two sides of the edge.
use Rattle.std.proofs.Common.{◌≡◌, ℕ, ◌*◌, ◌<◌, false, ◌&&◌, sym, ap, ◌∙◌, arith}
use Rattle.std.proofs.lemmas.Bool.{and_left, and_right}
use Rattle.std.proofs.lemmas.Bool.Decides.{nat_tests}
use Rattle.plane.specs.Corners.{Corner, lefts, rights, in_line, between}
use Rattle.plane.specs.Edges.{Edge, edge, on_edge, cross_over}
use Rattle.plane.specs.Parity.{touches}
use Rattle.plane.proofs.Booleans.{or_from}
use Rattle.plane.proofs.Products.{product_lt, product_sign}
use Rattle.plane.proofs.Turns.{Balance, Weighed, balance, weighed_x, weighed_y, in_line_swapped}
use Rattle.plane.proofs.Bands.{opposite}
use Rattle.plane.proofs.Chains.{reversed}
use Rattle.plane.proofs.Reversal.{parts, parts_reversed, cross_over_reversed, touches_reversed}

-- OVER PLAIN NUMBERS: in the direction v, p and q are between a and b
module _
    (la ra lb rb lp rp lq rq va vb vp vq : ℕ) (bal : Balance la ra lb rb lp rp lq rq) (wei : Weighed la ra lb rb lp rp lq rq va vb vp vq)
    (after_p : va < vp) (after_q : va < vq) (before_p : vp < vb) (before_q : vq < vb)
  where
    -- p left of the edge and q right of it: then a is right of the segment
    one_right : rp < lp → lq < rq → la < ra
    one_right p q =
        product_sign ra la va vb (omega arith) (omega (arith, product_lt rp lp va vq p after_q, product_lt lq rq va vp q after_p, ap (λ (n : ℕ). n * va) bal))

    other_left : rp < lp → lq < rq → rb < lb
    other_left p q =
        product_sign lb rb va vb (omega arith) (omega (arith, product_lt rp lp vq vb p before_q, product_lt lq rq vp vb q before_p, ap (λ (n : ℕ). n * vb) bal))

-- the same for both signs: where p and q are on the two sides of the edge, a and b are on the two sides of the segment
both_ways :
    (la ra lb rb lp rp lq rq va vb vp vq : ℕ) → Balance la ra lb rb lp rp lq rq → Weighed la ra lb rb lp rp lq rq va vb vp vq → va < vp → va < vq →
    vp < vb → vq < vb → (opposite lp rp lq rq && opposite la ra lb rb) ≡ opposite lp rp lq rq
both_ways la ra lb rb lp rp lq rq va vb vp vq bal wei ap aq pb qb =
    told (one_right la ra lb rb lp rp lq rq va vb vp vq bal wei ap aq pb qb) (other_left la ra lb rb lp rp lq rq va vb vp vq bal wei ap aq pb qb)
    (one_right ra la rb lb rp lp rq lq va vb vp vq (sym bal) (sym wei) ap aq pb qb)
    (other_left ra la rb lb rp lp rq lq va vb vp vq (sym bal) (sym wei) ap aq pb qb)
  where
    told :
        (rp < lp → lq < rq → la < ra) → (rp < lp → lq < rq → rb < lb) → (lp < rp → rq < lq → ra < la) → (lp < rp → rq < lq → lb < rb) →
        (opposite lp rp lq rq && opposite la ra lb rb) ≡ opposite lp rp lq rq
    told h i j k = grind (arith, nat_tests)

-- in the direction v, the corner is strictly between the ends of the edge
abbrev pub Inside : (Corner → ℕ) → Edge → Corner → Type 0
Inside v e c = (v e.one < v c) × (v c < v e.other)

-- the edge and the segment have no end of the one on the other, and cross over if p and q are on the two sides of the edge
abbrev pub Passed : Edge → Corner → Corner → Type 0
Passed e p q = (touches p q e ≡ false) × (cross_over e (edge p q) ≡ parts e (edge p q))

-- a number beyond both of two is not between them
low_outside : (a b c : ℕ) → c < a → c < b → between a b c ≡ false
low_outside a b c h k = grind (arith, nat_tests)

high_outside : (a b c : ℕ) → a < c → b < c → between a b c ≡ false
high_outside a b c h k = grind (arith, nat_tests)

module _
    (v : Corner → ℕ)
    (weighed : (a b p q : Corner) →
    Weighed (lefts p q a) (rights p q a) (lefts p q b) (rights p q b) (lefts a b p) (rights a b p) (lefts a b q) (rights a b q) (v a) (v b) (v p) (v q))
    (outside : (p q a : Corner) → between (v p) (v q) (v a) ≡ false → on_edge (edge p q) a ≡ false)
  where
    passed_up :
        (e : Edge) (p q : Corner) → Inside v e p → Inside v e q → in_line e.one e.other p ≡ false → in_line e.one e.other q ≡ false →
        Passed e p q
    passed_up e p q h k off_p off_q = (
      or_from _ _ (or_from (on_edge e p) (on_edge e q) (and_left _ _ off_p) (and_left _ _ off_q))
          (or_from (on_edge (edge p q) a) (on_edge (edge p q) b) (outside p q a (low_outside (v p) (v q) (v a) h.0 k.0))
          (outside p q b (high_outside (v p) (v q) (v b) h.1 k.1))),
      both_ways (lefts p q a) (rights p q a) (lefts p q b) (rights p q b) (lefts a b p) (rights a b p) (lefts a b q) (rights a b q) (v a) (v b) (v p)
          (v q) (balance a b p q) (weighed a b p q) h.0 k.0 h.1 k.1,
    )
      where
        a : Corner
        a = e.one

        b : Corner
        b = e.other

    passed_down :
        (e : Edge) (p q : Corner) → Inside v (reversed e) p → Inside v (reversed e) q → in_line e.one e.other p ≡ false →
        in_line e.one e.other q ≡ false → Passed e p q
    passed_down e p q h k off_p off_q =
        let w = passed_up (reversed e) p q h k (in_line_swapped e.one e.other p ∙ off_p) (in_line_swapped e.one e.other q ∙ off_q) in
        (sym (touches_reversed p q e) ∙ w.0, sym (cross_over_reversed e (edge p q)) ∙ w.1 ∙ parts_reversed e (edge p q))

outside_x : (p q a : Corner) → between p.x q.x a.x ≡ false → on_edge (edge p q) a ≡ false
outside_x p q a h = and_right (in_line p q a) _ (and_left (between p.x q.x a.x) (between p.y q.y a.y) h)

outside_y : (p q a : Corner) → between p.y q.y a.y ≡ false → on_edge (edge p q) a ≡ false
outside_y p q a h = and_right (in_line p q a) _ (and_right (between p.x q.x a.x) (between p.y q.y a.y) h)

-- the segment between the ends of the edge eastward, or northward, the edge gone either way
module _ (e : Edge) (p q : Corner) (off_p : in_line e.one e.other p ≡ false) (off_q : in_line e.one e.other q ≡ false) where
  pub passed_east : Inside (λ c. c.x) e p → Inside (λ c. c.x) e q → Passed e p q
  passed_east h k = passed_up (λ c. c.x) weighed_x outside_x e p q h k off_p off_q

  pub passed_west : Inside (λ c. c.x) (reversed e) p → Inside (λ c. c.x) (reversed e) q → Passed e p q
  passed_west h k = passed_down (λ c. c.x) weighed_x outside_x e p q h k off_p off_q

  pub passed_north : Inside (λ c. c.y) e p → Inside (λ c. c.y) e q → Passed e p q
  passed_north h k = passed_up (λ c. c.y) weighed_y outside_y e p q h k off_p off_q

  pub passed_south : Inside (λ c. c.y) (reversed e) p → Inside (λ c. c.y) (reversed e) q → Passed e p q
  passed_south h k = passed_down (λ c. c.y) weighed_y outside_y e p q h k off_p off_q
