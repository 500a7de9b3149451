-- What lies outside the box of a row of corners: there the parity is even, and an edge there meets no edge of the row.
use Rattle.std.proofs.Common.{◌≡◌, ℕ, ◌+◌, ◌*◌, ◌≤◌, Bool, true, false, not, ◌&&◌, eqb, ltb, leb, ◌⊎◌, ◌∷◌, ap, ◌∙◌, ap₂, ⊎_elim, arith}
use Rattle.std.proofs.lemmas.Bool.{and_parts, and_from, and_left, and_right, leb-true, le-leb}
use Rattle.std.proofs.lemmas.Bool.Decides.{nat_tests}
use Rattle.plane.specs.Lists.{or, any}
use Rattle.plane.specs.Corners.{Corner, smaller, larger, between}
use Rattle.plane.specs.Edges.{Edge, on_edge, cross_over, meet}
use Rattle.plane.specs.Extents.{ranges_meet}
use Rattle.plane.specs.Orientation.{upward}
use Rattle.plane.specs.Parity.{xor}
use Rattle.plane.proofs.Booleans.{false_from, not_both, and_true_right, or_left, or_right, or_cases, or_from, or_false_right, pick_false}
use Rattle.plane.proofs.Lists.{In, every_at, any_false_from, any_stronger}
use Rattle.plane.proofs.Sides.{on_edge_parts}
use Rattle.plane.proofs.Crossings.{one_on}
use Rattle.plane.proofs.Extents.{apart_unmet}
use Rattle.ground.specs.Shapes.{Point, Shape, edges, on_border}
use Rattle.ground.specs.Rows.{least, greatest}
use Rattle.ground.specs.Boxes.{box_of, in_box, boxes_apart}
use Rattle.ground.specs.Statements.{crossing, BoxHolds}
use Rattle.ground.proofs.Rings.{edge_ends}
use Rattle.ground.proofs.Boxes.{between_ends}
use Rattle.ground.proofs.Outermost.{box_holds}
use Rattle.relate.specs.Samples.{raw, starts, sample, meeting}
use Rattle.relate.specs.Finding.{found_at, found_along, found, way_found, misses}
use Rattle.relate.proofs.Pairs.{in_shape_raw}

-- A POINT OUTSIDE THE BOX has an even parity
pub raw_outside : (t : Shape) (p : Point) → 1 ≤ p.w → in_box (box_of t).west (box_of t).south (box_of t).east (box_of t).north p ≡ false → raw t p ≡ false
unfolding BoxHolds
raw_outside t p above out = false_from (raw t p) (λ odd. not_both _ (held odd) out)
  where
    held : raw t p ≡ true → in_box (box_of t).west (box_of t).south (box_of t).east (box_of t).north p ≡ true
    held odd =
        let here = in_shape_raw t p ∙ or_left (raw t p) (on_border t p) odd in
        let x = (box_holds t p (box_of t).west (box_of t).east here (le-leb 1 p.w above)).0 (between_ends (λ c. c.x) t) in
        let y = (box_holds t p (box_of t).south (box_of t).north here (le-leb 1 p.w above)).1 (between_ends (λ c. c.y) t) in
        and_from _ _ (and_from _ _ (le-leb _ _ x.0) (le-leb _ _ x.1)) (and_from _ _ (le-leb _ _ y.0) (le-leb _ _ y.1))

-- each corner is in the box
corner_held : (f : Corner → ℕ) (t : Shape) (c : Corner) → In c t → (least f t ≤ f c) × (f c ≤ greatest f t)
corner_held f t c i =
    let h = and_parts (leb (least f t) (f c)) (leb (f c) (greatest f t)) (every_at (λ d. leb (least f t) (f d) && leb (f d) (greatest f t)) c t i (between_ends f t)) in
    (leb-true _ _ h.0, leb-true _ _ h.1)

-- OVER PLAIN NUMBERS: those between a and b are all below lo, or all above hi
abbrev beyond : (a b lo hi : ℕ) → Bool
beyond a b lo hi = or (ltb (larger a b) lo) (ltb hi (smaller a b))

module _ (a b lo hi : ℕ) (far : beyond a b lo hi ≡ true) where
  -- none of them is from lo to hi
  beyond_off : (u : ℕ) → (lo ≤ u) × (u ≤ hi) → between a b u ≡ false
  beyond_off u h = grind (arith, nat_tests)

  -- nor does their range meet one from lo to hi
  beyond_apart : (c d : ℕ) → (lo ≤ c) × (c ≤ hi) → (lo ≤ d) × (d ≤ hi) → ranges_meet a b c d ≡ false
  beyond_apart c d h k = grind (arith, nat_tests)

  -- nor is a sample after one of them, all made as large
  beyond_sample : (u : ℕ) → between a b u ≡ true → (leb (1048576 * lo) (1048575 * u + b) && leb (1048575 * u + b) (1048576 * hi)) ≡ false
  beyond_sample u h = grind (arith, nat_tests)

-- what is from c to d is so beyond, if c and d are from lo to hi, and all these are beyond
beyond_from : (lo hi lo₁ hi₁ c d : ℕ) → (lo ≤ c) × (c ≤ hi) → (lo ≤ d) × (d ≤ hi) → or (ltb hi lo₁) (ltb hi₁ lo) ≡ true → beyond c d lo₁ hi₁ ≡ true
beyond_from lo hi lo₁ hi₁ c d h k far = grind (arith, nat_tests)

-- IN ONE DIRECTION f: all of the edge is below the least corner of the row, or above the greatest
abbrev past : (Corner → ℕ) → Shape → Edge → Bool
past f t e = beyond (f e.one) (f e.other) (least f t) (greatest f t)

module _ (f : Corner → ℕ) (t : Shape) (e : Edge) (far : past f t e ≡ true) where
  -- so no corner of the row is between its ends
  past_corner : (u : Corner) → In u t → between (f e.one) (f e.other) (f u) ≡ false
  past_corner u i = beyond_off (f e.one) (f e.other) (least f t) (greatest f t) far (f u) (corner_held f t u i)

  -- and no edge's range meets its own
  past_edge : (g : Edge) → In g (edges t) → ranges_meet (f e.one) (f e.other) (f g.one) (f g.other) ≡ false
  past_edge g i =
      let ends = edge_ends t g i in
      beyond_apart (f e.one) (f e.other) (least f t) (greatest f t) far (f g.one) (f g.other) (corner_held f t g.one ends.0)
      (corner_held f t g.other ends.1)

-- AN EDGE OUTSIDE THE BOX
module _ (t : Shape) (e : Edge) (outside : misses (box_of t) e ≡ true) where
  -- it is so eastward or northward
  side : (past (λ c. c.x) t e ≡ true) ⊎ (past (λ c. c.y) t e ≡ true)
  side = or_cases _ _ outside

  -- no corner of the row is on it
  pub missed_corner : (u : Corner) → In u t → on_edge e u ≡ false
  missed_corner u i =
      false_from (on_edge e u)
      (λ on.
      ⊎_elim (λ k. not_both _ (on_edge_parts e u on).1 (past_corner (λ c. c.x) t e k u i))
      (λ k. not_both _ (on_edge_parts e u on).2 (past_corner (λ c. c.y) t e k u i)) side)

  pub missed_corners : any (on_edge e) t ≡ false
  missed_corners = any_false_from (on_edge e) t missed_corner

  -- it meets no edge of the row
  pub missed_meet : any (meet e) (edges t) ≡ false
  missed_meet =
      any_false_from (meet e) (edges t)
      (λ f i. apart_unmet e f (⊎_elim (λ k. and_left _ _ (past_edge (λ c. c.x) t e k f i)) (λ k. and_right _ _ (past_edge (λ c. c.y) t e k f i)) side))

  -- and crosses none over
  pub missed_cross : any (cross_over e) (edges t) ≡ false
  missed_cross = any_stronger (cross_over e) (meet e) (edges t) (λ f h. or_left (cross_over e f) _ h) missed_meet

  -- its samples have an even parity
  pub missed_raw : (u : Corner) → on_edge e u ≡ true → raw t (sample e u) ≡ false
  missed_raw u on =
      raw_outside t (sample e u) (omega arith)
      (⊎_elim (λ k. and_left _ _ (beyond_sample _ _ _ _ k u.x (on_edge_parts e u on).1)) (λ k. and_right _ _ (beyond_sample _ _ _ _ k u.y (on_edge_parts e u on).2))
      side)

  -- so nothing is found along it that is inside the row
  pub missed_inside : (i : Bool) → any (found_at t i true e) (e.one ∷ t) ≡ false
  missed_inside i = any_false_from (found_at t i true e) (e.one ∷ t) (λ u m. false_from (found_at t i true e u) (unfound u))
    where
      unfound : (u : Corner) → found_at t i true e u ≡ true → ⊥
      unfound u h =
          let z = and_parts (starts e u) _ h in
          let on = (and_parts (on_edge e u) _ z.0).0 in
          not_both (not (not (raw t (sample e u)))) (and_parts (not (xor i (not (upward e)))) _ z.1).1 (ap (λ odd. not (not odd)) (missed_raw u on))

  -- and what is outside is found after its beginning only: where the edge is not level, and has the parity i at its side
  pub missed_outside : (i : Bool) → any (found_at t i false e) (e.one ∷ t) ≡ (not (eqb e.one.y e.other.y) && not (xor i (not (upward e))))
  unfolding any
  missed_outside i = ap₂ or first none ∙ or_false_right _
    where
      none : any (found_at t i false e) t ≡ false
      none = any_false_from (found_at t i false e) t (λ u m. and_left _ _ (and_left _ _ (missed_corner u m)))

      first : found_at t i false e e.one ≡ (not (eqb e.one.y e.other.y) && not (xor i (not (upward e))))
      first =
          ap₂ (λ on odd. (on && not (eqb e.one.y e.other.y)) && (not (xor i (not (upward e))) && not odd)) (one_on e) (missed_raw e.one (one_on e))
          ∙ ap (λ z. not (eqb e.one.y e.other.y) && z) (and_true_right (not (xor i (not (upward e)))))

-- BOXES APART
-- each edge of the one row misses the box of the other
pub edge_misses : (s t : Shape) → boxes_apart (box_of s) (box_of t) ≡ true → (e : Edge) → In e (edges s) → misses (box_of t) e ≡ true
edge_misses s t apart e i =
    let ends = edge_ends s e i in
    let held : (f : Corner → ℕ) → or (ltb (greatest f s) (least f t)) (ltb (greatest f t) (least f s)) ≡ true → past f t e ≡ true =
    λ f. beyond_from (least f s) (greatest f s) (least f t) (greatest f t) (f e.one) (f e.other) (corner_held f s e.one ends.0) (corner_held f s e.other ends.1) in
    ⊎_elim (λ k. or_left _ _ (held (λ c. c.x) k)) (λ k. or_right _ _ (held (λ c. c.y) k)) (or_cases _ _ apart)

-- it is mutual
boxes_apart_comm : (s t : Shape) → boxes_apart (box_of s) (box_of t) ≡ boxes_apart (box_of t) (box_of s)
boxes_apart_comm s t = grind arith

-- so the two are apart
pub apart_boxes : (s t : Shape) → boxes_apart (box_of s) (box_of t) ≡ true → way_found s t ≡ 0
unfolding way_found crossing found found_along meeting
apart_boxes s t apart =
    pick_false (crossing s t) 5 _ (any_false_from _ (edges s) (λ e i. missed_cross t e (edge_misses s t apart e i)))
    ∙ pick_false (found s t true true) _ _
    (or_from _ _ (any_false_from _ (edges s) (λ e i. missed_inside t e (edge_misses s t apart e i) true))
    (any_false_from _ (edges t) (λ e i. missed_inside s e (edge_misses t s (boxes_apart_comm t s ∙ apart) e i) true)))
    ∙ pick_false (meeting s t) 1 0 (any_false_from _ (edges s) (λ e i. missed_meet t e (edge_misses s t apart e i)))
