-- Two grounds whose edges don't meet: along the border of the one the other's parity does not change, so one corner of each tells how they lie.
use Rattle.std.proofs.Common.{◌≡◌, ℕ, ◌*◌, ◌≤◌, Bool, true, false, not, ◌&&◌, ◌++◌, sym, refl, ap, ◌∙◌, ap₂, ⊎_elim, mul-le-mul, arith}
use native.Mathlib.Nat.{eq_of_mul-eq-mul_left}
use Rattle.plane.specs.Lists.{or, any, each}
use Rattle.plane.specs.Corners.{Corner, corner, grown}
use Rattle.plane.specs.Edges.{Edge, edge, grown_edge, on_edge, meet}
use Rattle.plane.specs.Parity.{parity}
use Rattle.plane.proofs.Booleans.{false_from, not_both, and_true_right}
use Rattle.plane.proofs.Lists.{In, Best, smallest, in_left, in_right, in_append, in_each, any_one, any_each, any_same, any_false_from, any_false_at}
use Rattle.plane.proofs.Chains.{closed_grown}
use Rattle.plane.proofs.Reversal.{meet_comm}
use Rattle.plane.proofs.Growth.{grown_edge_twice, on_edge_grown, met_grown}
use Rattle.plane.proofs.Parity.{parity_unmet}
use Rattle.plane.proofs.Crossings.{one_on, other_on, meet_point, PointOfBoth}
use Rattle.plane.proofs.Alongside.{on_piece}
use Rattle.plane.proofs.Stepping.{even_westmost}
use Rattle.ground.specs.Shapes.{Shape, edges, on_border, inside, a_shape}
use Rattle.ground.specs.Statements.{CornersTell, as_point}
use Rattle.ground.proofs.Rings.{closed_edges, edge_ends, ring_same, corner_begins, shape_parts}
use Rattle.ground.proofs.Symmetry.{ring_distinct, distinct_grown, ends_apart}
use Rattle.ground.proofs.Borders.{parity_grown}
use Rattle.relate.specs.Samples.{raw, meeting}
use Rattle.relate.proofs.Pairs.{place_at, raw_parity, inside_raw, Pair, beside_pair}
use Rattle.relate.proofs.Walls.{WallPair, wall_pair}
use Rattle.relate.proofs.Telling.{within_from, apart_from}

-- A CORNER AS A POINT
once : (c : Corner) → grown 1 c ≡ c
once c = ap₂ corner (omega arith) (omega arith)

-- its parity
raw_corner : (t : Shape) (c : Corner) → raw t (as_point c) ≡ parity (edges t) c
raw_corner t c =
    raw_parity t (as_point c) ∙ sym (ap (parity (each (grown_edge 1) (edges t))) (once c)) ∙ parity_grown 1 (omega arith) (edges t) c

-- and whether it is on the border
border_corner : (t : Shape) (c : Corner) → on_border t (as_point c) ≡ any (λ e. on_edge e c) (edges t)
border_corner t c =
    any_same (λ e. on_edge (grown_edge 1 e) c) (λ e. on_edge e c) (edges t) (λ e. sym (ap (on_edge (grown_edge 1 e)) (once c)) ∙ on_edge_grown 1 (omega arith) e c)

-- THE BORDER OF s AND THE EDGES OF t
abbrev Unmet : Shape → Shape → Type 0
Unmet s t = (e f : Edge) → In e (edges s) → In f (edges t) → meet e f ≡ false

module _ (s t : Shape) (shaped_s : a_shape s ≡ true) (unmet : Unmet s t) where
  -- a point of an edge of s is on no edge of t
  off_border : (e : Edge) → In e (edges s) → (w : ℕ) → 1 ≤ w → (c : Corner) → on_edge (grown_edge w e) c ≡ true → (f : Edge) → In f (edges t) →
      on_edge (grown_edge w f) c ≡ false
  off_border e i w above c on f j =
      false_from (on_edge (grown_edge w f) c) (λ h. not_both (meet e f) (met_grown w above e f c on h) (unmet e f i j))

  -- and has the parity of t that the first end of the edge has
  pub along_edge : (e : Edge) → In e (edges s) → (w : ℕ) → 1 ≤ w → (c : Corner) → on_edge (grown_edge w e) c ≡ true → raw t (place_at w c) ≡ parity (edges t) e.one
  along_edge e i w above c on =
      raw_parity t (place_at w c)
      ∙ parity_unmet (each (grown_edge w) (edges t)) c (grown w e.one) (closed_grown w (edges t) (closed_edges t))
      (any_each (λ f. meet f (edge c (grown w e.one))) (grown_edge w) (edges t)
      ∙ any_false_from (λ f. meet (grown_edge w f) (edge c (grown w e.one))) (edges t)
      (λ f j. false_from (meet (grown_edge w f) (edge c (grown w e.one))) (λ h. met f j (meet_point (grown_edge w f) (edge c (grown w e.one)) h))))
      ∙ parity_grown w above (edges t) e.one
    where
      apart : (g : Edge) → In g (each (grown_edge w) (edges s)) → g.one.x ≡ g.other.x → g.one.y ≡ g.other.y → ⊥
      apart = ends_apart (each (grown_edge w) (edges s)) (distinct_grown w above (edges s) ∙ ring_distinct (edges s) (shape_parts s shaped_s).clear)

      met : (f : Edge) → In f (edges t) → PointOfBoth (grown_edge w f) (edge c (grown w e.one)) → ⊥
      met f j (k, x, above_k, on_f, on_step) =
          not_both (on_edge (grown_edge (k * w) f) x) (ap (λ h. on_edge h x) (grown_edge_twice k w f) ∙ on_f)
          (off_border e i (k * w) (mul-le-mul above_k above) x (ap (λ h. on_edge h x) (grown_edge_twice k w e) ∙ on_e) f j)
        where
          on_e : on_edge (grown_edge k (grown_edge w e)) x ≡ true
          on_e =
              on_piece (grown_edge k (grown_edge w e)) (grown k c) (grown k (grown w e.one)) x
              (λ hx hy.
              apart (grown_edge w e) (in_each (grown_edge w) e (edges s) i) (eq_of_mul-eq-mul_left k above_k (w * e.one.x) (w * e.other.x) hx)
              (eq_of_mul-eq-mul_left k above_k (w * e.one.y) (w * e.other.y) hy))
              (on_edge_grown k above_k (grown_edge w e) c ∙ on)
              (on_edge_grown k above_k (grown_edge w e) (grown w e.one) ∙ on_edge_grown w above e e.one ∙ one_on e) on_step

  -- so all corners of s have it
  same_corners : (c d : Corner) → In c s → In d s → parity (edges t) c ≡ parity (edges t) d
  same_corners =
      ring_same (parity (edges t)) s
      (λ e i.
      sym (along_edge e i 1 one (grown 1 e.other) (on_edge_grown 1 one e e.other ∙ other_on e))
      ∙ raw_parity t (place_at 1 (grown 1 e.other)) ∙ parity_grown 1 one (edges t) e.other)
    where
      one : 1 ≤ 1
      one = omega arith

  -- and no corner of s is on an edge of t
  corner_off : (c : Corner) → In c s → any (λ f. on_edge f c) (edges t) ≡ false
  corner_off c i =
      let w = corner_begins s c i in
      any_false_from (λ f. on_edge f c) (edges t)
      (λ f j.
      sym (on_edge_grown 1 (omega arith) f c)
      ∙ off_border w.0 w.1 1 (omega arith) (grown 1 c) (on_edge_grown 1 (omega arith) w.0 c ∙ ap (on_edge w.0) (sym w.2) ∙ one_on w.0) f j)

  -- a corner of s is inside t as its parity says
  pub corner_inside : (c : Corner) → In c s → inside t (as_point c) ≡ parity (edges t) c
  corner_inside c i =
      inside_raw t (as_point c) ∙ ap₂ (λ a b. a && not b) (raw_corner t c) (border_corner t c ∙ corner_off c i) ∙ and_true_right (parity (edges t) c)

  -- a westmost corner of all is not enclosed
  westmost_out : (c : Corner) → In c s → ((d : Corner) → In d t → c.x ≤ d.x) → parity (edges t) c ≡ false
  westmost_out c i west =
      even_westmost (edges t) c (closed_edges t) (λ f j. let w = edge_ends t f j in (west f.one w.0, west f.other w.1)) (corner_off c i)

-- EACH INSIDE THE OTHER cannot be
not_both_inside : (s t : Shape) → a_shape s ≡ true → a_shape t ≡ true → Unmet s t → Unmet t s → (a : Corner) → In a s →
    ((c : Corner) → In c s → parity (edges t) c ≡ true) → ((d : Corner) → In d t → parity (edges s) d ≡ true) → ⊥
not_both_inside s t shaped_s shaped_t unmet unmet_back a i in_t in_s = by (smallest (λ c. c.x) (λ c. true) a (s ++ t) (in_left a s t i) refl)
  where
    by : Best (λ c d. d.x ≤ c.x) (λ c. true) (s ++ t) → ⊥
    by (u, m, ok, west) =
        ⊎_elim
        (λ k. not_both (parity (edges t) u) (in_t u k) (westmost_out s t shaped_s unmet u k (λ d l. west d (in_right d s t l) refl)))
        (λ k. not_both (parity (edges s) u) (in_s u k) (westmost_out t s shaped_t unmet_back u k (λ d l. west d (in_left d s t l) refl)))
        (in_append u s t m)

-- CORNERS TELL
pub corners_tell : CornersTell
unfolding CornersTell meeting
corners_tell s t shaped_s shaped_t none = (
  (λ h. within_from s t shaped_s shaped_t (λ pair. not_out (any_one (λ c. inside t (as_point c)) s h) (at_wall true false refl pair))),
  (λ h k. apart_from s t shaped_s shaped_t (λ pair. not_over h k (at_wall true true refl pair)) unmeeting),
)
  where
    unmet : Unmet s t
    unmet e f i j = any_false_at (λ g. meet e g) f (edges t) j (any_false_at (λ g. any (λ k. meet g k) (edges t)) e (edges s) i none)

    unmet_back : Unmet t s
    unmet_back f e j i = meet_comm f e ∙ unmet e f i j

    unmeeting : meeting s t ≡ false
    unmeeting = any_false_from (λ e. any (meet e) (edges t)) (edges s) (λ e i. any_false_from (meet e) (edges t) (λ f j. unmet e f i j))

    at_wall : (i j : Bool) → or i j ≡ true → Pair s t i j → WallPair s t i j
    at_wall i j some pair = wall_pair s t i j some (beside_pair s t shaped_s shaped_t i j pair)

    -- the wall is of s, or of t
    on_first : (i j : Bool) (w : WallPair s t i j) → In w.wall_edge (edges s) → parity (edges t) w.wall_edge.one ≡ j
    on_first i j w k = sym (along_edge s t shaped_s unmet w.wall_edge k w.times w.above w.place w.amid.on) ∙ w.second

    on_second : (i j : Bool) (w : WallPair s t i j) → In w.wall_edge (edges t) → parity (edges s) w.wall_edge.one ≡ i
    on_second i j w k = sym (along_edge t s shaped_t unmet_back w.wall_edge k w.times w.above w.place w.amid.on) ∙ w.first

    not_out : (c : Corner) × In c s × (inside t (as_point c) ≡ true) → WallPair s t true false → ⊥
    not_out (c, i, within) w =
        ⊎_elim
        (λ k. not_both (parity (edges t) w.wall_edge.one) (all_in w.wall_edge.one (edge_ends s w.wall_edge k).0) (on_first true false w k))
        (λ k.
        not_both_inside s t shaped_s shaped_t unmet unmet_back c i all_in
        (λ d l. same_corners t s shaped_t unmet_back d w.wall_edge.one l (edge_ends t w.wall_edge k).0 ∙ on_second true false w k))
        (in_append w.wall_edge (edges s) (edges t) w.one_of)
      where
        all_in : (d : Corner) → In d s → parity (edges t) d ≡ true
        all_in d l = same_corners s t shaped_s unmet d c l i ∙ sym (corner_inside s t shaped_s unmet c i) ∙ within

    not_over : any (λ c. inside t (as_point c)) s ≡ false → any (λ c. inside s (as_point c)) t ≡ false → WallPair s t true true → ⊥
    not_over h k w =
        ⊎_elim
        (λ l.
        let m = (edge_ends s w.wall_edge l).0 in
        not_both (parity (edges t) w.wall_edge.one) (on_first true true w l)
        (sym (corner_inside s t shaped_s unmet w.wall_edge.one m) ∙ any_false_at (λ c. inside t (as_point c)) w.wall_edge.one s m h))
        (λ l.
        let m = (edge_ends t w.wall_edge l).0 in
        not_both (parity (edges s) w.wall_edge.one) (on_second true true w l)
        (sym (corner_inside t s shaped_t unmet_back w.wall_edge.one m) ∙ any_false_at (λ c. inside s (as_point c)) w.wall_edge.one t m k))
        (in_append w.wall_edge (edges s) (edges t) w.one_of)
