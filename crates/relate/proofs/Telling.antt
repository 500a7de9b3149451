-- The samples tell how two grounds lie.
use Rattle.std.proofs.Common.{◌≡◌, ℕ, Bool, true, false, ◌&&◌, ◌⊎◌, sym, refl, ◌∙◌, subst, ap₂, inl, inr, ⊎_elim}
use Rattle.std.proofs.lemmas.Bool.{cases_Bool, and_parts, leb-true, le-leb}
use Rattle.plane.specs.Lists.{pick, or, any}
use Rattle.plane.specs.Edges.{Edge, grown_edge, on_edge, cross_over, meet}
use Rattle.plane.proofs.Booleans.{pick_true, pick_false, true_from, false_from, not_both, or_cases, or_parts, or_right}
use Rattle.plane.proofs.Lists.{In, any_one, any_at}
use Rattle.plane.proofs.Reversal.{cross_over_comm}
use Rattle.plane.proofs.Growth.{met_grown}
use Rattle.plane.proofs.Crossings.{meet_point, PointOfBoth}
use Rattle.ground.specs.Shapes.{Point, a_point, Shape, edges, as_corner, on_border, inside, in_shape, a_shape}
use Rattle.ground.specs.Ways.{Within, SticksOut, Shares, Apart, Overlaps, OnlyBorders, Lies}
use Rattle.ground.specs.Statements.{crossing, CrossingOver}
use Rattle.relate.specs.Samples.{raw, seen, meeting, way_of}
use Rattle.relate.specs.Statements.{WayTells}
use Rattle.relate.proofs.Pairs.{place_at, in_shape_raw, inside_parts, inside_from, in_from_inside, outside_from, Pair, FreePair, beside_pair, Beside, border_there}
use Rattle.relate.proofs.Sampling.{there_seen, seen_there}
use Rattle.relate.proofs.Crossed.{crossed_sides}

-- WHAT POINTS SAY
-- a point inside the first that is beside the other's border: inside both, or sticking out
pub overlaps_beside : (s t : Shape) → Beside s t true → Overlaps s t
unfolding Overlaps
overlaps_beside s t (p, pointed, within, odd, off) = (p, pointed, within, inside_from t p odd off)

-- beside the outside of the other: it sticks out
pub sticks_beside : (s t : Shape) → Beside s t false → SticksOut s t
unfolding SticksOut
sticks_beside s t (p, pointed, within, even, off) = (p, pointed, in_from_inside s p within, outside_from t p even off)

-- the same of a pair of parities
free_beside : (s t : Shape) (j : Bool) → FreePair s t true j → Beside s t j
free_beside s t j f = (f.point, le-leb 1 f.point.w f.pointed, inside_from s f.point f.first f.off_first, f.second, f.off_second)

-- there is such a point beside any point with these parities
pub pair_beside : (s t : Shape) → a_shape s ≡ true → a_shape t ≡ true → (j : Bool) → Pair s t true j → Beside s t j
pair_beside s t shaped_s shaped_t j pair = free_beside s t j (beside_pair s t shaped_s shaped_t true j pair)

-- seen from the other side
pub pair_turned : (s t : Shape) (i j : Bool) → Pair s t i j → Pair t s j i
pair_turned s t i j (p, pointed, first, second) = (p, pointed, second, first)

-- and such a point has these parities
beside_pair_of : (s t : Shape) (j : Bool) → Beside s t j → Pair s t true j
beside_pair_of s t j (p, pointed, within, other, off) = (p, pointed, (inside_parts s p within).0, other)

-- a point of both borders: an edge of the one meets one of the other
pub borders_meet : (s t : Shape) (p : Point) → a_point p ≡ true → on_border s p ≡ true → on_border t p ≡ true → meeting s t ≡ true
unfolding meeting
borders_meet s t p pointed on_s on_t =
    let x = any_one (λ e. on_edge (grown_edge p.w e) (as_corner p)) (edges s) on_s in
    let y = any_one (λ e. on_edge (grown_edge p.w e) (as_corner p)) (edges t) on_t in
    any_at (λ e. any (meet e) (edges t)) x.0 (edges s) x.1
    (any_at (meet x.0) y.0 (edges t) y.1 (met_grown p.w (leb-true 1 p.w pointed) x.0 y.0 (as_corner p) x.2 y.2))

-- and edges that meet have a point of both borders
meet_shares : (s t : Shape) → meeting s t ≡ true → Shares s t
unfolding meeting Shares
meet_shares s t h =
    let x = any_one (λ e. any (meet e) (edges t)) (edges s) h in
    let y = any_one (meet x.0) (edges t) x.2 in
    at x.0 y.0 x.1 y.1 (meet_point x.0 y.0 y.2)
  where
    at : (e f : Edge) → In e (edges s) → In f (edges t) → PointOfBoth e f → (p : Point) × (a_point p ≡ true) × (in_shape s p ≡ true) × (in_shape t p ≡ true)
    at e f i j (k, c, above, on_e, on_f) = (
      place_at k c,
      le-leb 1 k above,
      or_right (inside s (place_at k c)) (on_border s (place_at k c)) (any_at (λ g. on_edge (grown_edge k g) c) e (edges s) i on_e),
      or_right (inside t (place_at k c)) (on_border t (place_at k c)) (any_at (λ g. on_edge (grown_edge k g) c) f (edges t) j on_f),
    )

-- WHAT THE LACK OF A PAIR SAYS
module _ (s t : Shape) (shaped_s : a_shape s ≡ true) (shaped_t : a_shape t ≡ true) where
  -- no point inside the first is outside the other: the first is within
  pub within_from : (Pair s t true false → ⊥) → Within s t
  unfolding Within
  within_from none p pointed here =
      true_from (in_shape t p)
      (λ out.
      let w = or_parts (raw t p) (on_border t p) (sym (in_shape_raw t p) ∙ out) in
      ⊎_elim (λ odd. none (p, pointed, odd, w.0))
      (λ on. none (beside_pair_of s t false (subst (Beside s t) w.0 (border_there s t shaped_s shaped_t p pointed on w.1))))
      (or_cases (raw s p) (on_border s p) (sym (in_shape_raw s p) ∙ here)))

  -- no point is inside both: they have only borders in common
  only_borders_from : (Pair s t true true → ⊥) → OnlyBorders s t
  unfolding OnlyBorders
  only_borders_from none p pointed =
      false_from (inside s p && inside t p)
      (λ h. let w = and_parts (inside s p) (inside t p) h in none (p, pointed, (inside_parts s p w.0).0, (inside_parts t p w.1).0))

-- and where no edges meet either, they are apart
pub apart_from : (s t : Shape) → a_shape s ≡ true → a_shape t ≡ true → (Pair s t true true → ⊥) → meeting s t ≡ false → Apart s t
unfolding Apart
apart_from s t shaped_s shaped_t none unmet p pointed =
    false_from (in_shape s p && in_shape t p)
    (λ h.
    let w = and_parts (in_shape s p) (in_shape t p) h in
    both (cases_Bool (on_border s p)) (cases_Bool (on_border t p)) (or_cases (raw s p) (on_border s p) (sym (in_shape_raw s p) ∙ w.0))
    (or_cases (raw t p) (on_border t p) (sym (in_shape_raw t p) ∙ w.1)))
  where
    both :
        (on_border s p ≡ true) ⊎ (on_border s p ≡ false) → (on_border t p ≡ true) ⊎ (on_border t p ≡ false) → (raw s p ≡ true) ⊎ (on_border s p ≡ true) →
        (raw t p ≡ true) ⊎ (on_border t p ≡ true) → ⊥
    both (inl on_s) (inl on_t) x y = not_both (meeting s t) (borders_meet s t p pointed on_s on_t) unmet
    both (inl on_s) (inr off_t) x (inl odd) =
        none (beside_pair_of s t true (subst (Beside s t) odd (border_there s t shaped_s shaped_t p pointed on_s off_t)))
    both (inl on_s) (inr off_t) x (inr on_t) = not_both (on_border t p) on_t off_t
    both (inr off_s) (inl on_t) (inl odd) y =
        none (pair_turned t s true true (beside_pair_of t s true (subst (Beside t s) odd (border_there t s shaped_t shaped_s p pointed on_t off_s))))
    both (inr off_s) (inl on_t) (inr on_s) y = not_both (on_border s p) on_s off_s
    both (inr off_s) (inr off_t) (inl odd) (inl odd₁) = none (p, pointed, odd, odd₁)
    both (inr off_s) (inr off_t) (inl odd) (inr on_t) = not_both (on_border t p) on_t off_t
    both (inr off_s) (inr off_t) (inr on_s) y = not_both (on_border s p) on_s off_s

-- CROSSING EDGES: they lie over each other
pub crossing_over : CrossingOver
unfolding CrossingOver crossing Lies
crossing_over s t shaped_s shaped_t h =
    let x = any_one (λ e. any (λ f. cross_over e f) (edges t)) (edges s) h in
    let y = any_one (λ f. cross_over x.0 f) (edges t) x.2 in
    let there = crossed_sides s t shaped_s shaped_t x.0 y.0 x.1 y.1 y.2 in
    let back = crossed_sides t s shaped_t shaped_s y.0 x.0 y.1 x.1 (cross_over_comm y.0 x.0 ∙ y.2) in
    inr (inr (inr (inr (inr (refl, overlaps_beside s t there.0, sticks_beside s t there.1, sticks_beside t s back.1)))))

-- THE WAY
pub way_tells : WayTells
unfolding WayTells Lies way_of CrossingOver
way_tells s t shaped_s shaped_t = ⊎_elim crossed uncrossed (cases_Bool (crossing s t))
  where
    inner : ℕ
    inner =
        pick (seen s t true true) (pick (seen s t true false) (pick (seen s t false true) 5 3) (pick (seen s t false true) 2 4)) (pick (meeting s t) 1 0)

    crossed : crossing s t ≡ true → Lies s t (way_of s t)
    crossed h = subst (Lies s t) (sym (pick_true (crossing s t) 5 inner h)) (crossing_over s t shaped_s shaped_t h)

    uncrossed : crossing s t ≡ false → Lies s t (way_of s t)
    uncrossed none = ⊎_elim over touching (cases_Bool (seen s t true true))
      where
        flat : way_of s t ≡ inner
        flat = pick_false (crossing s t) 5 inner none

        -- what is not seen is not there
        unseen : (i j : Bool) → or i j ≡ true → seen s t i j ≡ false → Pair s t i j → ⊥
        unseen i j some h pair = not_both (seen s t i j) (there_seen s t shaped_s shaped_t none i j some pair) h

        out_first : seen s t true false ≡ true → SticksOut s t
        out_first h = sticks_beside s t (pair_beside s t shaped_s shaped_t false (seen_there s t true false h))

        out_second : seen s t false true ≡ true → SticksOut t s
        out_second h = sticks_beside t s (pair_beside t s shaped_t shaped_s false (pair_turned s t false true (seen_there s t false true h)))

        in_first : seen s t true false ≡ false → Within s t
        in_first h = within_from s t shaped_s shaped_t (unseen true false refl h)

        in_second : seen s t false true ≡ false → Within t s
        in_second h = within_from t s shaped_t shaped_s (λ pair. unseen false true refl h (pair_turned t s true false pair))

        over : seen s t true true ≡ true → Lies s t (way_of s t)
        over h =
            ⊎_elim
            (λ a.
            ⊎_elim
            (λ b.
            inr (inr (inr (inr (inr
            (flat ∙ way a b 5 refl, overlaps_beside s t (pair_beside s t shaped_s shaped_t true (seen_there s t true true h)), out_first a, out_second b))))))
            (λ b. inr (inr (inr (inl (flat ∙ way a b 3 refl, in_second b, out_first a))))) (cases_Bool (seen s t false true)))
            (λ a.
            ⊎_elim (λ b. inr (inr (inl (flat ∙ way a b 2 refl, in_first a, out_second b))))
            (λ b. inr (inr (inr (inr (inl (flat ∙ way a b 4 refl, in_first a, in_second b)))))) (cases_Bool (seen s t false true)))
            (cases_Bool (seen s t true false))
          where
            way : {x y : Bool} → seen s t true false ≡ x → seen s t false true ≡ y → (n : ℕ) → pick x (pick y 5 3) (pick y 2 4) ≡ n → inner ≡ n
            way a b n e = pick_true (seen s t true true) _ (pick (meeting s t) 1 0) h ∙ ap₂ (λ x y. pick x (pick y 5 3) (pick y 2 4)) a b ∙ e

        touching : seen s t true true ≡ false → Lies s t (way_of s t)
        touching h =
            ⊎_elim
            (λ a. inr (inl (flat ∙ skip ∙ pick_true (meeting s t) 1 0 a, meet_shares s t a, only_borders_from s t shaped_s shaped_t (unseen true true refl h))))
            (λ a. inl (flat ∙ skip ∙ pick_false (meeting s t) 1 0 a, apart_from s t shaped_s shaped_t (unseen true true refl h) a)) (cases_Bool (meeting s t))
          where
            skip : inner ≡ pick (meeting s t) 1 0
            skip = pick_false (seen s t true true) _ (pick (meeting s t) 1 0) h
