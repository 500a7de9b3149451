-- Where an edge of one ground crosses an edge of another over, the first ground has points inside it on both sides of the other's border.
use Rattle.std.proofs.Common.{◌≡◌, ℕ, ◌+◌, ◌*◌, ◌<◌, ◌≤◌, Bool, true, false, not, ◌&&◌, ◌⊎◌, List, ◌∷◌, ◌++◌, sym, refl, ap, ◌∙◌, subst, ap₂, inl, inr, ⊎_elim, mul-le-mul, mul-le-mul_left, arith}
use Rattle.std.proofs.lemmas.Bool.{and_parts, and_from, and_left, not_from_false, le-leb, eqb-true, false≢true}
use Rattle.plane.specs.Lists.{or, each}
use Rattle.plane.specs.Corners.{Corner, corner, grown, lefts, rights, left_turn, right_turn, in_line, same_corner}
use Rattle.plane.specs.Edges.{Edge, grown_edge, on_edge, cross_over}
use Rattle.plane.specs.Parity.{xor, xors, parity}
use Rattle.plane.proofs.Booleans.{false_from, not_both}
use Rattle.plane.proofs.Lists.{In, each_in, in_each, in_append, any_at, any_false_from}
use Rattle.plane.proofs.Xors.{xors_each, xors_append, xors_in, xors_never}
use Rattle.plane.proofs.Chains.{closed_grown}
use Rattle.plane.proofs.Sides.{on_edge_parts}
use Rattle.plane.proofs.Reversal.{parts, parts_by_reversed, cross_over_comm}
use Rattle.plane.proofs.Growth.{grown_edge_twice, on_edge_grown, left_turn_grown, right_turn_grown, in_line_grown}
use Rattle.plane.proofs.Crossings.{mean, left_aside, right_aside, line_aside, convex, one_on, other_on, parts_off, uncrossed_ends, cross_point, PointOfBoth}
use Rattle.plane.proofs.Beside.{Below}
use Rattle.plane.proofs.Stepping.{AllBelow}
use Rattle.plane.specs.Orientation.{amid}
use Rattle.plane.proofs.Nearby.{Near, stepped, local}
use Rattle.plane.proofs.Vicinity.{aside_near, off_near}
use Rattle.ground.specs.Shapes.{Shape, edges, on_border, a_shape}
use Rattle.ground.proofs.Rings.{closed_edges, shape_parts}
use Rattle.ground.proofs.Clearance.{fine, fine_comm, ring_fine, pairwise, pairwise_around, split_in, alone, one_corner}
use Rattle.ground.proofs.Borders.{grown_both, below_edges, below_grown, below_on, near_mean}
use Rattle.relate.proofs.Pairs.{place_at, raw_parity, Beside, border_there}

-- AT A CROSSING: c is on the edge e of s and on the edge f of t, which cross over, all made k times as large
module _
    (s t : Shape) (shaped_s : a_shape s ≡ true) (shaped_t : a_shape t ≡ true) (e f : Edge) (i : In e (edges s)) (j : In f (edges t))
    (crossed : cross_over e f ≡ true) (k : ℕ) (above_k : 1 ≤ k) (c : Corner) (on_e : on_edge (grown_edge k e) c ≡ true)
    (on_f : on_edge (grown_edge k f) c ≡ true) (m v : ℕ) (m_is : m ≡ k * 1048576 + 2) (v_is : v ≡ 4 * (m * m))
  where
    -- the bounds: m is above all coordinates, and v large enough for nearness
    large : 4 * (m * m) < 1 + v
    large = omega arith

    some : 1 ≤ m
    some = omega arith

    small : m < 1 + v
    small = omega (arith, mul-le-mul_left m some)

    -- all ends of edges are below m, and so is c
    below_s : AllBelow m (each (grown_edge k) (edges s))
    below_s = subst (λ n. AllBelow n (each (grown_edge k) (edges s))) (sym m_is) (below_grown k 1048576 (edges s) (below_edges s shaped_s) above_k)

    below_t : AllBelow m (each (grown_edge k) (edges t))
    below_t = subst (λ n. AllBelow n (each (grown_edge k) (edges t))) (sym m_is) (below_grown k 1048576 (edges t) (below_edges t shaped_t) above_k)

    below_e : Below m (grown k e.one) × Below m (grown k e.other)
    below_e = below_s (grown_edge k e) (in_each (grown_edge k) e (edges s) i)

    below_c : Below m c
    below_c = below_on (grown_edge k e) c m on_e below_e.0 below_e.1

    -- the edges of t before f and after it
    cut : (before : List Edge) × (after : List Edge) × (edges t ≡ before ++ f ∷ after)
    cut = split_in f (edges t) j

    -- the others may stand in one ground with f
    around : ((g : Edge) → In g cut.0 → fine f g ≡ true) × ((g : Edge) → In g cut.1 → fine f g ≡ true)
    around = pairwise_around fine fine_comm cut.0 f cut.1 (subst (λ fs. pairwise fine fs ≡ true) cut.2 (ring_fine (edges t) (shape_parts t shaped_t).clear))

    -- c is no end of f
    ends : (grown k f.one ≡ c → ⊥) × (grown k f.other ≡ c → ⊥)
    ends = uncrossed_ends k above_k f e c (cross_over_comm f e ∙ crossed) on_e

    -- so it is on no other edge of t
    other_off : (g : Edge) → fine f g ≡ true → on_edge (grown_edge k g) c ≡ false
    other_off = alone k above_k c f on_f (λ x y. ends.0 (sym (ap₂ corner x y))) (λ x y. ends.1 (sym (ap₂ corner x y)))

    -- the ends of e are on the two sides of f
    both : parts f e ≡ true
    both = (and_parts (parts e f) (parts f e) crossed).1

    -- neither end of e is in line with f
    off_one : in_line f.one f.other e.one ≡ false
    off_one = false_from (in_line f.one f.other e.one) (λ h. not_both (parts f e) both (parts_off f e.one e.other h))

    off_other : in_line f.one f.other e.other ≡ false
    off_other =
        false_from (in_line f.one f.other e.other) (λ h. not_both (parts f e) both (sym (parts_by_reversed f e) ∙ parts_off f e.other e.one h))

    -- c is in line with f
    line : lefts (grown k f.one) (grown k f.other) c ≡ rights (grown k f.one) (grown k f.other) c
    line = eqb-true _ _ (on_edge_parts (grown_edge k f) c on_f).0

    -- each edge of t is f, or may stand in one ground with it
    which : (g : Edge) → In g (edges t) → (g ≡ f) ⊎ (fine f g ≡ true)
    which g l =
        ⊎_elim (λ n. inr (around.0 g n)) (λ n. ⊎_elim (λ d. inl d) (λ o. inr (around.1 g o)) n) (in_append g cut.0 (f ∷ cut.1) (subst (In g) cut.2 l))

    -- A LITTLE ON FROM c towards z, which is on e and not in line with f
    module _ (z : Corner) (on_z : on_edge e z ≡ true) (below_z : Below m (grown k z)) (off_z : in_line f.one f.other z ≡ false) where
      near_z : Near (1 + v) m c (mean 1 v c (grown k z))
      near_z = near_mean v m c (grown k z) below_c below_z

      unlined : in_line (grown (1 + v) (grown k f.one)) (grown (1 + v) (grown k f.other)) (mean 1 v c (grown k z)) ≡ false
      unlined = line_aside v c (grown k z) (grown k f.one) (grown k f.other) line ∙ in_line_grown k above_k f.one f.other z ∙ off_z

      -- it is on the border of s
      on_first : on_border s (place_at ((1 + v) * k) (mean 1 v c (grown k z))) ≡ true
      on_first =
          any_at (λ g. on_edge (grown_edge ((1 + v) * k) g) (mean 1 v c (grown k z))) e (edges s) i
          (ap (λ g. on_edge g (mean 1 v c (grown k z))) (grown_edge_twice (1 + v) k e)
          ∙ convex 1 v (grown_edge k e) c (grown k z) on_e (on_edge_grown k above_k e z ∙ on_z))

      -- and not on that of t
      off_second : on_border t (place_at ((1 + v) * k) (mean 1 v c (grown k z))) ≡ false
      off_second =
          any_false_from (λ g. on_edge (grown_edge ((1 + v) * k) g) (mean 1 v c (grown k z))) (edges t)
          (λ g l. ap (λ h. on_edge h (mean 1 v c (grown k z))) (grown_edge_twice (1 + v) k g) ∙ off g (which g l) l)
        where
          off : (g : Edge) → (g ≡ f) ⊎ (fine f g ≡ true) → In g (edges t) → on_edge (grown_edge (1 + v) (grown_edge k g)) (mean 1 v c (grown k z)) ≡ false
          off g (inl d) l = ap (λ h. on_edge (grown_edge (1 + v) (grown_edge k h)) (mean 1 v c (grown k z))) d ∙ and_left _ _ unlined
          off g (inr h) l =
              off_near (1 + v) m m large c (mean 1 v c (grown k z)) (mean 1 v c (grown k z)) near_z near_z (grown_edge k g)
              (below_t (grown_edge k g) (in_each (grown_edge k) g (edges t) l)) (other_off g h)

      -- so beside it there is a point inside s that lies to t as it does
      beside : Beside s t (parity (each (grown_edge (1 + v)) (each (grown_edge k) (edges t))) (mean 1 v c (grown k z)))
      beside =
          subst (Beside s t)
          (raw_parity t (place_at ((1 + v) * k) (mean 1 v c (grown k z)))
          ∙ ap (λ fs. parity fs (mean 1 v c (grown k z))) (sym (grown_both (1 + v) k (edges t))))
          (border_there s t shaped_s shaped_t (place_at ((1 + v) * k) (mean 1 v c (grown k z)))
          (le-leb 1 ((1 + v) * k) (mul-le-mul many above_k)) on_first off_second)
        where
          many : 1 ≤ 1 + v
          many = omega arith

    -- BOTH SIDES OF f: between the two the parity of t changes, by f alone
    through : (g : Edge) → In g (each (grown_edge k) (edges t)) → on_edge g c ≡ true →
        (amid g c ≡ true) × (in_line (grown (1 + v) g.one) (grown (1 + v) g.other) (mean 1 v c (grown k e.one)) ≡ false)
        × (in_line (grown (1 + v) g.one) (grown (1 + v) g.other) (mean 1 v c (grown k e.other)) ≡ false)
    through g l on =
        let z = each_in (grown_edge k) g (edges t) l in
        subst
        (λ h.
        (amid h c ≡ true) × (in_line (grown (1 + v) h.one) (grown (1 + v) h.other) (mean 1 v c (grown k e.one)) ≡ false)
        × (in_line (grown (1 + v) h.one) (grown (1 + v) h.other) (mean 1 v c (grown k e.other)) ≡ false))
        (ap (grown_edge k) (sym (it_is z.0 (which z.0 z.1) (ap (λ h. on_edge h c) (sym z.2) ∙ on))) ∙ sym z.2) (
          and_from _ _ on_f (and_from _ _ (differs (grown k f.one) ends.0) (differs (grown k f.other) ends.1)),
          unlined e.one (one_on e) below_e.0 off_one,
          unlined e.other (other_on e) below_e.1 off_other,
        )
      where
        it_is : (h : Edge) → (h ≡ f) ⊎ (fine f h ≡ true) → on_edge (grown_edge k h) c ≡ true → h ≡ f
        it_is h (inl d) on_h = d
        it_is h (inr ok) on_h = absurd (not_both (on_edge (grown_edge k h) c) on_h (other_off h ok))

        differs : (d : Corner) → (d ≡ c → ⊥) → not (same_corner d c) ≡ true
        differs d apart = not_from_false (same_corner d c) (false_from (same_corner d c) (λ h. apart (one_corner d c h)))

    -- so the parities of t differ at the two
    changed :
        xor (parity (each (grown_edge (1 + v)) (each (grown_edge k) (edges t))) (mean 1 v c (grown k e.one)))
        (parity (each (grown_edge (1 + v)) (each (grown_edge k) (edges t))) (mean 1 v c (grown k e.other))) ≡ true
    unfolding xors
    changed =
        local (1 + v) m small (each (grown_edge k) (edges t)) c x₁ x₂ near₁ near₂ through
        (λ g l off. aside_near (1 + v) m m large c x₁ x₂ near₁ near₂ g (below_t g l) off) (closed_grown k (edges t) (closed_edges t))
        ∙ xors_each (stepped (1 + v) c x₁ x₂) (grown_edge k) (edges t) ∙ ap (xors step) cut.2 ∙ xors_append step cut.0 (f ∷ cut.1)
        ∙ ap₂ xor (none cut.0 around.0) (ap₂ xor passed (none cut.1 around.1))
      where
        x₁ : Corner
        x₁ = mean 1 v c (grown k e.one)

        x₂ : Corner
        x₂ = mean 1 v c (grown k e.other)

        near₁ : Near (1 + v) m c (mean 1 v c (grown k e.one))
        near₁ = near_mean v m c (grown k e.one) below_c below_e.0

        near₂ : Near (1 + v) m c (mean 1 v c (grown k e.other))
        near₂ = near_mean v m c (grown k e.other) below_c below_e.1

        step : Edge → Bool
        step g = stepped (1 + v) c (mean 1 v c (grown k e.one)) (mean 1 v c (grown k e.other)) (grown_edge k g)

        none : (fs : List Edge) → ((g : Edge) → In g fs → fine f g ≡ true) → xors step fs ≡ false
        none fs each_fine = xors_in step (λ g. false) fs (λ g l. and_left _ _ (other_off g (each_fine g l))) ∙ xors_never fs

        f₁ : Corner
        f₁ = grown k f.one

        f₂ : Corner
        f₂ = grown k f.other

        left_at : (z : Corner) → left_turn (grown (1 + v) (grown k f.one)) (grown (1 + v) (grown k f.other)) (mean 1 v c (grown k z)) ≡ left_turn f.one f.other z
        left_at z = left_aside v c (grown k z) f₁ f₂ line ∙ left_turn_grown k above_k f.one f.other z

        right_at : (z : Corner) → right_turn (grown (1 + v) (grown k f.one)) (grown (1 + v) (grown k f.other)) (mean 1 v c (grown k z)) ≡ right_turn f.one f.other z
        right_at z = right_aside v c (grown k z) f₁ f₂ line ∙ right_turn_grown k above_k f.one f.other z

        passed : step f ≡ true
        passed =
            and_from _ _ on_f
            (ap₂ or (ap₂ ◌&&◌ (left_at e.one) (right_at e.other)) (ap₂ ◌&&◌ (right_at e.one) (left_at e.other)) ∙ both)

    -- and one of the two places is inside t, the other outside
    sides : Beside s t true × Beside s t false
    sides =
        told _ _ changed (beside e.one (one_on e) below_e.0 off_one) (beside e.other (other_on e) below_e.1 off_other)
      where
        told : (a b : Bool) → xor a b ≡ true → Beside s t a → Beside s t b → Beside s t true × Beside s t false
        told true true h x y = absurd (false≢true h)
        told true false h x y = (x, y)
        told false true h x y = (y, x)
        told false false h x y = absurd (false≢true h)

-- two edges that cross over: points inside s on both sides of the border of t
pub crossed_sides : (s t : Shape) → a_shape s ≡ true → a_shape t ≡ true → (e f : Edge) → In e (edges s) → In f (edges t) → cross_over e f ≡ true →
    Beside s t true × Beside s t false
crossed_sides s t shaped_s shaped_t e f i j crossed = at (cross_point e f crossed)
  where
    at : PointOfBoth e f → Beside s t true × Beside s t false
    at (k, c, above_k, on_e, on_f) =
        sides s t shaped_s shaped_t e f i j crossed k above_k c on_e on_f (k * 1048576 + 2) (4 * ((k * 1048576 + 2) * (k * 1048576 + 2))) refl refl
