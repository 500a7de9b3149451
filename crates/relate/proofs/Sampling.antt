-- What parities two grounds that don't cross have anywhere, besides even and even, they have at a sample: from the point west to the first wall, and along it to
-- the last corner on it.
use Rattle.std.proofs.Common.{◌≡◌, ℕ, ◌*◌, ◌≤◌, Bool, true, false, not, ◌&&◌, eqb, ◌++◌, sym, refl, ap, ◌∙◌, subst, mul_comm, mul-le-mul, arith}
use native.Mathlib.Nat.{eq_of_mul-eq-mul_left}
use Rattle.std.proofs.lemmas.Bool.{and_parts, and_from, not-true, not_from_false, ne_eqb}
use Rattle.plane.specs.Lists.{or, any, each}
use Rattle.plane.specs.Corners.{Corner, grown}
use Rattle.plane.specs.Edges.{Edge, edge, grown_edge, on_edge, cross_over}
use Rattle.plane.specs.Parity.{xor, parity}
use Rattle.plane.proofs.Booleans.{false_from, xor_from_same, same_from_xor}
use Rattle.plane.proofs.Lists.{In, in_left, in_right, each_in, any_at, any_one}
use Rattle.plane.proofs.Chains.{closed_grown}
use Rattle.plane.proofs.Sides.{on_edge_parts}
use Rattle.plane.proofs.Growth.{grown_edge_twice, on_edge_grown, cross_over_grown}
use Rattle.plane.proofs.Alongside.{Amidst, amidst_steep, on_within, alongside}
use Rattle.ground.specs.Shapes.{Shape, edges, as_corner, a_shape}
use Rattle.ground.specs.Statements.{crossing}
use Rattle.ground.proofs.Rings.{closed_edges}
use Rattle.ground.proofs.Borders.{grown_both, parity_grown}
use Rattle.relate.specs.Samples.{raw, starts, sample, shows, seen}
use Rattle.relate.proofs.Pairs.{place_at, raw_parity, corner_small, Pair, beside_pair}
use Rattle.relate.proofs.Edges.{all_uncrossed, edge_ends_both}
use Rattle.relate.proofs.Walls.{WallPair, wall_pair}
use Rattle.relate.proofs.Starts.{sample_amid, Start, start}

-- grown, what is amid stays so
amidst_grown : (k : ℕ) → 1 ≤ k → (e : Edge) (m : Corner) → Amidst e m → Amidst (grown_edge k e) (grown k m)
amidst_grown k above e m amid =
    record {
      on = on_edge_grown k above e m ∙ amid.on;
      off_one = λ h. amid.off_one (eq_of_mul-eq-mul_left k above e.one.y m.y h);
      off_other = λ h. amid.off_other (eq_of_mul-eq-mul_left k above e.other.y m.y h);
    }

-- SEEN: what parities there are somewhere are seen at a sample
pub there_seen : (s t : Shape) → a_shape s ≡ true → a_shape t ≡ true → crossing s t ≡ false → (i j : Bool) → or i j ≡ true → Pair s t i j → seen s t i j ≡ true
unfolding seen
there_seen s t shaped_s shaped_t none i j some pair = at_wall (wall_pair s t i j some (beside_pair s t shaped_s shaped_t i j pair))
  where
    at_wall : WallPair s t i j → any (λ e. any (shows s t i j e) (s ++ t)) (edges s ++ edges t) ≡ true
    at_wall w = any_at (λ e. any (shows s t i j e) (s ++ t)) e (edges s ++ edges t) w.one_of (any_at (shows s t i j e) u (s ++ t) from_here.one_of shown)
      where
        e : Edge
        e = w.wall_edge

        k : ℕ
        k = w.times

        q : Corner
        q = w.place

        ends : In w.wall_edge.one (s ++ t) × In w.wall_edge.other (s ++ t)
        ends = edge_ends_both s t w.wall_edge w.one_of

        from_here : Start (s ++ t) w.wall_edge w.times w.place
        from_here =
            start (s ++ t) (corner_small s t shaped_s shaped_t) w.wall_edge ends.0 ends.1 w.times w.above w.place w.amid w.off_heights

        u : Corner
        u = from_here.from

        smp : Corner
        smp = as_corner (sample w.wall_edge from_here.from)

        n : ℕ
        n = 1048576 * w.times

        whole : Edge
        whole = grown_edge (1048576 * w.times) w.wall_edge

        m₁ : Corner
        m₁ = grown 1048576 w.place

        m₂ : Corner
        m₂ = grown w.times (as_corner (sample w.wall_edge from_here.from))

        once : 1 ≤ 1048576
        once = omega arith

        at_m₁ : Amidst whole m₁
        at_m₁ = subst (λ g. Amidst g m₁) (sym (grown_edge_twice 1048576 k e)) (amidst_grown 1048576 once (grown_edge k e) q w.amid)

        at_m₂ : Amidst whole m₂
        at_m₂ =
            subst (λ g. Amidst g m₂) (sym (grown_edge_twice k 1048576 e) ∙ ap (λ z. grown_edge z e) (mul_comm k 1048576))
            (amidst_grown k w.above (grown_edge 1048576 e) smp (sample_amid e u from_here.on from_here.short))

        large : 1 ≤ n
        large = mul-le-mul once w.above

        along : (r : Shape) → ((g : Edge) → In g (edges r) → In g (edges s ++ edges t)) →
            raw r (place_at k q) ≡ raw r (sample e u)
        along r sub =
            raw_parity r (place_at k q)
            ∙ sym (parity_grown 1048576 once (each (grown_edge k) (edges r)) q)
            ∙ ap (λ fs. parity fs m₁) (grown_both 1048576 k (edges r))
            ∙ alongside whole m₁ m₂ at_m₁ at_m₂ (each (grown_edge n) (edges r)) uncut free (closed_grown n (edges r) (closed_edges r))
            ∙ ap (λ z. parity (each (grown_edge z) (edges r)) m₂) (mul_comm 1048576 k)
            ∙ ap (λ fs. parity fs m₂) (sym (grown_both k 1048576 (edges r)))
            ∙ parity_grown k w.above (each (grown_edge 1048576) (edges r)) smp
            ∙ sym (raw_parity r (sample e u))
          where
            uncut : (g : Edge) → In g (each (grown_edge n) (edges r)) → cross_over g whole ≡ false
            uncut g l =
                let z = each_in (grown_edge n) g (edges r) l in
                ap (λ h. cross_over h whole) z.2 ∙ cross_over_grown n large z.0 e
                ∙ all_uncrossed s t shaped_s shaped_t none z.0 e (sub z.0 z.1) w.one_of

            clear : (v : Corner) → In v (s ++ t) → on_edge (edge m₁ m₂) (grown n v) ≡ false
            clear v l =
                false_from (on_edge (edge m₁ m₂) (grown n v))
                (λ h.
                from_here.blocked v l
                (sym (on_edge_grown n large e v) ∙ on_within whole m₁ m₂ (grown n v) (amidst_steep whole m₁ at_m₁) at_m₁.on at_m₂.on h)
                (on_edge_parts (edge m₁ m₂) (grown n v) h).2)

            free : (g : Edge) → In g (each (grown_edge n) (edges r)) → (on_edge (edge m₁ m₂) g.one ≡ false) × (on_edge (edge m₁ m₂) g.other ≡ false)
            free g l =
                let z = each_in (grown_edge n) g (edges r) l in
                let c = edge_ends_both s t z.0 (sub z.0 z.1) in
                (ap (λ h. on_edge (edge m₁ m₂) h.one) z.2 ∙ clear z.0.one c.0, ap (λ h. on_edge (edge m₁ m₂) h.other) z.2 ∙ clear z.0.other c.1)

        shown : shows s t i j e u ≡ true
        shown =
            and_from _ _ (and_from _ _ from_here.on (not_from_false (eqb u.y e.other.y) (ne_eqb u.y e.other.y from_here.short)))
            (and_from _ _
            (not_from_false (xor i (raw s (sample e u))) (xor_from_same i (raw s (sample e u)) (sym w.first ∙ along s (λ g l. in_left g (edges s) (edges t) l))))
            (not_from_false (xor j (raw t (sample e u))) (xor_from_same j (raw t (sample e u)) (sym w.second ∙ along t (λ g l. in_right g (edges s) (edges t) l)))))

-- and what is seen is there
pub seen_there : (s t : Shape) (i j : Bool) → seen s t i j ≡ true → Pair s t i j
unfolding seen
seen_there s t i j h =
    let x = any_one (λ e. any (shows s t i j e) (s ++ t)) (edges s ++ edges t) h in
    let y = any_one (shows s t i j x.0) (s ++ t) x.2 in
    let p = sample x.0 y.0 in
    let z = and_parts (starts x.0 y.0) (not (xor i (raw s p)) && not (xor j (raw t p))) y.2 in
    let w = and_parts (not (xor i (raw s p))) (not (xor j (raw t p))) z.1 in
    (p, refl, sym (same_from_xor i (raw s p) (not-true (xor i (raw s p)) w.0)), sym (same_from_xor j (raw t p) (not-true (xor j (raw t p)) w.1)))
