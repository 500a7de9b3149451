-- Edges that end in one corner and lie on each other nowhere else: they have only that corner in common.
use Rattle.std.proofs.Common.{◌≡◌, ℕ, true, false, sym, ap, ◌∙◌, ⊎_elim, arith}
use Rattle.std.proofs.lemmas.Bool.{eqb-true, cases_Bool, cases_eq}
use Rattle.std.proofs.lemmas.Bool.Decides.{nat_tests}
use Rattle.plane.specs.Corners.{Corner, lefts, rights, between}
use Rattle.plane.specs.Edges.{edge, on_edge}
use Rattle.plane.proofs.Booleans.{false_from, not_both}
use Rattle.plane.proofs.Incidence.{between_cases, on_line}
use Rattle.plane.proofs.Proportion.{other_in_line}
use Rattle.plane.proofs.Reversal.{between_comm}
use Rattle.plane.proofs.Sides.{on_edge_parts}
use Rattle.plane.proofs.Turns.{mirrored}
use Rattle.plane.proofs.Northward.{on_edge_mirrored}

-- where the edges from b to a and from b to d have a point in common that is not at the height of b, all is in line
neighbours_line : (a b d m : Corner) → lefts a b m ≡ rights a b m → lefts b d m ≡ rights b d m → (m.y ≡ b.y → ⊥) → lefts a b d ≡ rights a b d
neighbours_line a b d m h k off = ⊎_elim (λ e. e) (λ e. absurd (off (ap (λ c. c.y) (sym e)))) (other_in_line b d m a b k h (omega arith))

-- seen from b, a and d are both where m is: the one that is not beyond the other lies between
nearer : (a b d m : ℕ) → between a b m ≡ true → between b d m ≡ true → (m ≡ b → ⊥) → between a b d ≡ false → between b d a ≡ true
nearer a b d m h k off far = grind (arith, nat_tests)

-- an edge with a point that is not at the height of its one end is not level
apart : (b d m : ℕ) → between b d m ≡ true → (m ≡ b → ⊥) → b ≡ d → ⊥
apart b d m h off e = ⊎_elim (λ k. off (omega arith)) (λ k. off (omega arith)) (between_cases b d m h)

-- a point of the edge from a to b that is not at the height of b is not on the edge from b to d, unless an end of the one lies on the other
off_by_height : (a b d m : Corner) → on_edge (edge a b) m ≡ true → (m.y ≡ b.y → ⊥) → on_edge (edge a b) d ≡ false → on_edge (edge b d) a ≡ false →
    on_edge (edge b d) m ≡ false
off_by_height a b d m here off far back = false_from (on_edge (edge b d) m) met
  where
    -- d is beyond a: then a is on the edge from b to d
    back_on : lefts a b d ≡ rights a b d → between a.y b.y m.y ≡ true → between b.y d.y m.y ≡ true → between a.y b.y d.y ≡ false →
        on_edge (edge b d) a ≡ true
    back_on line h k beyond =
        on_line b d a (omega arith) (nearer a.y b.y d.y m.y h k off beyond) (apart b.y d.y m.y k off)

    met : on_edge (edge b d) m ≡ true → ⊥
    met there =
        let h = on_edge_parts (edge a b) m here in
        let k = on_edge_parts (edge b d) m there in
        let line = neighbours_line a b d m (eqb-true (lefts a b m) (rights a b m) h.0) (eqb-true (lefts b d m) (rights b d m) k.0) off in
        let steep : a.y ≡ b.y → ⊥ = λ e. apart b.y a.y m.y (between_comm a.y b.y m.y ∙ h.2) off (sym e) in
        ⊎_elim (λ t. not_both (on_edge (edge a b) d) (on_line a b d line t steep) far) (λ t. not_both (on_edge (edge b d) a) (back_on line h.2 k.2 t) back)
        (cases_Bool (between a.y b.y d.y))

-- nor is any point of it that is not b
pub neighbour_off : (a b d m : Corner) → on_edge (edge a b) m ≡ true → (m.x ≡ b.x → m.y ≡ b.y → ⊥) → on_edge (edge a b) d ≡ false → on_edge (edge b d) a ≡ false →
    on_edge (edge b d) m ≡ false
neighbour_off a b d m here off far back =
    ⊎_elim
    (λ h.
    sym (on_edge_mirrored (edge b d) m)
    ∙ off_by_height (mirrored a) (mirrored b) (mirrored d) (mirrored m) (on_edge_mirrored (edge a b) m ∙ here) (λ k. off k h) (on_edge_mirrored (edge a b) d ∙ far)
    (on_edge_mirrored (edge b d) a ∙ back))
    (λ h. off_by_height a b d m here h far back) (cases_eq m.y b.y)
