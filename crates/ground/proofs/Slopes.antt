-- A ring whose edges are all level has no area; so a ground has an edge that is not level.
use Rattle.std.proofs.Common.{◌≡◌, ℕ, ◌+◌, ◌*◌, ◌<◌, Bool, true, not, eqb, List, [], ◌∷◌, sym, refl, ap, ◌∙◌, arith}
use Rattle.std.proofs.lemmas.Bool.{and_parts, eqb-true, eqb-false, not-true, not_from_false}
use Rattle.plane.specs.Lists.{every, added_up}
use Rattle.plane.specs.Corners.{Corner}
use Rattle.plane.specs.Edges.{Edge, edge}
use Rattle.plane.proofs.Booleans.{false_from}
use Rattle.plane.proofs.Lists.{In, not_every, any_one}
use Rattle.ground.specs.Shapes.{Shape, edges, edges_from, left_sum, right_sum}

-- both ends at one height
abbrev level : Edge → Bool
level e = eqb e.one.y e.other.y

-- along level edges at the height h the two sums differ by h times how far it goes
level_sums : (f a : Corner) (bs : List Corner) (h : ℕ) → a.y ≡ h → every level (edges_from f a bs) ≡ true →
    added_up (λ e. e.one.x * e.other.y) (edges_from f a bs) + h * f.x ≡ added_up (λ e. e.one.y * e.other.x) (edges_from f a bs) + h * a.x
unfolding edges_from every added_up
level_sums f a [] h here flat =
    let k = eqb-true a.y f.y (and_parts (level (edge a f)) true flat).0 in
    omega (arith, ap (λ (n : ℕ). a.x * n) k, ap (λ (n : ℕ). a.x * n) here, ap (λ (n : ℕ). n * f.x) here)
level_sums f a (b ∷ bs) h here flat =
    let p = and_parts (level (edge a b)) (every level (edges_from f b bs)) flat in
    let k = eqb-true a.y b.y p.0 in
    let rest = level_sums f b bs h (omega arith) p.1 in
    omega (arith, rest, ap (λ (n : ℕ). a.x * n) k, ap (λ (n : ℕ). a.x * n) here, ap (λ (n : ℕ). n * b.x) here)

level_ring : (s : Shape) → every level (edges s) ≡ true → left_sum s ≡ right_sum s
unfolding edges added_up
level_ring [] h = refl
level_ring (a ∷ s) h = omega (arith, level_sums a a s a.y refl h)

-- a ring with area has an edge that is not level
pub steep_edge : (s : Shape) → right_sum s < left_sum s → (e : Edge) × In e (edges s) × (e.one.y ≡ e.other.y → ⊥)
steep_edge s area =
    let w = any_one (λ e. not (level e)) (edges s) (sym (not_every level (edges s)) ∙ some_steep) in
    (w.0, w.1, eqb-false w.0.one.y w.0.other.y (not-true (level w.0) w.2))
  where
    some_steep : not (every level (edges s)) ≡ true
    some_steep = not_from_false (every level (edges s)) (false_from (every level (edges s)) (λ h. omega (arith, level_ring s h)))
