-- West of a point with odd parities there is a wall: an edge of one of two grounds, with the same parities on it.
use Rattle.std.proofs.Common.{◌≡◌, ℕ, ◌*◌, ◌≤◌, Bool, true, false, ◌⊎◌, List, ◌++◌, sym, ap, ◌∙◌, inl, inr, ⊎_elim, mul_assoc, mul-le-mul, arith}
use native.Mathlib.Nat.{eq_of_mul-eq-mul_left}
use Rattle.std.proofs.lemmas.Bool.{cases_Bool}
use Rattle.plane.specs.Lists.{or, any, each}
use Rattle.plane.specs.Corners.{Corner}
use Rattle.plane.specs.Edges.{Edge, grown_edge, on_edge}
use Rattle.plane.specs.Parity.{crosses}
use Rattle.plane.proofs.Booleans.{not_both, or_from}
use Rattle.plane.proofs.Lists.{In, in_left, in_right, in_each, each_in, any_one, any_each, any_false_from, any_false_at}
use Rattle.plane.proofs.Xors.{xors_in}
use Rattle.plane.proofs.Chains.{closed_grown}
use Rattle.plane.proofs.Growth.{grown_edge_twice}
use Rattle.plane.proofs.Stepping.{even_westmost}
use Rattle.plane.proofs.Alongside.{Amidst}
use Rattle.plane.proofs.Walls.{Wall, wall}
use Rattle.ground.specs.Shapes.{Point, Shape, edges, as_corner}
use Rattle.ground.proofs.Rings.{closed_edges}
use Rattle.relate.specs.Samples.{raw}
use Rattle.relate.proofs.Pairs.{place_at, raw_parity, FreePair}

-- A POINT ON A WALL: amid an edge of the two grounds, at the height of no corner, with the parities i and j
pub record WallPair (s t : Shape) (i j : Bool) : Type 0 where
  pub wall_edge : Edge
  pub one_of : In wall_edge (edges s ++ edges t)
  pub times : ℕ
  pub place : Corner
  pub above : 1 ≤ times
  pub amid : Amidst (grown_edge times wall_edge) place
  pub first : raw s (place_at times place) ≡ i
  pub second : raw t (place_at times place) ≡ j
  pub off_heights : (n : ℕ) → place.y ≡ times * n → ⊥

-- west of a point with such parities there is one
pub wall_pair : (s t : Shape) (i j : Bool) → or i j ≡ true → FreePair s t i j → WallPair s t i j
wall_pair s t i j some f = stands w.standing
  where
    p : Point
    p = f.point

    es : List Edge
    es = edges s ++ edges t

    w : Wall (each (grown_edge f.point.w) (edges s ++ edges t)) (as_corner f.point)
    w = wall (each (grown_edge f.point.w) (edges s ++ edges t)) (as_corner f.point)

    k : ℕ
    k = w.times

    n : ℕ
    n = w.times * f.point.w

    q : Corner
    q = w.place

    at_wall : Point
    at_wall = place_at (w.times * f.point.w) w.place

    same : (r : Shape) → ((e : Edge) → In e (edges r) → In e (edges s ++ edges t)) → raw r at_wall ≡ raw r p
    same r sub =
        xors_in (λ e. crosses (grown_edge n e) q) (λ e. crosses (grown_edge p.w e) (as_corner p)) (edges r)
        (λ e m. ap (λ z. crosses z q) (grown_edge_twice k p.w e) ∙ w.same (grown_edge p.w e) (in_each (grown_edge p.w) e es (sub e m)))

    off : (m : ℕ) → w.place.y ≡ (w.times * f.point.w) * m → ⊥
    off m h =
        f.off_heights m (eq_of_mul-eq-mul_left w.times w.above f.point.py (f.point.w * m) (sym w.level ∙ h ∙ mul_assoc w.times f.point.w m))

    found : (e : Edge) → In e es → on_edge (grown_edge n e) q ≡ true → WallPair s t i j
    found e m on =
        record {
          wall_edge = e;
          one_of = m;
          times = n;
          place = q;
          above = mul-le-mul w.above f.pointed;
          amid = record { on = on; off_one = λ h. off e.one.y (sym h); off_other = λ h. off e.other.y (sym h) };
          first = same s (λ g l. in_left g (edges s) (edges t) l) ∙ f.first;
          second = same t (λ g l. in_right g (edges s) (edges t) l) ∙ f.second;
          off_heights = off;
        }

    -- with no wall at all nothing is enclosed
    even : w.place.x ≡ 0 → any (λ e. on_edge (grown_edge n e) q) es ≡ false → (r : Shape) → ((e : Edge) → In e (edges r) → In e (edges s ++ edges t)) →
        raw r at_wall ≡ false
    even west none r sub =
        raw_parity r at_wall
        ∙ even_westmost (each (grown_edge n) (edges r)) q (closed_grown n (edges r) (closed_edges r)) (λ e m. (low e.one.x, low e.other.x))
        (any_each (λ e. on_edge e q) (grown_edge n) (edges r)
        ∙ any_false_from (λ e. on_edge (grown_edge n e) q) (edges r) (λ e m. any_false_at (λ g. on_edge (grown_edge n g) q) e es (sub e m) none))
      where
        low : (z : ℕ) → w.place.x ≤ z
        low z = omega arith

    nowhere : w.place.x ≡ 0 → any (λ e. on_edge (grown_edge n e) q) es ≡ false → ⊥
    nowhere west none =
        not_both (or i j) some
        (or_from i j (sym (same s (λ g l. in_left g (edges s) (edges t) l) ∙ f.first) ∙ even west none s (λ g l. in_left g (edges s) (edges t) l))
        (sym (same t (λ g l. in_right g (edges s) (edges t) l) ∙ f.second) ∙ even west none t (λ g l. in_right g (edges s) (edges t) l)))

    stands : ((g : Edge) × In g (each (grown_edge p.w) es) × (on_edge (grown_edge k g) q ≡ true)) ⊎ (w.place.x ≡ 0) → WallPair s t i j
    stands (inl (g, m, on)) =
        let z = each_in (grown_edge p.w) g es m in
        found z.0 z.1 (ap (λ h. on_edge h q) (grown_edge_twice k p.w z.0) ∙ ap (λ h. on_edge (grown_edge k h) q) (sym z.2) ∙ on)
    stands (inr west) =
        ⊎_elim (λ h. let z = any_one (λ e. on_edge (grown_edge n e) q) es h in found z.0 z.1 z.2) (λ h. absurd (nowhere west h))
        (cases_Bool (any (λ e. on_edge (grown_edge n e) q) es))
