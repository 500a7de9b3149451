-- A ground lies between its outermost corners.
use Rattle.std.proofs.Common.{◌≡◌, ℕ, ◌*◌, ◌≤◌, true, ◌&&◌, sym, refl, ap, ◌∙◌, ap₂}
use Rattle.std.proofs.lemmas.Bool.{leb-true}
use Rattle.plane.specs.Lists.{every, each}
use Rattle.plane.specs.Corners.{Corner, grown}
use Rattle.plane.specs.Edges.{grown_edge}
use Rattle.plane.proofs.Products.{leb_times}
use Rattle.plane.proofs.Lists.{every_each, every_same}
use Rattle.plane.proofs.Boxes.{both_ends, within, covered, Held, box_eastward, box_northward}
use Rattle.ground.specs.Shapes.{Shape, edges, as_corner}
use Rattle.ground.specs.Statements.{BoxHolds}
use Rattle.ground.proofs.Rings.{every_end}
use Rattle.ground.proofs.Points.{enlarged, closed_enlarged, in_shape_covered}

-- corners from a to b, in the coordinate v, lie from w * a to w * b when all is made w times as large
held_enlarged : (v : Corner → ℕ) (w a b : ℕ) → 1 ≤ w → ((c : Corner) → v (grown w c) ≡ w * v c) → (s : Shape) → every (λ c. within a b (v c)) s ≡ true →
    Held (w * a) (w * b) v (each (grown_edge w) (edges s))
held_enlarged v w a b above grows s h =
    every_each (both_ends (λ c. within (w * a) (w * b) (v c))) (grown_edge w) (edges s)
    ∙ every_same (λ e. both_ends (λ c. within (w * a) (w * b) (v c)) (grown_edge w e)) (both_ends (λ c. within a b (v c))) (edges s)
    (λ e. ap₂ ◌&&◌ (at_corner e.one) (at_corner e.other))
    ∙ every_end (λ c. within a b (v c)) s h
  where
    at_corner : (c : Corner) → within (w * a) (w * b) (v (grown w c)) ≡ within a b (v c)
    at_corner c = ap (within (w * a) (w * b)) (grows c) ∙ ap₂ ◌&&◌ (leb_times w above a (v c)) (leb_times w above (v c) b)

-- a ground lies between its westmost and eastmost, its lowest and highest corners
pub box_holds : BoxHolds
unfolding BoxHolds
box_holds s p a b here pointed = (
  (λ h. box_eastward (enlarged s p) (as_corner p) (p.w * a) (p.w * b) (held (λ c. c.x) (λ _. refl) h) (closed_enlarged s p) there),
  (λ h. box_northward (enlarged s p) (as_corner p) (p.w * a) (p.w * b) (held (λ c. c.y) (λ _. refl) h) there),
)
  where
    there : covered (enlarged s p) (as_corner p) ≡ true
    there = sym (in_shape_covered s p) ∙ here

    held : (v : Corner → ℕ) → ((c : Corner) → v (grown p.w c) ≡ p.w * v c) → every (λ c. within a b (v c)) s ≡ true → Held (p.w * a) (p.w * b) v (enlarged s p)
    held v grows h = held_enlarged v p.w a b (leb-true 1 p.w pointed) grows s h
