-- What is so of grounds. Each is a statement, a type: docs/PROOFS.md says which have their proofs, and where. Assumes nothing.
use Rattle.std.specs.Prelude.{◌≡◌, ℕ, ◌+◌, ◌*◌, ◌≤◌, Bool, true, false, ◌&&◌, [], ◌∷◌, ◌++◌, ◌==◌, nat_le}
use Rattle.plane.specs.Lists.{pick, every, any, each}
use Rattle.plane.specs.Corners.{Corner, corner}
use Rattle.plane.specs.Edges.{cross_over, meet}
use Rattle.ground.specs.Shapes.{Point, a_point, Shape, edges, inside, on_border, in_shape, twice_area, a_shape}
use Rattle.ground.specs.Ways.{Within, Lies, Apart}

-- Two shapes lie to each other in one way, and only one; from the other side it's the same, or the way turned round.
unfoldable pub OneWay : Type 0
OneWay = (s t : Shape) → a_shape s ≡ true → a_shape t ≡ true → (k : ℕ) × Lies s t k × ((j : ℕ) → Lies s t j → j ≡ k)

abbrev pub turned : ℕ → ℕ
turned k = pick (k == 2) 3 (pick (k == 3) 2 k)

unfoldable pub TurnedRound : Type 0
TurnedRound = (s t : Shape) (k : ℕ) → Lies s t k → Lies t s (turned k)

-- How two lie can be told by corners and edges alone: if no edges meet, a corner of each is where all of its shape is; if two cross, they lie over each
-- other.
unfoldable pub crossing : Shape → Shape → Bool
crossing s t = any (λ e. any (λ f. cross_over e f) (edges t)) (edges s)

abbrev pub as_point : Corner → Point
as_point c = record { px = c.x; py = c.y; w = 1 }

unfoldable pub CornersTell : Type 0
CornersTell =
    (s t : Shape) → a_shape s ≡ true → a_shape t ≡ true → any (λ e. any (λ f. meet e f) (edges t)) (edges s) ≡ false →
    (any (λ c. inside t (as_point c)) s ≡ true → Within s t)
    × (any (λ c. inside t (as_point c)) s ≡ false → any (λ c. inside s (as_point c)) t ≡ false → Apart s t)

unfoldable pub CrossingOver : Type 0
CrossingOver = (s t : Shape) → a_shape s ≡ true → a_shape t ≡ true → crossing s t ≡ true → Lies s t 5

-- Whether a point is inside doesn't depend on where the shape begins, nor on which way one looks.
unfoldable pub across : Corner → Corner
across c = corner c.y c.x

unfoldable pub AnyBeginning : Type 0
AnyBeginning = (a : Corner) (s : Shape) (p : Point) → (inside (a ∷ s) p ≡ inside (s ++ a ∷ []) p) × (on_border (a ∷ s) p ≡ on_border (s ++ a ∷ []) p)

unfoldable pub AnyWay : Type 0
AnyWay =
    (s : Shape) (p : Point) → a_shape s ≡ true → a_point p ≡ true →
    inside (each across s) (record { px = p.py; py = p.px; w = p.w }) ≡ inside s p

-- Each shape has points inside, and all of it lies between its lowest and highest, leftmost and rightmost corner.
unfoldable pub SomeInside : Type 0
SomeInside = (s : Shape) → a_shape s ≡ true → (p : Point) × (a_point p ≡ true) × (inside s p ≡ true)

unfoldable pub BoxHolds : Type 0
BoxHolds =
    (s : Shape) (p : Point) (a b : ℕ) → in_shape s p ≡ true → a_point p ≡ true →
    (every (λ c. nat_le a c.x && nat_le c.x b) s ≡ true → (p.w * a ≤ p.px) × (p.px ≤ p.w * b))
    × (every (λ c. nat_le a c.y && nat_le c.y b) s ≡ true → (p.w * a ≤ p.py) × (p.py ≤ p.w * b))

-- What's within what's within is within; and of two of which one is within the other the areas say so.
unfoldable pub WithinWithin : Type 0
WithinWithin = (s t u : Shape) → Within s t → Within t u → Within s u

unfoldable pub AreaLess : Type 0
AreaLess = (s t : Shape) → a_shape s ≡ true → a_shape t ≡ true → Within s t → twice_area s ≤ twice_area t

-- Along a new edge between two corners a shape is cut into two, whose areas add up to its own.
unfoldable pub CutAdds : Type 0
CutAdds =
    (a b : Corner) (as₁ bs : Shape) → a_shape (a ∷ as₁ ++ b ∷ bs) ≡ true → a_shape (a ∷ as₁ ++ b ∷ []) ≡ true → a_shape (a ∷ b ∷ bs) ≡ true →
    (twice_area (a ∷ as₁ ++ b ∷ bs) ≡ twice_area (a ∷ as₁ ++ b ∷ []) + twice_area (a ∷ b ∷ bs))

-- A point is in the same shapes, whichever fraction it's written as.
unfoldable pub SamePoint : Type 0
SamePoint =
    (s : Shape) (p : Point) (n : ℕ) → 1 ≤ n →
    (inside s (record { px = n * p.px; py = n * p.py; w = n * p.w }) ≡ inside s p) × (on_border s (record { px = n * p.px; py = n * p.py; w = n * p.w }) ≡ on_border s p)
