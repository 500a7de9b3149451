-- A row of numbers, read two by two: the front corner, and what is left.
use Rattle.std.proofs.Common.{◌≡◌, ℕ, suc, ◌-◌, ◌/◌, ◌<◌, ◌≤◌, List, [], ◌∷◌, length, get_or, take, drop, ap, arith, length-drop}
use Rattle.std.proofs.lemmas.List.{take_rest}
use Rattle.plane.specs.Corners.{Corner, corner}
use Rattle.ground.specs.Shapes.{Shape}
use Rattle.ground.specs.Rows.{corners, shape_of}

-- what a reader leaves of a row when he has taken one corner off
abbrev pub beyond : List ℕ → List ℕ
beyond xs = take (length xs - 2) (drop 2 xs)

abbrev pub front : List ℕ → Corner
front xs = corner (get_or xs 0 0) (get_or xs 1 0)

-- a row of two numbers and more begins with a corner
pub shape_more : (xs : List ℕ) → 2 ≤ length xs → shape_of xs ≡ front xs ∷ shape_of (beyond xs)
unfolding corners
shape_more xs h =
    let half : length xs / 2 ≡ suc (length (drop 2 xs) / 2) = simp length-drop (omega arith) in
    rw (take_rest xs 2) (ap (λ n. corners n xs) half)

-- a row of fewer numbers has no corner
pub shape_none : (xs : List ℕ) → length xs < 2 → shape_of xs ≡ []
unfolding corners
shape_none xs h = let none : length xs / 2 ≡ 0 = omega arith in ap (λ n. corners n xs) none

-- a function of what is left of a row, one corner on
pub at_more : {Y : Type 0} (F : Shape → Y) (xs : List ℕ) → 2 ≤ length xs → F (shape_of xs) ≡ F (front xs ∷ shape_of (beyond xs))
at_more F xs h = ap F (shape_more xs h)
