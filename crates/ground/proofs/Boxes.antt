-- Bounding boxes: a box that grows corner by corner is the box of them all, and the box of a point tells where the point lies.
use Rattle.std.proofs.Common.{◌≡◌, ℕ, ◌+◌, ◌*◌, ◌/◌, ◌%◌, ◌<◌, ◌≤◌, min, max, true, ◌&&◌, leb, [], ◌∷◌, refl, ◌∙◌, ⊎_elim, arith}
use Rattle.std.proofs.lemmas.Bool.Decides.{nat_tests}
use Rattle.std.proofs.lemmas.Bool.{cases_lt}
use Rattle.std.proofs.lemmas.Nat.{div-add-mod', mod_below, mul-le}
use Rattle.plane.specs.Lists.{every}
use Rattle.plane.specs.Corners.{Corner, smaller, larger}
use Rattle.ground.specs.Shapes.{Shape}
use Rattle.ground.specs.Rows.{least, greatest}
use Rattle.ground.specs.Boxes.{box_of, grown_to, box_around, raised, holds, in_box}
use Rattle.ground.specs.declared.bounding.Extent.{Extent}

min_smaller : (a b : ℕ) → smaller a b ≡ min a b
min_smaller a b = grind (arith, nat_tests)

max_larger : (a b : ℕ) → larger a b ≡ max a b
max_larger a b = grind (arith, nat_tests)

-- the least and the greatest number so far, taken on over the corners that are left
abbrev low : (Corner → ℕ) → ℕ → Shape → ℕ
low f m [] = m
low f m (c ∷ cs) = low f (min m (f c)) cs

abbrev high : (Corner → ℕ) → ℕ → Shape → ℕ
high f m [] = m
high f m (c ∷ cs) = high f (max m (f c)) cs

low_least : (f : Corner → ℕ) (m : ℕ) (c : Corner) (cs : Shape) → min m (least f (c ∷ cs)) ≡ low f m (c ∷ cs)
unfolding least
low_least f m c [] = refl
low_least f m c (d ∷ ds) =
    let e : min m (smaller (f c) (least f (d ∷ ds))) ≡ min (min m (f c)) (least f (d ∷ ds)) =
    rw (min_smaller (f c) (least f (d ∷ ds))) (omega arith) in
    e ∙ low_least f (min m (f c)) d ds

high_greatest : (f : Corner → ℕ) (m : ℕ) (c : Corner) (cs : Shape) → max m (greatest f (c ∷ cs)) ≡ high f m (c ∷ cs)
unfolding greatest
high_greatest f m c [] = refl
high_greatest f m c (d ∷ ds) =
    let e : max m (larger (f c) (greatest f (d ∷ ds))) ≡ max (max m (f c)) (greatest f (d ∷ ds)) =
    rw (max_larger (f c) (greatest f (d ∷ ds))) (omega arith) in
    e ∙ high_greatest f (max m (f c)) d ds

least_low : (f : Corner → ℕ) (c : Corner) (cs : Shape) → least f (c ∷ cs) ≡ low f (f c) cs
unfolding least
least_low f c [] = refl
least_low f c (d ∷ ds) = min_smaller (f c) (least f (d ∷ ds)) ∙ low_least f (f c) d ds

greatest_high : (f : Corner → ℕ) (c : Corner) (cs : Shape) → greatest f (c ∷ cs) ≡ high f (f c) cs
unfolding greatest
greatest_high f c [] = refl
greatest_high f c (d ∷ ds) = max_larger (f c) (greatest f (d ∷ ds)) ∙ high_greatest f (f c) d ds

-- a box, grown over the corners of a row one by one
abbrev pub boxed : Extent → Shape → Extent
boxed e [] = e
boxed e (c ∷ cs) = boxed (grown_to e c) cs

boxed_sides : (e : Extent) (cs : Shape) → boxed e cs ≡ record { west = low (λ c. c.x) e.west cs; south = low (λ c. c.y) e.south cs; east = high (λ c. c.x) e.east cs; north = high (λ c. c.y) e.north cs }
boxed_sides e [] = refl
boxed_sides e (c ∷ cs) = boxed_sides (grown_to e c) cs

-- the box of a row is its first corner's, grown over the others
pub box_boxed : (c : Corner) (cs : Shape) → box_of (c ∷ cs) ≡ boxed (record { west = c.x; south = c.y; east = c.x; north = c.y }) cs
box_boxed c cs =
    let sides = boxed_sides (record { west = c.x; south = c.y; east = c.x; north = c.y }) cs in
    let w = least_low (λ c. c.x) c cs in
    let s = least_low (λ c. c.y) c cs in
    let e = greatest_high (λ c. c.x) c cs in
    let n = greatest_high (λ c. c.y) c cs in
    cc

between_bounds : (f : Corner → ℕ) (a b : ℕ) (s : Shape) → a ≤ least f s → greatest f s ≤ b → every (λ c. leb a (f c) && leb (f c) b) s ≡ true
unfolding every least greatest
between_bounds f a b [] h k = refl
between_bounds f a b (c ∷ []) h k = grind (arith, nat_tests)
between_bounds f a b (c ∷ d ∷ ds) h k =
    let e = between_bounds f a b (d ∷ ds) (grind (arith, nat_tests)) (grind (arith, nat_tests)) in
    grind (arith, nat_tests)

-- each corner lies between the least and the greatest of them
pub between_ends : (f : Corner → ℕ) (s : Shape) → every (λ c. leb (least f s) (f c) && leb (f c) (greatest f s)) s ≡ true
between_ends f s = between_bounds f (least f s) (greatest f s) s (omega arith) (omega arith)

-- no narrower bounds have all corners between them
pub least_most : (f : Corner → ℕ) (a : ℕ) (c : Corner) (cs : Shape) → every (λ d. leb a (f d)) (c ∷ cs) ≡ true → a ≤ least f (c ∷ cs)
unfolding every least
least_most f a c [] h = grind (arith, nat_tests)
least_most f a c (d ∷ ds) h =
    let e : every (λ d. leb a (f d)) (d ∷ ds) ≡ true → a ≤ least f (d ∷ ds) = least_most f a d ds in
    grind (arith, nat_tests)

pub greatest_least : (f : Corner → ℕ) (b : ℕ) (c : Corner) (cs : Shape) → every (λ d. leb (f d) b) (c ∷ cs) ≡ true → greatest f (c ∷ cs) ≤ b
unfolding every greatest
greatest_least f b c [] h = grind (arith, nat_tests)
greatest_least f b c (d ∷ ds) h =
    let e : every (λ d. leb (f d) b) (d ∷ ds) ≡ true → greatest f (d ∷ ds) ≤ b = greatest_least f b d ds in
    grind (arith, nat_tests)

-- a whole number is at most n / w, or not below it, exactly if it is so of both grown by w
module _ (n w k : ℕ) (some : 1 ≤ w) where
  below : k ≤ n / w → w * k ≤ n
  below h = omega (arith, div-add-mod' n w, mul-le w k w (n / w) (omega arith) h)

  above : n / w < k → n < w * k
  above h = omega (arith, div-add-mod' n w, mod_below n w some, mul-le w (n / w + 1) w k (omega arith) (omega arith))

  floor_leb : leb k (n / w) ≡ leb (w * k) n
  floor_leb = let b = below in let a = above in grind (arith, nat_tests)

  raised_below : raised n w ≤ k → n ≤ w * k
  raised_below h =
      ⊎_elim
      (λ none. omega (arith, div-add-mod' n w, mul-le w (n / w) w k (omega arith) (omega arith)))
      (λ more. omega (arith, div-add-mod' n w, mod_below n w some, mul-le w (n / w + 1) w k (omega arith) (omega arith)))
      (cases_lt (n % w) 1)

  raised_above : k < raised n w → w * k < n
  raised_above h =
      ⊎_elim
      (λ none. omega (arith, div-add-mod' n w, mul-le w (k + 1) w (n / w) (omega arith) (omega arith)))
      (λ more. omega (arith, div-add-mod' n w, mul-le w k w (n / w) (omega arith) (omega arith)))
      (cases_lt (n % w) 1)

  raised_leb : leb (raised n w) k ≡ leb n (w * k)
  raised_leb = let b = raised_below in let a = raised_above in grind (arith, nat_tests)

-- a box holds the box around a point exactly if it has the point
pub around_in_box : (e : Extent) (a b w : ℕ) → 1 ≤ w → holds e (box_around a b w) ≡ in_box e.west e.south e.east e.north (record { px = a; py = b; w = w })
around_in_box e a b w h =
    simp (floor_leb a w e.west h, floor_leb b w e.south h, raised_leb a w e.east h, raised_leb b w e.north h)
