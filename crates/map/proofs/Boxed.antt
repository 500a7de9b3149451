-- A ground as a row of numbers and its box: the row gives the ground back, and the box has every point of it.
use Rattle.std.proofs.Common.{◌≡◌, ℕ, ◌*◌, ◌/◌, ◌<◌, ◌≤◌, Bool, true, ◌&&◌, ltb, leb, [], ◌∷◌, length, refl, ap, ◌∙◌, inl, inr, arith}
use Rattle.std.proofs.lemmas.Bool.{and_parts, and_from, le-leb, leb-true, ltb-true, ltb-false}
use Rattle.plane.specs.Lists.{every}
use Rattle.plane.specs.Corners.{Corner, smaller, larger}
use Rattle.plane.proofs.Booleans.{same_from_both, pick_both}
use Rattle.plane.proofs.Lists.{In, every_from}
use Rattle.ground.specs.Shapes.{Point, a_point, Shape, in_shape, a_shape}
use Rattle.ground.specs.Rows.{corners, shape_of, flat, least, greatest}
use Rattle.ground.specs.Statements.{BoxHolds}
use Rattle.ground.proofs.Outermost.{box_holds}
use Rattle.map.specs.Memory.{in_box, row_fits}

-- THE ROW
-- two numbers a corner
pub flat_length : (s : Shape) → length (flat s) ≡ 2 * length s
unfolding flat
flat_length [] = refl
flat_length (c ∷ cs) = let r = flat_length cs in omega arith

-- read two by two, the numbers are the corners again
corners_flat : (s : Shape) → corners (length s) (flat s) ≡ s
unfolding corners flat
corners_flat [] = refl
corners_flat (c ∷ cs) = ap (◌∷◌ c) (corners_flat cs)

-- the row of a ground's numbers gives the ground back
pub shape_of_flat : (s : Shape) → shape_of (flat s) ≡ s
shape_of_flat s = let half : length (flat s) / 2 ≡ length s = omega (arith, flat_length s) in ap (λ n. corners n (flat s)) half ∙ corners_flat s

-- the numbers of a row are in the range of its corners
pub flat_fits : (n : ℕ) (s : Shape) → every (λ c. ltb c.x n && ltb c.y n) s ≡ true → every (λ a. ltb a n) (flat s) ≡ true
unfolding every flat
flat_fits n [] h = refl
flat_fits n (c ∷ cs) h =
    let p = and_parts (ltb c.x n && ltb c.y n) (every (λ c. ltb c.x n && ltb c.y n) cs) h in
    let q = and_parts (ltb c.x n) (ltb c.y n) p.0 in
    and_from (ltb c.x n) (ltb c.y n && every (λ a. ltb a n) (flat cs)) q.0 (and_from (ltb c.y n) (every (λ a. ltb a n) (flat cs)) q.1 (flat_fits n cs p.1))

-- the corners of a ground are below 2^20
pub shape_range : (s : Shape) → a_shape s ≡ true → every (λ c. ltb c.x 1048576 && ltb c.y 1048576) s ≡ true
shape_range s h = (and_parts _ _ (and_parts _ _ h).0).1

-- and there are 256 of them at most
pub shape_size : (s : Shape) → a_shape s ≡ true → length s ≤ 256
shape_size s h = leb-true _ _ (and_parts _ _ (and_parts _ _ (and_parts _ _ h).0).0).1

-- THE BOX
-- the smaller of two is above neither, and the larger below neither
smaller_below : (a b : ℕ) → (smaller a b ≤ a) × (smaller a b ≤ b)
smaller_below a b = pick_both (λ n. (n ≤ a) × (n ≤ b)) (ltb a b) a b (λ t. omega (arith, ltb-true a b t)) (λ f. omega (arith, ltb-false a b f))

larger_above : (a b : ℕ) → (a ≤ larger a b) × (b ≤ larger a b)
larger_above a b = pick_both (λ n. (a ≤ n) × (b ≤ n)) (ltb a b) b a (λ t. omega (arith, ltb-true a b t)) (λ f. omega (arith, ltb-false a b f))

-- no corner lies beyond the least or the greatest of a row
pub least_below : (f : Corner → ℕ) (c : Corner) (s : Shape) → In c s → least f s ≤ f c
unfolding least
least_below f c [] m = absurd m
least_below f c (d ∷ []) (inl i) = omega (arith, ap f i)
least_below f c (d ∷ []) (inr m) = absurd m
least_below f c (d ∷ e ∷ es) (inl i) = omega (arith, smaller_below (f d) (least f (e ∷ es)), ap f i)
least_below f c (d ∷ e ∷ es) (inr m) = let r = least_below f c (e ∷ es) m in omega (arith, smaller_below (f d) (least f (e ∷ es)))

pub greatest_above : (f : Corner → ℕ) (c : Corner) (s : Shape) → In c s → f c ≤ greatest f s
unfolding greatest
greatest_above f c [] m = absurd m
greatest_above f c (d ∷ []) (inl i) = omega (arith, ap f i)
greatest_above f c (d ∷ []) (inr m) = absurd m
greatest_above f c (d ∷ e ∷ es) (inl i) = omega (arith, larger_above (f d) (greatest f (e ∷ es)), ap f i)
greatest_above f c (d ∷ e ∷ es) (inr m) = let r = greatest_above f c (e ∷ es) m in omega (arith, larger_above (f d) (greatest f (e ∷ es)))

-- so that all corners lie between them
pub all_between : (f : Corner → ℕ) (s : Shape) → every (λ c. leb (least f s) (f c) && leb (f c) (greatest f s)) s ≡ true
all_between f s =
    every_from (λ c. leb (least f s) (f c) && leb (f c) (greatest f s)) s
    (λ c m. and_from (leb (least f s) (f c)) (leb (f c) (greatest f s)) (le-leb (least f s) (f c) (least_below f c s m)) (le-leb (f c) (greatest f s) (greatest_above f c s m)))

-- the least and the greatest are numbers of corners, so that they are in the corners' range
pub least_fits : (f : Corner → ℕ) (n : ℕ) (s : Shape) → 0 < n → every (λ c. ltb (f c) n) s ≡ true → least f s < n
unfolding least every
least_fits f n [] h k = h
least_fits f n (c ∷ []) h k = ltb-true (f c) n (and_parts (ltb (f c) n) true k).0
least_fits f n (c ∷ d ∷ ds) h k =
    let p = and_parts (ltb (f c) n) (every (λ c. ltb (f c) n) (d ∷ ds)) k in
    let r = least_fits f n (d ∷ ds) h p.1 in
    omega (arith, smaller_below (f c) (least f (d ∷ ds)))

pub greatest_fits : (f : Corner → ℕ) (n : ℕ) (s : Shape) → 0 < n → every (λ c. ltb (f c) n) s ≡ true → greatest f s < n
unfolding greatest every
greatest_fits f n [] h k = h
greatest_fits f n (c ∷ []) h k = ltb-true (f c) n (and_parts (ltb (f c) n) true k).0
greatest_fits f n (c ∷ d ∷ ds) h k =
    let p = and_parts (ltb (f c) n) (every (λ c. ltb (f c) n) (d ∷ ds)) k in
    let r = greatest_fits f n (d ∷ ds) h p.1 in
    pick_both (λ m. m < n) (ltb (f c) (greatest f (d ∷ ds))) (greatest f (d ∷ ds)) (f c) (λ _. r) (λ _. ltb-true (f c) n p.0)

-- the box around a row of corners has the point
abbrev pub box_of : Shape → Point → Bool
box_of s v = in_box (least (λ c. c.x) s) (least (λ c. c.y) s) (greatest (λ c. c.x) s) (greatest (λ c. c.y) s) v

-- two orders, as tests
both_leb : (a b c d : ℕ) → (a ≤ b) × (c ≤ d) → (leb a b && leb c d) ≡ true
both_leb a b c d h = and_from (leb a b) (leb c d) (le-leb a b h.0) (le-leb c d h.1)

-- the box around a ground has each of its points
pub in_its_box : (s : Shape) (v : Point) → a_point v ≡ true → in_shape s v ≡ true → box_of s v ≡ true
unfolding BoxHolds
in_its_box s v p h =
    let across = (box_holds s v (least (λ c. c.x) s) (greatest (λ c. c.x) s) h p).0 (all_between (λ c. c.x) s) in
    let upward = (box_holds s v (least (λ c. c.y) s) (greatest (λ c. c.y) s) h p).1 (all_between (λ c. c.y) s) in
    and_from (leb (v.w * least (λ c. c.x) s) v.px && leb v.px (v.w * greatest (λ c. c.x) s)) (leb (v.w * least (λ c. c.y) s) v.py && leb v.py (v.w * greatest (λ c. c.y) s))
    (both_leb _ _ _ _ across) (both_leb _ _ _ _ upward)

-- so that to look into the box and the row first changes no answer
pub looked_first : (s : Shape) (v : Point) → a_point v ≡ true → a_shape s ≡ true → (box_of s v && (row_fits (flat s) && in_shape (shape_of (flat s)) v)) ≡ in_shape s v
looked_first s v p a =
    let fits = flat_fits 1048576 s (shape_range s a) in
    let back = ap (λ t. in_shape t v) (shape_of_flat s) in
    ap (λ t. box_of s v && (t && in_shape (shape_of (flat s)) v)) fits
    ∙ ap (◌&&◌ (box_of s v)) back
    ∙ same_from_both (box_of s v && in_shape s v) (in_shape s v) (λ h. (and_parts (box_of s v) (in_shape s v) h).1) (λ h. and_from (box_of s v) (in_shape s v) (in_its_box s v p h) h)
