-- Rows in range: their boxes tell, and of a ring in range each edge is.
use Rattle.std.proofs.Common.{◌≡◌, ℕ, ◌%◌, ◌<◌, ◌≤◌, Bool, true, false, ◌&&◌, eqb, ltb, leb, ◌⊎◌, List, [], ◌∷◌, length, Some, None, sym, refl, ap, ◌∙◌, ⊎_elim, arith}
use Rattle.std.proofs.lemmas.Bool.Decides.{nat_tests}
use Rattle.std.proofs.lemmas.Bool.{and_parts, and_from, eqb-true, leb-true, lt-ltb}
use Rattle.plane.specs.Lists.{pick, every}
use Rattle.plane.specs.Corners.{Corner, larger}
use Rattle.plane.specs.Edges.{edge}
use Rattle.plane.specs.Sights.{near_edge}
use Rattle.plane.proofs.Booleans.{and_true_right}
use Rattle.plane.proofs.Lists.{every_and}
use Rattle.ground.specs.Shapes.{Shape}
use Rattle.ground.specs.Rows.{corners, shape_of, near_corner, greatest}
use Rattle.ground.specs.Boxes.{box_of, has_box}
use Rattle.ground.specs.declared.bounding.Extent.{Extent}
use Rattle.ground.proofs.Rows.{front, beyond, at_more}
use Rattle.ground.proofs.Looks.{numbers_near}
use Rattle.relate.specs.Fitting.{row_fits, bounds_of}

-- all corners are below a number exactly if the greatest of them is
all_below : (f : Corner → ℕ) (k : ℕ) (c : Corner) (cs : Shape) → every (λ d. ltb (f d) k) (c ∷ cs) ≡ ltb (greatest f (c ∷ cs)) k
unfolding every greatest
all_below f k c [] = and_true_right (ltb (f c) k)
all_below f k c (d ∷ ds) = ap (◌&&◌ (ltb (f c) k)) (all_below f k d ds) ∙ both (f c) (greatest f (d ∷ ds))
  where
    both : (a b : ℕ) → (ltb a k && ltb b k) ≡ ltb (larger a b) k
    both a b = grind (arith, nat_tests)

-- a row of corners is in range exactly if the far sides of its box are
near_box : (c : Corner) (cs : Shape) → every near_corner (c ∷ cs) ≡ (ltb (box_of (c ∷ cs)).east 1048576 && ltb (box_of (c ∷ cs)).north 1048576)
near_box c cs =
    let x = all_below (λ d. d.x) 1048576 c cs in
    let y = all_below (λ d. d.y) 1048576 c cs in
    every_and (λ d. ltb d.x 1048576) (λ d. ltb d.y 1048576) (c ∷ cs) ∙ cc

-- THE BOX OF A ROW
pub empty_fits : (row : List ℕ) → length row ≡ 0 →
    (row_fits row ≡ true) × (record { west = 1048576; south = 1048576; east = 0; north = 0 } ≡ bounds_of (shape_of row))
unfolding every corners
empty_fits [] h = (refl, refl)
empty_fits (x ∷ xs) h = absurd (omega arith)

-- what is known of a row that has a box
box_known : (row : List ℕ) (b : Extent) → Some b ≡ pick (has_box row) (Some (box_of (shape_of row))) None →
    (2 ≤ length row) × (length row % 2 ≡ 0) × (b ≡ box_of (shape_of row))
box_known row b h = has (has_box row) refl h
  where
    has : (t : Bool) → t ≡ has_box row → Some b ≡ pick t (Some (box_of (shape_of row))) None → (2 ≤ length row) × (length row % 2 ≡ 0) × (b ≡ box_of (shape_of row))
    has true e k =
        let w = and_parts (leb 2 (length row)) (eqb (length row % 2) 0) (sym e) in
        (leb-true _ _ w.0, eqb-true _ _ w.1, cc)
    has false e k = let z : ◌≡◌ {A = ℕ} 0 1 = cc in absurd (omega arith)

box_fits : (row : List ℕ) (b : Extent) → 2 ≤ length row → length row % 2 ≡ 0 → b ≡ box_of (shape_of row) →
    row_fits row ≡ (ltb b.east 1048576 && ltb b.north 1048576)
box_fits row b many even is =
    let near : every near_corner (shape_of row) ≡ (ltb (box_of (shape_of row)).east 1048576 && ltb (box_of (shape_of row)).north 1048576) =
    at_more (every near_corner) row many ∙ near_box (front row) (shape_of (beyond row))
    ∙ sym (at_more (λ s. ltb (box_of s).east 1048576 && ltb (box_of s).north 1048576) row many) in
    let all = numbers_near row even in
    let e : eqb (length row % 2) 0 ≡ true = ap (λ n. eqb n 0) even in
    ap (λ t. t && every (λ n. ltb n 1048576) row) e ∙ all ∙ near ∙ ap (λ k. ltb k.east 1048576 && ltb k.north 1048576) (sym is)

pub bounds_fit : (row : List ℕ) (b : Extent) → Some b ≡ pick (has_box row) (Some (box_of (shape_of row))) None → b.east < 1048576 → b.north < 1048576 →
    (row_fits row ≡ true) × (b ≡ bounds_of (shape_of row))
bounds_fit row b h east north =
    let w = box_known row b h in
    (box_fits row b w.0 w.1 w.2 ∙ and_from _ _ (lt-ltb _ _ east) (lt-ltb _ _ north), w.2 ∙ at_more box_of row w.0 ∙ sym (at_more bounds_of row w.0))

pub bounds_far : (row : List ℕ) (b : Extent) → Some b ≡ pick (has_box row) (Some (box_of (shape_of row))) None →
    ((b.east < 1048576) × (1048576 ≤ b.north)) ⊎ (1048576 ≤ b.east) → row_fits row ≡ false
bounds_far row b h far =
    let w = box_known row b h in
    box_fits row b w.0 w.1 w.2 ∙ ⊎_elim (λ k. out k.1) (λ k. off k) far
  where
    out : 1048576 ≤ b.north → (ltb b.east 1048576 && ltb b.north 1048576) ≡ false
    out k = grind (arith, nat_tests)

    off : 1048576 ≤ b.east → (ltb b.east 1048576 && ltb b.north 1048576) ≡ false
    off k = grind (arith, nat_tests)

-- THE EDGES OF A ROW in range
pub fits_near : (row : List ℕ) → row_fits row ≡ true → every near_corner (shape_of row) ≡ true
fits_near row h =
    let w = and_parts (eqb (length row % 2) 0) (every (λ n. ltb n 1048576) row) h in
    sym (numbers_near row (eqb-true _ _ w.0)) ∙ w.1

-- an edge between corners in range is in range
pub near_between : (a b : Corner) → near_corner a ≡ true → near_corner b ≡ true → near_edge (edge a b) ≡ true
near_between a b h k = and_from (near_corner a) (near_corner b) h k
