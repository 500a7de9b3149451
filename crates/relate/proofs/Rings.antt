-- The corners of a ring, two numbers each.
use Rattle.std.proofs.Common.{◌≡◌, ℕ, zero, suc, ◌+◌, ◌-◌, ◌/◌, ◌<◌, ◌≤◌, true, List, [], ◌∷◌, length, get_or, take, drop, refl, ap, ◌∙◌, arith}
use Rattle.std.proofs.lemmas.Bool.{and_parts}
use Rattle.std.proofs.lemmas.List.{at_drop_more, take_rest}
use Rattle.std.specs.Simd.{first_chunks}
use Rattle.plane.specs.Lists.{each, every}
use Rattle.plane.specs.Corners.{Corner}
use Rattle.plane.specs.Edges.{edge}
use Rattle.ground.specs.Rows.{corners, shape_of, near_corner}
use Rattle.ground.specs.Shapes.{Shape}
use Rattle.relate.specs.Rings.{pair_corner, as_corners, edges_on, last_after}

chunked : (n : ℕ) (xs : List ℕ) → as_corners (first_chunks 2 n xs) ≡ corners n xs
unfolding each corners
chunked zero xs = refl
chunked (suc n) [] = ap (λ cs. pair_corner [] ∷ cs) (chunked n [])
chunked (suc n) (x ∷ []) = ap (λ cs. pair_corner (x ∷ []) ∷ cs) (chunked n [])
chunked (suc n) (x ∷ y ∷ zs) = ap (λ cs. pair_corner (x ∷ y ∷ []) ∷ cs) (chunked n zs)

-- a row cut into pairs has the row's corners
pub row_chunked : (row : List ℕ) → as_corners (first_chunks 2 (length row / 2) row) ≡ shape_of row
row_chunked row = chunked (length row / 2) row

-- the last of some corners
pub last_pair : (a : Corner) (ps : List (List ℕ)) → 0 < length ps → last_after a (as_corners ps) ≡ pair_corner (get_or ps (length ps - 1) [])
unfolding each last_after
last_pair a [] h = elim h [ ]
last_pair a (p ∷ []) h = refl
last_pair a (p ∷ q ∷ qs) h =
    let e : suc (length (q ∷ qs) - 1) ≡ length (p ∷ q ∷ qs) - 1 = omega arith in
    last_pair (pair_corner p) (q ∷ qs) (omega arith) ∙ ap (λ n. pair_corner (get_or (p ∷ q ∷ qs) n [])) e

pub last_none : (a : Corner) (ps : List (List ℕ)) → length ps < 1 → a ≡ last_after a (as_corners ps)
unfolding each last_after
last_none a [] h = refl
last_none a (p ∷ ps) h = absurd (omega arith)

-- of corners in range each is, and so is the last
pub last_near : (a : Corner) (s : Shape) → near_corner a ≡ true → every near_corner s ≡ true → near_corner (last_after a s) ≡ true
unfolding every last_after
last_near a [] h near = h
last_near a (c ∷ cs) h near = let w = and_parts (near_corner c) (every near_corner cs) near in last_near c cs w.0 w.1

pub first_near : (p : List ℕ) (ps : List (List ℕ)) → every near_corner (as_corners (p ∷ ps)) ≡ true →
    (near_corner (pair_corner p) ≡ true) × (every near_corner (as_corners ps) ≡ true)
unfolding every each
first_near p ps near = and_parts (near_corner (pair_corner p)) (every near_corner (as_corners ps)) near

pub each_near : (ps : List (List ℕ)) (i : ℕ) → i < length ps → every near_corner (as_corners ps) ≡ true → near_corner (pair_corner (get_or ps i [])) ≡ true
each_near [] i h near = elim h [ ]
each_near (p ∷ ps) zero h near = (first_near p ps near).0
each_near (p ∷ ps) (suc i) h near = each_near ps i (omega arith) (first_near p ps near).1

-- the corners from one on
pub corners_more : {Y : Type 0} (F : Shape → Y) (ps : List (List ℕ)) (i : ℕ) → i < length ps →
    F (as_corners (drop i ps)) ≡ F (pair_corner (get_or ps i []) ∷ as_corners (drop (i + 1) ps))
unfolding each
corners_more F ps i h = at_drop_more (λ qs. F (as_corners qs)) ps i [] h

-- the first of some corners is taken off
pub front_near : (ps : List (List ℕ)) → 1 ≤ length ps → every near_corner (as_corners ps) ≡ true →
    (near_corner (pair_corner (get_or ps 0 [])) ≡ true) × (every near_corner (as_corners (take (length ps - 1) (drop 1 ps))) ≡ true)
front_near [] h near = absurd (omega arith)
front_near (p ∷ ps) h near = rw (take_rest (p ∷ ps) 1) (first_near p ps near)

-- and with it the first of the edges on from a corner
pub on_front : (a : Corner) (ps : List (List ℕ)) → 1 ≤ length ps →
    edges_on a (as_corners ps)
    ≡ edge a (pair_corner (get_or ps 0 [])) ∷ edges_on (pair_corner (get_or ps 0 [])) (as_corners (take (length ps - 1) (drop 1 ps)))
unfolding each edges_on
on_front a [] h = absurd (omega arith)
on_front a (p ∷ ps) h = rw (take_rest (p ∷ ps) 1) refl

pub on_none : (a : Corner) (ps : List (List ℕ)) → length ps < 1 → edges_on a (as_corners ps) ≡ []
unfolding each edges_on
on_none a [] h = refl
on_none a (p ∷ ps) h = absurd (omega arith)
