-- A ring as an open path and the edge that closes it, and both read from a row.
use Rattle.std.proofs.Common.{◌≡◌, ℕ, zero, suc, ◌+◌, ◌-◌, ◌*◌, ◌/◌, ◌%◌, ◌≤◌, List, [], ◌∷◌, ◌++◌, length, get_or, take, drop, sym, refl, ap, ◌∙◌, subst, arith, length-drop}
use Rattle.std.proofs.lemmas.List.{take_rest, get_or-drop, drop-drop}
use Rattle.plane.specs.Corners.{Corner, corner}
use Rattle.plane.specs.Edges.{edge}
use Rattle.ground.specs.Shapes.{Shape, edges, edges_from}
use Rattle.ground.specs.Rows.{corners, shape_of}
use Rattle.ground.specs.Paths.{path}
use Rattle.ground.proofs.Rows.{front}
use Rattle.ground.proofs.Pairs.{Fitted, fitted_none}

unfoldable last_corner : Corner → Shape → Corner
last_corner a [] = a
last_corner a (b ∷ bs) = last_corner b bs

closed_path : (f a : Corner) (cs : Shape) → edges_from f a cs ≡ path a cs ++ edge (last_corner a cs) f ∷ []
unfolding edges_from path last_corner
closed_path f a [] = refl
closed_path f a (b ∷ bs) = ap (λ es. edge a b ∷ es) (closed_path f b bs)

-- the last corner of a row is its last two numbers
last_of : (a : Corner) (n : ℕ) (xs : List ℕ) → last_corner a (corners (suc n) xs) ≡ corner (get_or xs (2 * n) 0) (get_or xs (2 * n + 1) 0)
unfolding corners last_corner
last_of a zero xs = refl
last_of a (suc n) xs =
    let x = get_or-drop 2 xs (2 * n) 0 in
    let y = get_or-drop 2 xs (2 * n + 1) 0 in
    let p : 2 + 2 * n ≡ 2 * suc n = omega arith in
    let q : 2 + (2 * n + 1) ≡ 2 * suc n + 1 = omega arith in
    last_of (front xs) n (drop 2 xs) ∙ ap (λ k. corner k (get_or (drop 2 xs) (2 * n + 1) 0)) (x ∙ ap (λ k. get_or xs k 0) p)
    ∙ ap (λ k. corner (get_or xs (2 * suc n) 0) k) (y ∙ ap (λ k. get_or xs k 0) q)

-- a row of two corners and more
abbrev pub second : List ℕ → Corner
second xs = corner (get_or xs 2 0) (get_or xs 3 0)

abbrev pub behind_two : List ℕ → List ℕ
behind_two xs = take (length xs - 4) (drop 4 xs)

abbrev pub final : List ℕ → Corner
final xs = corner (get_or xs (length xs - 2) 0) (get_or xs (length xs - 1) 0)

two_corners : (xs : List ℕ) → 4 ≤ length xs → shape_of xs ≡ front xs ∷ second xs ∷ shape_of (behind_two xs)
unfolding corners
two_corners xs h =
    let half : length xs / 2 ≡ suc (suc (length (drop 4 xs) / 2)) = simp length-drop (omega arith) in
    let m = length (drop 4 xs) / 2 in
    rw (take_rest xs 4)
    (ap (λ n. corners n xs) half ∙ ap (λ x. front xs ∷ corner x (get_or (drop 2 xs) 1 0) ∷ corners m (drop 2 (drop 2 xs))) (get_or-drop 2 xs 0 0)
    ∙ ap (λ y. front xs ∷ corner (get_or xs 2 0) y ∷ corners m (drop 2 (drop 2 xs))) (get_or-drop 2 xs 1 0)
    ∙ ap (λ ys. front xs ∷ second xs ∷ corners m ys) (drop-drop 2 2 xs))

pub behind_two_length : (xs : List ℕ) → length (behind_two xs) ≡ length xs - 4
behind_two_length xs = rw (take_rest xs 4) (length-drop 4 xs)

final_is : (xs : List ℕ) → 4 ≤ length xs → length xs % 2 ≡ 0 → last_corner (second xs) (shape_of (behind_two xs)) ≡ final xs
unfolding last_corner
final_is xs h even =
    let half : length xs / 2 ≡ suc (length xs / 2 - 1) = omega arith in
    let x : 2 * (length xs / 2 - 1) ≡ length xs - 2 = omega arith in
    let y : 2 * (length xs / 2 - 1) + 1 ≡ length xs - 1 = omega arith in
    sym (ap (last_corner (front xs)) (two_corners xs h)) ∙ ap (λ n. last_corner (front xs) (corners n xs)) half ∙ last_of (front xs) (length xs / 2 - 1) xs
    ∙ ap (λ k. corner (get_or xs k 0) (get_or xs (2 * (length xs / 2 - 1) + 1) 0)) x ∙ ap (λ k. corner (get_or xs (length xs - 2) 0) (get_or xs k 0)) y

-- at first all edges are left: the first one, the path over the others, and the one that closes it
pub ring_begins : (xs : List ℕ) → 4 ≤ length xs → length xs % 2 ≡ 0 →
    Fitted (edges (shape_of xs)) 1 (edge (front xs) (second xs)) (path (second xs) (shape_of (behind_two xs))) (edge (final xs) (front xs))
unfolding edges edges_from
ring_begins xs h even =
    let e = edge (front xs) (second xs) in
    let qs = path (second xs) (shape_of (behind_two xs)) in
    let z = edge (final xs) (front xs) in
    let all : edges (shape_of xs) ≡ e ∷ qs ++ z ∷ [] =
    ap edges (two_corners xs h) ∙ ap (λ es. e ∷ es) (closed_path (front xs) (second xs) (shape_of (behind_two xs)))
    ∙ ap (λ c. e ∷ qs ++ edge c (front xs) ∷ []) (final_is xs h even) in
    subst (λ es. Fitted es 1 e qs z) (sym all) (fitted_none e qs z)

-- there are as many edges as corners
corners_many : (n : ℕ) (xs : List ℕ) → length (corners n xs) ≡ n
unfolding corners
corners_many zero xs = refl
corners_many (suc n) xs = ap suc (corners_many n (drop 2 xs))

edges_from_many : (f a : Corner) (cs : Shape) → length (edges_from f a cs) ≡ suc (length cs)
unfolding edges_from
edges_from_many f a [] = refl
edges_from_many f a (b ∷ bs) = ap suc (edges_from_many f b bs)

pub edges_many : (s : Shape) → length (edges s) ≡ length s
unfolding edges
edges_many [] = refl
edges_many (a ∷ as₁) = edges_from_many a a as₁

pub shape_many : (xs : List ℕ) → length (shape_of xs) ≡ length xs / 2
shape_many xs = corners_many (length xs / 2) xs

pub ring_many : (xs : List ℕ) → length (edges (shape_of xs)) ≡ length xs / 2
ring_many xs = edges_many (shape_of xs) ∙ shape_many xs

pub path_many : (a : Corner) (cs : Shape) → length (path a cs) ≡ length cs
unfolding path
path_many a [] = refl
path_many a (b ∷ bs) = ap suc (path_many b bs)
