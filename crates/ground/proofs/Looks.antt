-- A look at a ring, edge by edge: what is noted of the edges one by one is what there is to be seen of the whole.
use Rattle.std.proofs.Common.{◌≡◌, ℕ, suc, ◌/◌, ◌%◌, Bool, true, false, not, ◌&&◌, eqb, ltb, List, [], ◌∷◌, length, Some, None, Option, sym, refl, ap, ◌∙◌, subst, arith}
use Rattle.std.proofs.lemmas.Bool.Decides.{nat_tests}
use Rattle.std.proofs.lemmas.Bool.{eq-eqb}
use Rattle.plane.specs.Lists.{or, pick, any, those, every}
use Rattle.plane.specs.Corners.{Corner, corner}
use Rattle.plane.proofs.Xors.{odd_more}
use Rattle.plane.proofs.Booleans.{or_assoc, or_true_right, or_false_right}
use Rattle.plane.specs.Edges.{Edge, edge, grown_edge, on_edge}
use Rattle.plane.specs.Sights.{SeenAt, SeenSo, StandsAt, near_edge, view_fits}
use Rattle.plane.specs.Parity.{crosses}
use Rattle.plane.specs.declared.viewer.Viewer.{Viewer}
use Rattle.plane.specs.declared.sight.Sight.{Sight}
use Rattle.plane.specs.declared.sight.Sight.TheVariants.{Border, Crossed, Missed}
use Rattle.ground.specs.Shapes.{Point, Shape, edges, edges_from, as_corner, on_border, crossings}
use Rattle.ground.specs.Rows.{near_corner, corners, shape_of}
use Rattle.ground.specs.Looks.{point, look_fits, look_of, noted}
use Rattle.ground.specs.declared.looking.Look.{Look}

-- what is seen when the edges that are left are looked at too: f and g say of each whether it holds the point and whether it is crossed
abbrev with_edge : (f g : Edge → Bool) → Look → Edge → Look
with_edge f g l e = record { border = or l.border (f e); odd = pick (g e) (not l.odd) l.odd }

abbrev seen_by : (f g : Edge → Bool) → Look → List Edge → Look
seen_by f g l [] = l
seen_by f g l (e ∷ es) = seen_by f g (with_edge f g l e) es

-- an oddness of n, turned over if one more is counted
odd_seen : (o b : Bool) (e : Edge) (es : List Edge) →
    pick (eqb (length es % 2) 1) (not (pick b (not o) o)) (pick b (not o) o) ≡ pick (eqb (length (pick b (e ∷ es) es) % 2) 1) (not o) o
odd_seen o false e es = refl
odd_seen o true e es =
    rw (odd_more (length es)) (flips (eqb (length es % 2) 1) o)
  where
    flips : (t v : Bool) → pick t (not (not v)) (not v) ≡ pick (not t) (not v) v
    flips true true = refl
    flips true false = refl
    flips false v = refl

seen_parts : (f g : Edge → Bool) (l : Look) (es : List Edge) →
    seen_by f g l es ≡ record { border = or l.border (any f es); odd = pick (eqb (length (those g es) % 2) 1) (not l.odd) l.odd }
unfolding any those
seen_parts f g l [] = ap (λ b. record { border = b; odd = l.odd }) (sym (or_false_right l.border))
seen_parts f g l (e ∷ es) =
    let left = seen_parts f g (with_edge f g l e) es in
    let o = or_assoc l.border (f e) (any f es) in
    let x = odd_seen l.odd (g e) e (those g es) in
    cc

-- what the point sees of the edges that are left, on top of what it has seen
abbrev pub seen : Point → Look → List Edge → Look
seen p l es = seen_by (λ e. on_edge (grown_edge p.w e) (as_corner p)) (λ e. crosses (grown_edge p.w e) (as_corner p)) l es

abbrev pub nothing : Look
nothing = record { border = false; odd = false }

-- all that there is to be seen of a shape
pub seen_all : (p : Point) (s : Shape) → seen p nothing (edges s) ≡ look_of s p
seen_all p s =
    seen_parts _ _ nothing (edges s) ∙ ap (λ o. record { border = on_border s p; odd = o }) (same (eqb (crossings s p % 2) 1))
  where
    same : (t : Bool) → pick t true false ≡ t
    same true = refl
    same false = refl

-- to note what is seen of an edge is to look at one more
abbrev told_so : Bool → Bool → Look → Look
told_so b t l = record { border = or l.border b; odd = pick t (not l.odd) l.odd }

noted_border : (l : Look) (b t : Bool) → b ≡ true → t ≡ false → noted l Border ≡ told_so b t l
noted_border l b t h k = rw (h, k) (ap (λ v. record { border = v; odd = l.odd }) (sym (or_true_right l.border)))

noted_crossed : (l : Look) (b t : Bool) → b ≡ false → t ≡ true → noted l Crossed ≡ told_so b t l
noted_crossed l b t h k = rw (h, k) (ap (λ v. record { border = v; odd = not l.odd }) (sym (or_false_right l.border)))

noted_missed : (l : Look) (b t : Bool) → b ≡ false → t ≡ false → noted l Missed ≡ told_so b t l
noted_missed l b t h k = rw (h, k) (ap (λ v. record { border = v; odd = l.odd }) (sym (or_false_right l.border)))

pub seen_more : (p : Point) (l : Look) (e : Edge) (es : List Edge) (r : Sight) → SeenAt p.w e (as_corner p) r → seen p (noted l r) es ≡ seen p l (e ∷ es)
seen_more p l e es Border (on, off) = ap (λ k. seen p k es) (noted_border l _ _ on off)
seen_more p l e es Crossed (on, off) = ap (λ k. seen p k es) (noted_crossed l _ _ on off)
seen_more p l e es Missed (on, off) = ap (λ k. seen p k es) (noted_missed l _ _ on off)

-- a point that stands at a / w, b / w sees what there is to be seen from there
pub stood : (v : Viewer) (a b w : ℕ) (e : Edge) (r : Sight) → StandsAt v a b w → SeenSo v e r → SeenAt w e (corner a b) r
stood v a b w e r (x, y, z) h =
    subst (λ n. SeenAt n e (corner a b) r) z (subst (λ n. SeenAt v.scale e (corner a n) r) y (subst (λ n. SeenAt v.scale e (corner n v.y) r) x h))

-- THE RANGE: of an even row all numbers are in range exactly if all corners are
pub numbers_near : (row : List ℕ) → length row % 2 ≡ 0 → every (λ n. ltb n 1048576) row ≡ every near_corner (shape_of row)
unfolding every corners
numbers_near [] h = refl
numbers_near (x ∷ []) h = absurd (omega (arith, h))
numbers_near (x ∷ y ∷ ys) h =
    let half : suc (suc (length ys)) / 2 ≡ suc (length ys / 2) = omega arith in
    let left : every (λ n. ltb n 1048576) (x ∷ y ∷ ys) ≡ every near_corner (corner x y ∷ shape_of ys) =
    let e = numbers_near ys (omega arith) in grind (arith, nat_tests) in
    left ∙ ap (λ n. every near_corner (corners n (x ∷ y ∷ ys))) (sym half)

-- edges are in range one by one, and those of a ring are if its corners are
pub near_more : (e : Edge) (es left : List Edge) → es ≡ e ∷ left → near_edge e ≡ true → every near_edge left ≡ every near_edge es
unfolding every
near_more e es left h near = sym (ap (every near_edge) h ∙ ap (λ t. t && every near_edge left) near)

pub near_fails : (e : Edge) (es left : List Edge) → es ≡ e ∷ left → near_edge e ≡ false → every near_edge es ≡ false
unfolding every
near_fails e es left h far = ap (every near_edge) h ∙ ap (λ t. t && every near_edge left) far

from_near : (f a : Corner) (cs : Shape) → every near_edge (edges_from f a cs) ≡ near_corner a && (every near_corner cs && near_corner f)
unfolding every edges_from
from_near f a [] = both (near_corner a) (near_corner f)
  where
    both : (t u : Bool) → (t && u) && true ≡ t && (true && u)
    both t u = grind arith
from_near f a (b ∷ bs) = ap (λ t. near_edge (edge a b) && t) (from_near f b bs) ∙ both (near_corner a) (near_corner b) (every near_corner bs) (near_corner f)
  where
    both : (t u v x : Bool) → (t && u) && (u && (v && x)) ≡ t && ((u && v) && x)
    both t u v x = grind arith

pub ring_near : (s : Shape) → every near_edge (edges s) ≡ every near_corner s
unfolding every edges
ring_near [] = refl
ring_near (a ∷ as₁) = from_near a a as₁ ∙ both (near_corner a) (every near_corner as₁)
  where
    both : (t u : Bool) → t && (u && t) ≡ t && u
    both t u = grind arith

-- THE ANSWER
abbrev Answers : List ℕ → ℕ → ℕ → ℕ → Option Look → Type 0
Answers row a b w r = r ≡ pick (look_fits row a b w) (Some (look_of (shape_of row) (point a b w))) None

pub answers_far : (row : List ℕ) (a b w : ℕ) → every near_corner (shape_of row) ≡ false → Answers row a b w None
answers_far row a b w far =
    let fits : look_fits row a b w ≡ false =
    let e = numbers_near row in grind (arith, nat_tests) in
    simp fits

pub answers_near : (row : List ℕ) (a b w : ℕ) (l : Look) → length row % 2 ≡ 0 → view_fits a b w ≡ true → every near_corner (shape_of row) ≡ true →
    l ≡ look_of (shape_of row) (point a b w) → Answers row a b w (Some l)
answers_near row a b w l even stands near e =
    let fits : look_fits row a b w ≡ true = all (eqb (length row % 2) 0) _ _ (eq-eqb _ _ even) (numbers_near row even ∙ near) stands in
    simp fits (ap Some e)
  where
    all : (t u v : Bool) → t ≡ true → u ≡ true → v ≡ true → (t && u) && v ≡ true
    all t u v h k l = grind arith
