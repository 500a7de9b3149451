-- The edges of a row of corners: from another corner on, of the images of the corners, and that they close.
use Rattle.std.proofs.Common.{◌≡◌, ◌<◌, ◌≤◌, Bool, true, ◌&&◌, ltb, leb, ◌⊎◌, List, [], ◌∷◌, ◌++◌, length, sym, refl, ap, ◌∙◌, inl, inr, ⊎_elim}
use Rattle.std.proofs.lemmas.Bool.{and_parts, and_from, leb-true, ltb-true}
use Rattle.plane.specs.Lists.{or, every, any, each}
use Rattle.plane.specs.Corners.{Corner}
use Rattle.plane.specs.Edges.{Edge, edge}
use Rattle.plane.specs.Parity.{xor, xors, changes, Closed}
use Rattle.plane.proofs.Booleans.{or_comm, or_false_right, xor_self, xor_false_right, xor_through}
use Rattle.plane.proofs.Lists.{In, any_append}
use Rattle.plane.proofs.Xors.{xors_turned}
use Rattle.plane.proofs.Chains.{moved, closed_none}
use Rattle.plane.proofs.Boxes.{both_ends}
use Rattle.ground.specs.Shapes.{Shape, edges, edges_from, ring_clear, left_sum, right_sum, a_shape}

-- one corner more at the end: the last edge ends there, and a new one closes the ring
edges_push : (f b a : Corner) (bs : List Corner) → edges_from f b (bs ++ a ∷ []) ≡ edges_from a b bs ++ edge a f ∷ []
unfolding edges_from
edges_push f b a [] = refl
edges_push f b a (c ∷ cs) = ap (◌∷◌ (edge b c)) (edges_push f c a cs)

-- from the second corner on, the first edge stands last
pub edges_turned : (a : Corner) (s : Shape) → (e : Edge) × (es : List Edge) × (edges (a ∷ s) ≡ e ∷ es) × (edges (s ++ a ∷ []) ≡ es ++ e ∷ [])
unfolding edges edges_from
edges_turned a [] = (edge a a, [], refl, refl)
edges_turned a (b ∷ bs) = (edge a b, edges_from a b bs, refl, edges_push b b a bs)

-- so what a test says of some edge, or of an odd number of edges, does not depend on the corner that the row begins with
pub any_edge_turned : (f : Edge → Bool) (a : Corner) (s : Shape) → any f (edges (a ∷ s)) ≡ any f (edges (s ++ a ∷ []))
unfolding any
any_edge_turned f a s =
    let t = edges_turned a s in
    ap (any f) t.2 ∙ or_comm (f t.0) (any f t.1) ∙ ap (or (any f t.1)) (sym (or_false_right (f t.0)))
    ∙ sym (any_append f t.1 (t.0 ∷ [])) ∙ sym (ap (any f) t.3)

pub odd_edges_turned : (f : Edge → Bool) (a : Corner) (s : Shape) → xors f (edges (a ∷ s)) ≡ xors f (edges (s ++ a ∷ []))
odd_edges_turned f a s =
    let t = edges_turned a s in
    ap (xors f) t.2 ∙ xors_turned f (t.0 ∷ []) t.1 ∙ sym (ap (xors f) t.3)

-- IMAGES: the edges between the images of the corners
edges_from_moved : (g : Corner → Corner) (f a : Corner) (bs : List Corner) → edges_from (g f) (g a) (each g bs) ≡ each (moved g) (edges_from f a bs)
unfolding edges_from each
edges_from_moved g f a [] = refl
edges_from_moved g f a (b ∷ bs) = ap (◌∷◌ (edge (g a) (g b))) (edges_from_moved g f b bs)

-- of the whole ring
pub edges_moved : (g : Corner → Corner) (s : Shape) → edges (each g s) ≡ each (moved g) (edges s)
unfolding edges each
edges_moved g [] = refl
edges_moved g (a ∷ s) = edges_from_moved g a a s

-- A RING CLOSES
-- along a path from corner to corner what changes is what differs at its ends
path_changes : (h : Corner → Bool) (f a : Corner) (bs : List Corner) → xors (changes h) (edges_from f a bs) ≡ xor (h a) (h f)
unfolding edges_from xors
path_changes h f a [] = xor_false_right (xor (h a) (h f))
path_changes h f a (b ∷ bs) = ap (xor (xor (h a) (h b))) (path_changes h f b bs) ∙ xor_through (h a) (h b) (h f)

-- whatever is asked of corners, round the ring the answer comes back to what it was
pub closed_edges : (s : Shape) → Closed (edges s)
unfolding edges
closed_edges [] h = closed_none h
closed_edges (a ∷ s) h = path_changes h a a s ∙ xor_self (h a)

-- CORNERS AND ENDS: what holds of every corner holds at both ends of every edge
ends_from : (g : Corner → Bool) (f a : Corner) (bs : List Corner) → g f ≡ true → g a ≡ true → every g bs ≡ true → every (both_ends g) (edges_from f a bs) ≡ true
unfolding edges_from every
ends_from g f a [] first here rest = and_from (both_ends g (edge a f)) true (and_from (g a) (g f) here first) refl
ends_from g f a (b ∷ bs) first here rest =
    let next = and_parts (g b) (every g bs) rest in
    and_from (both_ends g (edge a b)) (every (both_ends g) (edges_from f b bs)) (and_from (g a) (g b) here next.0) (ends_from g f b bs first next.0 next.1)

-- of the whole ring
pub every_end : (g : Corner → Bool) (s : Shape) → every g s ≡ true → every (both_ends g) (edges s) ≡ true
unfolding edges every
every_end g [] h = refl
every_end g (a ∷ s) h = let p = and_parts (g a) (every g s) h in ends_from g a a s p.0 p.0 p.1

-- the ends of an edge are corners
path_ends : (f a : Corner) (bs : List Corner) (e : Edge) → In e (edges_from f a bs) → ((e.one ≡ a) ⊎ In e.one bs) × ((e.other ≡ f) ⊎ In e.other bs)
unfolding edges_from
path_ends f a [] e (inl d) = (inl (ap (λ g. g.one) d), inl (ap (λ g. g.other) d))
path_ends f a [] e (inr i) = absurd i
path_ends f a (b ∷ bs) e (inl d) = (inl (ap (λ g. g.one) d), inr (inl (ap (λ g. g.other) d)))
path_ends f a (b ∷ bs) e (inr i) = let w = path_ends f b bs e i in (inr w.0, ⊎_elim (λ d. inl d) (λ j. inr (inr j)) w.1)

-- of the whole ring
pub edge_ends : (s : Shape) (e : Edge) → In e (edges s) → In e.one s × In e.other s
unfolding edges
edge_ends [] e i = absurd i
edge_ends (a ∷ s) e i = path_ends a a s e i

-- what is the same at both ends of each edge of a path is the same at all its corners
path_same : (g : Corner → Bool) (f a : Corner) (bs : List Corner) → ((e : Edge) → In e (edges_from f a bs) → g e.one ≡ g e.other) →
    (c : Corner) → In c (a ∷ bs) → g c ≡ g a
unfolding edges_from
path_same g f a [] h c (inl d) = ap g d
path_same g f a [] h c (inr i) = absurd i
path_same g f a (b ∷ bs) h c (inl d) = ap g d
path_same g f a (b ∷ bs) h c (inr i) = path_same g f b bs (λ e j. h e (inr j)) c i ∙ sym (h (edge a b) (inl refl))

pub ring_same : (g : Corner → Bool) (s : Shape) → ((e : Edge) → In e (edges s) → g e.one ≡ g e.other) → (c d : Corner) → In c s → In d s → g c ≡ g d
unfolding edges
ring_same g [] h c d i j = absurd i
ring_same g (a ∷ s) h c d i j = path_same g a a s h c i ∙ sym (path_same g a a s h d j)

-- each corner begins an edge
path_begins : (f a : Corner) (bs : List Corner) (c : Corner) → In c (a ∷ bs) → (e : Edge) × In e (edges_from f a bs) × (e.one ≡ c)
unfolding edges_from
path_begins f a [] c (inl d) = (edge a f, inl refl, sym d)
path_begins f a [] c (inr i) = absurd i
path_begins f a (b ∷ bs) c (inl d) = (edge a b, inl refl, sym d)
path_begins f a (b ∷ bs) c (inr i) = let w = path_begins f b bs c i in (w.0, inr w.1, w.2)

pub corner_begins : (s : Shape) (c : Corner) → In c s → (e : Edge) × In e (edges s) × (e.one ≡ c)
unfolding edges
corner_begins [] c i = absurd i
corner_begins (a ∷ s) c i = path_begins a a s c i

-- WHAT MAKES A ROW A GROUND
pub record Shaped (s : Shape) : Type 0 where
  pub many : (3 ≤ length s) × (length s ≤ 256)
  pub small : every (λ c. ltb c.x 1048576 && ltb c.y 1048576) s ≡ true
  pub clear : ring_clear (edges s) ≡ true
  pub area : right_sum s < left_sum s

-- what the test of a ground says
pub shape_parts : (s : Shape) → a_shape s ≡ true → Shaped s
shape_parts s h =
    let few = leb 3 (length s) && leb (length s) 256 in
    let near = every (λ c. ltb c.x 1048576 && ltb c.y 1048576) s in
    let p = and_parts (few && near) (ring_clear (edges s) && ltb (right_sum s) (left_sum s)) h in
    let q = and_parts few near p.0 in
    let r = and_parts (leb 3 (length s)) (leb (length s) 256) q.0 in
    let t = and_parts (ring_clear (edges s)) (ltb (right_sum s) (left_sum s)) p.1 in
    record {
      many = (leb-true 3 (length s) r.0, leb-true (length s) 256 r.1);
      small = q.1;
      clear = t.0;
      area = ltb-true (right_sum s) (left_sum s) t.1;
    }
