-- Points at which two grounds have given parities: what they say, and that there are such points beside the borders too.
use Rattle.std.proofs.Common.{◌≡◌, ℕ, ◌+◌, ◌*◌, ◌<◌, ◌≤◌, Bool, true, false, not, ◌&&◌, ltb, List, ◌++◌, sym, ap, ◌∙◌, ⊎_elim, mul_assoc, mul-le-mul, mul-le-mul_left, arith}
use Rattle.std.proofs.lemmas.Bool.{and_parts, and_from, cases_lt, leb-true, le-leb, ltb-true, not_from_false, not-true}
use Rattle.plane.specs.Lists.{or, any, each}
use Rattle.plane.specs.Corners.{Corner}
use Rattle.plane.specs.Edges.{Edge, grown_edge, on_edge}
use Rattle.plane.specs.Parity.{crosses, parity}
use Rattle.plane.proofs.Booleans.{or_left, or_from}
use Rattle.plane.proofs.Lists.{In, in_append, every_at}
use Rattle.plane.proofs.Xors.{xors_each}
use Rattle.plane.proofs.Chains.{closed_grown}
use Rattle.plane.proofs.Beside.{east_hair}
use Rattle.plane.proofs.Stepping.{AllBelow, parity_east, free_east}
use Rattle.plane.proofs.Growth.{square_above}
use Rattle.ground.specs.Shapes.{Point, a_point, Shape, edges, as_corner, on_border, inside, in_shape, a_shape}
use Rattle.ground.proofs.Rings.{closed_edges, shape_parts}
use Rattle.ground.proofs.Points.{inside_sum, or_and_not, border_enlarged}
use Rattle.ground.proofs.Borders.{PlaceInside, beside_ground, below_edges, grown_both, below_grown}
use Rattle.relate.specs.Samples.{raw}

-- a corner, all made w times as large, as a point
abbrev pub place_at : ℕ → Corner → Point
place_at w c = record { px = c.x; py = c.y; w = w }

-- WHAT THE PARITY SAYS
-- inside, or in the ground
pub inside_raw : (s : Shape) (p : Point) → inside s p ≡ (raw s p && not (on_border s p))
inside_raw s p = inside_sum s p

-- in the ground: odd, or on the border
pub in_shape_raw : (s : Shape) (p : Point) → in_shape s p ≡ or (raw s p) (on_border s p)
in_shape_raw s p = ap (λ t. or t (on_border s p)) (inside_sum s p) ∙ or_and_not (raw s p) (on_border s p)

-- the parity, of the edges made so many times as large
pub raw_parity : (s : Shape) (p : Point) → raw s p ≡ parity (each (grown_edge p.w) (edges s)) (as_corner p)
raw_parity s p = sym (xors_each (λ e. crosses e (as_corner p)) (grown_edge p.w) (edges s))

-- where a point is inside, the parity is odd and it is not on the border
pub inside_parts : (s : Shape) (p : Point) → inside s p ≡ true → (raw s p ≡ true) × (on_border s p ≡ false)
inside_parts s p h =
    let w = and_parts (raw s p) (not (on_border s p)) (sym (inside_raw s p) ∙ h) in
    (w.0, not-true (on_border s p) w.1)

-- and the other way round
pub inside_from : (s : Shape) (p : Point) → raw s p ≡ true → on_border s p ≡ false → inside s p ≡ true
inside_from s p odd off = inside_raw s p ∙ and_from (raw s p) (not (on_border s p)) odd (not_from_false (on_border s p) off)

-- what is inside is in the ground
pub in_from_inside : (s : Shape) (p : Point) → inside s p ≡ true → in_shape s p ≡ true
in_from_inside s p h = or_left (inside s p) (on_border s p) h

-- an even parity beside the border: not in the ground
pub outside_from : (s : Shape) (p : Point) → raw s p ≡ false → on_border s p ≡ false → in_shape s p ≡ false
outside_from s p even off = in_shape_raw s p ∙ or_from (raw s p) (on_border s p) even off

-- THE EDGES OF A GROUND
-- the corners of two are below the height 2^20
pub corner_small : (s t : Shape) → a_shape s ≡ true → a_shape t ≡ true → (c : Corner) → In c (s ++ t) → c.y < 1048576
corner_small s t shaped_s shaped_t c i = ⊎_elim (small s shaped_s) (small t shaped_t) (in_append c s t i)
  where
    small : (r : Shape) → a_shape r ≡ true → In c r → c.y < 1048576
    small r shaped k =
        ltb-true c.y 1048576
        (and_parts (ltb c.x 1048576) (ltb c.y 1048576)
        (every_at (λ z. ltb z.x 1048576 && ltb z.y 1048576) c r k (shape_parts r shaped).small)).1

-- A PAIR OF PARITIES: there is a point with these
abbrev pub Pair : Shape → Shape → Bool → Bool → Type 0
Pair s t i j = (p : Point) × (a_point p ≡ true) × (raw s p ≡ i) × (raw t p ≡ j)

-- such a point on neither border, at the height of no corner
pub record FreePair (s t : Shape) (i j : Bool) : Type 0 where
  pub point : Point
  pub pointed : 1 ≤ point.w
  pub first : raw s point ≡ i
  pub second : raw t point ≡ j
  pub off_first : on_border s point ≡ false
  pub off_second : on_border t point ≡ false
  pub off_heights : (n : ℕ) → point.py ≡ point.w * n → ⊥

-- one more than a multiple is none
no_multiple : (k x y : ℕ) → 2 ≤ k → k * x + 1 ≡ k * y → ⊥
no_multiple k x y large e =
    ⊎_elim (λ h. let z : k * x + k ≤ k * y = omega (arith, mul-le-mul_left k h) in omega arith) (λ h. omega (arith, mul-le-mul_left k h)) (cases_lt x y)

-- A HAIR TO THE EAST there is such a point
pub beside_pair : (s t : Shape) → a_shape s ≡ true → a_shape t ≡ true → (i j : Bool) → Pair s t i j → FreePair s t i j
beside_pair s t shaped_s shaped_t i j (p, pointed, first, second) =
    record {
      point = q;
      pointed = mul-le-mul (square_above n one) above;
      first = odd s shaped_s ∙ first;
      second = odd t shaped_t ∙ second;
      off_first = free s shaped_s;
      off_second = free t shaped_t;
      off_heights = λ m h. no_multiple (n * n) c.y (p.w * m) square (h ∙ mul_assoc (n * n) p.w m);
    }
  where
    above : 1 ≤ p.w
    above = leb-true 1 p.w pointed

    n : ℕ
    n = p.w * 1048576 + 2

    large : 2 ≤ p.w * 1048576 + 2
    large = omega arith

    one : 1 ≤ p.w * 1048576 + 2
    one = omega arith

    square : 2 ≤ (p.w * 1048576 + 2) * (p.w * 1048576 + 2)
    square = omega (arith, mul-le-mul large large)

    c : Corner
    c = as_corner p

    q : Point
    q = place_at ((n * n) * p.w) (east_hair n c)

    below : (r : Shape) → a_shape r ≡ true → AllBelow n (each (grown_edge p.w) (edges r))
    below r shaped = below_grown p.w 1048576 (edges r) (below_edges r shaped) above

    odd : (r : Shape) → a_shape r ≡ true → raw r q ≡ raw r p
    odd r shaped =
        raw_parity r q ∙ ap (λ fs. parity fs (as_corner q)) (sym (grown_both (n * n) p.w (edges r)))
        ∙ parity_east n large (each (grown_edge p.w) (edges r)) (below r shaped) c ∙ sym (raw_parity r p)

    free : (r : Shape) → a_shape r ≡ true → on_border r q ≡ false
    free r shaped =
        border_enlarged r q ∙ ap (any (λ e. on_edge e (as_corner q))) (sym (grown_both (n * n) p.w (edges r)))
        ∙ free_east n large (each (grown_edge p.w) (edges r)) (below r shaped) c

-- BESIDE A BORDER: a point of the border of s that is not on that of t has a point inside s beside it, which lies to t as it does
abbrev pub Beside : (s t : Shape) → Bool → Type 0
Beside s t j = (p : Point) × (a_point p ≡ true) × (inside s p ≡ true) × (raw t p ≡ j) × (on_border t p ≡ false)

-- there is such a point
pub border_there : (s t : Shape) → a_shape s ≡ true → a_shape t ≡ true → (p : Point) → a_point p ≡ true → on_border s p ≡ true → on_border t p ≡ false →
    Beside s t (raw t p)
border_there s t shaped_s shaped_t p pointed on off =
    told
    (beside_ground w above s shaped_s ts (closed_grown w (edges t) (closed_edges t)) (below_grown w 1048576 (edges t) (below_edges t shaped_t) above) (as_corner p)
    (sym (border_enlarged s p) ∙ on) (sym (border_enlarged t p) ∙ off))
  where
    w : ℕ
    w = p.w

    above : 1 ≤ p.w
    above = leb-true 1 p.w pointed

    es : List Edge
    es = each (grown_edge p.w) (edges s)

    ts : List Edge
    ts = each (grown_edge p.w) (edges t)

    told : PlaceInside es ts (parity ts (as_corner p)) → Beside s t (raw t p)
    told k = (
      q,
      le-leb 1 (k.times * p.w) (mul-le-mul k.above above),
      inside_from s q (raw_parity s q ∙ ap (λ fs. parity fs k.place) (sym (grown_both k.times w (edges s))) ∙ k.inside_one)
          (border_enlarged s q ∙ ap (any (λ e. on_edge e k.place)) (sym (grown_both k.times w (edges s))) ∙ k.off_one),
      raw_parity t q ∙ ap (λ fs. parity fs k.place) (sym (grown_both k.times w (edges t))) ∙ k.in_other ∙ sym (raw_parity t p),
      border_enlarged t q ∙ ap (any (λ e. on_edge e k.place)) (sym (grown_both k.times w (edges t))) ∙ k.off_other,
    )
      where
        q : Point
        q = place_at (k.times * p.w) k.place
