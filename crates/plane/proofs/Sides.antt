-- A corner beyond both ends of an edge: on which side of the edge it lies, and whether the line from it to the east crosses the edge.
use Rattle.std.proofs.Common.{◌≡◌, ℕ, suc, ◌+◌, ◌*◌, ◌<◌, ◌≤◌, true, false, ◌&&◌, ltb, arith}
use Rattle.std.proofs.lemmas.Bool.{and_parts}
use Rattle.std.proofs.lemmas.Bool.Decides.{nat_tests}
use Rattle.plane.specs.Corners.{Corner, lefts, rights, in_line, between}
use Rattle.plane.specs.Edges.{Edge, edge, on_edge}
use Rattle.plane.specs.Parity.{xor, crosses}
use Rattle.plane.proofs.Products.{product_le, product_lt}

-- the edge goes from the one side of c to the other, by the first coordinate; by the second, c is not below either end, or below both
module _ (ax ay bx by cx cy : ℕ) (before : ax ≤ cx) (behind : cx < bx) where
  beyond_both : ay ≤ cy → by ≤ cy → ay * bx + by * cx + cy * ax ≤ ax * by + bx * cy + cx * ay
  beyond_both h k = omega (arith, product_le ax cx by cy before k, product_le ay cy cx bx h (omega arith))

  short_of_both : cy < ay → cy < by → ax * by + bx * cy + cx * ay < ay * bx + by * cx + cy * ax
  short_of_both h k = omega (arith, product_le (suc cy) by ax cx k before, product_lt cy ay cx bx h behind)

-- WHICH SIDE
module _ (a b c : Corner) where
  module _ (before : a.x ≤ c.x) (behind : c.x < b.x) where
    -- an edge that goes eastward past c has c on its left if c is north of both ends, or at their height
    pub north_of_both : a.y ≤ c.y → b.y ≤ c.y → rights a b c ≤ lefts a b c
    north_of_both = beyond_both a.x a.y b.x b.y c.x c.y before behind

    -- and on its right if c is south of both
    pub south_of_both : c.y < a.y → c.y < b.y → lefts a b c < rights a b c
    south_of_both = short_of_both a.x a.y b.x b.y c.x c.y before behind

  module _ (before : a.y ≤ c.y) (behind : c.y < b.y) where
    -- an edge that goes northward past c has c on its right if c is east of both ends
    pub east_of_both : a.x ≤ c.x → b.x ≤ c.x → lefts a b c ≤ rights a b c
    east_of_both = beyond_both a.y a.x b.y b.x c.y c.x before behind

    -- and on its left if c is west of both
    pub west_of_both : c.x < a.x → c.x < b.x → rights a b c < lefts a b c
    west_of_both = short_of_both a.y a.x b.y b.x c.y c.x before behind

-- WHICH EDGES ARE CROSSED
module _ (a b c : Corner) where
  -- none that c is east of
  pub none_from_east : a.x ≤ c.x → b.x ≤ c.x → crosses (edge a b) c ≡ false
  none_from_east h k =
      let up : a.y ≤ c.y → c.y < b.y → lefts a b c ≤ rights a b c = λ l m. east_of_both a b c l m h k in
      let down : b.y ≤ c.y → c.y < a.y → rights a b c ≤ lefts a b c = λ l m. omega (arith, east_of_both b a c l m k h) in
      grind (arith, nat_tests)

  -- all that c is west of, and that have one end above c and one not
  pub all_from_west : c.x < a.x → c.x < b.x → crosses (edge a b) c ≡ xor (ltb c.y a.y) (ltb c.y b.y)
  all_from_west h k =
      let up : a.y ≤ c.y → c.y < b.y → rights a b c < lefts a b c = λ l m. west_of_both a b c l m h k in
      let down : b.y ≤ c.y → c.y < a.y → lefts a b c < rights a b c = λ l m. omega (arith, west_of_both b a c l m k h) in
      grind (arith, nat_tests)

  -- none that c is north of, nor any that it is south of
  pub none_from_north : a.y ≤ c.y → b.y ≤ c.y → crosses (edge a b) c ≡ false
  none_from_north h k = grind (arith, nat_tests)

  pub none_from_south : c.y < a.y → c.y < b.y → crosses (edge a b) c ≡ false
  none_from_south h k = grind (arith, nat_tests)

-- what is on an edge is in line with its ends, and between them eastward and northward
pub on_edge_parts : (e : Edge) (c : Corner) → on_edge e c ≡ true →
    (in_line e.one e.other c ≡ true) × (between e.one.x e.other.x c.x ≡ true) × (between e.one.y e.other.y c.y ≡ true)
on_edge_parts e c h =
    let p = and_parts (in_line e.one e.other c) (between e.one.x e.other.x c.x && between e.one.y e.other.y c.y) h in
    let q = and_parts (between e.one.x e.other.x c.x) (between e.one.y e.other.y c.y) p.1 in
    (p.0, q.0, q.1)
