-- When a corner lies on an edge.
use Rattle.std.proofs.Common.{◌≡◌, ℕ, ◌+◌, ◌*◌, ◌<◌, ◌≤◌, true, ◌⊎◌, sym, ap, ◌∙◌, ⊎_elim, le_of_lt, arith}
use Rattle.std.proofs.lemmas.Bool.{cases_lt, eq-eqb, and_from}
use Rattle.std.proofs.lemmas.Bool.Decides.{nat_tests}
use Rattle.plane.specs.Corners.{Corner, lefts, rights, between}
use Rattle.plane.specs.Edges.{edge, on_edge}
use Rattle.plane.proofs.Products.{product_le, product_lt, product_sign}
use Rattle.plane.proofs.Reversal.{on_edge_reversed}

pub between_up : (a b c : ℕ) → a ≤ c → c ≤ b → between a b c ≡ true
between_up a b c h k = grind (arith, nat_tests)

pub between_down : (a b c : ℕ) → b ≤ c → c ≤ a → between a b c ≡ true
between_down a b c h k = grind (arith, nat_tests)

pub between_cases : (a b c : ℕ) → between a b c ≡ true → ((a ≤ c) × (c ≤ b)) ⊎ ((b ≤ c) × (c ≤ a))
between_cases a b c h = grind (arith, nat_tests)

module _ (ax ay bx by cx cy : ℕ) (line : ax * by + bx * cy + cx * ay ≡ ay * bx + by * cx + cy * ax) (low : ay ≤ cy) (high : cy ≤ by) (rise : ay < by) where
  -- on the line of a rising edge, between its heights, c is between its ends in the other direction too
  east : ax ≤ bx → (ax ≤ cx) × (cx ≤ bx)
  east h = (⊎_elim (λ d. absurd (short d)) (λ d. d) (cases_lt cx ax), ⊎_elim (λ d. absurd (long d)) (λ d. d) (cases_lt bx cx))
    where
      short : cx < ax → ⊥
      short d = omega (arith, product_lt cx ax ay by d rise, product_le ax bx ay cy h low)

      long : bx < cx → ⊥
      long d = omega (arith, product_lt bx cx ay by d rise, product_le ax bx cy by h high)

  west : bx ≤ ax → (bx ≤ cx) × (cx ≤ ax)
  west h = (⊎_elim (λ d. absurd (long d)) (λ d. d) (cases_lt cx bx), ⊎_elim (λ d. absurd (short d)) (λ d. d) (cases_lt ax cx))
    where
      short : ax < cx → ⊥
      short d = omega (arith, product_lt ax cx ay by d rise, product_le bx ax ay cy h low)

      long : cx < bx → ⊥
      long d = omega (arith, product_lt cx bx ay by d rise, product_le bx ax cy by h high)

  pub between_steep : between ax bx cx ≡ true
  between_steep =
      ⊎_elim (λ h. between_up ax bx cx (east (le_of_lt h)).0 (east (le_of_lt h)).1) (λ h. between_down ax bx cx (west h).0 (west h).1)
      (cases_lt ax bx)

-- a corner in line with a rising edge, between its heights, lies on it
pub on_steep : (a b c : Corner) → lefts a b c ≡ rights a b c → a.y ≤ c.y → c.y ≤ b.y → a.y < b.y → on_edge (edge a b) c ≡ true
on_steep a b c line low high rise =
    and_from _ _ (eq-eqb (lefts a b c) (rights a b c) line)
    (and_from _ _ (between_steep a.x a.y b.x b.y c.x c.y line low high rise) (between_up a.y b.y c.y low high))

-- a corner in line with an edge that is not level, between its heights, lies on it
pub on_line : (a b c : Corner) → lefts a b c ≡ rights a b c → between a.y b.y c.y ≡ true → (a.y ≡ b.y → ⊥) → on_edge (edge a b) c ≡ true
on_line a b c line held steep =
    ⊎_elim (λ h. on_steep a b c line h.0 h.1 (omega arith))
    (λ h. sym (on_edge_reversed (edge a b) c) ∙ on_steep b a c (omega (arith, line)) h.0 h.1 (omega arith)) (between_cases a.y b.y c.y held)

-- three corners at one height are in line
pub level_line : (a b c : Corner) → a.y ≡ c.y → b.y ≡ c.y → lefts a b c ≡ rights a b c
level_line a b c ha hb =
    omega
    (arith, ap (λ (n : ℕ). a.x * n) hb, ap (λ (n : ℕ). c.x * n) ha, ap (λ (n : ℕ). n * b.x) ha, ap (λ (n : ℕ). n * c.x) hb)

-- a corner between the ends of a level edge, at its height, lies on it
pub on_level : (a b c : Corner) → a.y ≡ c.y → b.y ≡ c.y → between a.x b.x c.x ≡ true → on_edge (edge a b) c ≡ true
on_level a b c ha hb h =
    and_from _ _ (eq-eqb (lefts a b c) (rights a b c) (level_line a b c ha hb))
    (and_from _ _ h (between_up a.y b.y c.y (omega arith) (omega arith)))

-- at the height of the upper end of a rising edge: what is right of its line is east of that end, and what is left of it west
module _ (a b c : Corner) (level : c.y ≡ b.y) (rise : a.y ≤ b.y) where
  pub east_of_top : lefts a b c < rights a b c → b.x < c.x
  east_of_top h =
      product_sign c.x b.x a.y b.y rise (omega (arith, ap (λ (n : ℕ). b.x * n) level, ap (λ (n : ℕ). n * a.x) level))

  pub west_of_top : rights a b c < lefts a b c → c.x < b.x
  west_of_top h =
      product_sign b.x c.x a.y b.y rise (omega (arith, ap (λ (n : ℕ). b.x * n) level, ap (λ (n : ℕ). n * a.x) level))

-- the same at the height of the lower end
module _ (a b c : Corner) (level : c.y ≡ a.y) (rise : a.y ≤ b.y) where
  pub east_of_foot : lefts a b c < rights a b c → a.x < c.x
  east_of_foot h =
      product_sign c.x a.x a.y b.y rise (omega (arith, ap (λ (n : ℕ). b.x * n) level, ap (λ (n : ℕ). n * a.x) level))

  pub west_of_foot : rights a b c < lefts a b c → c.x < a.x
  west_of_foot h =
      product_sign a.x c.x a.y b.y rise (omega (arith, ap (λ (n : ℕ). b.x * n) level, ap (λ (n : ℕ). n * a.x) level))
