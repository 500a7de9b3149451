-- What can be said to the map, and what it is to answer. Assumes nothing: these are definitions.
use Rattle.std.specs.Prelude.{◌≡◌, ℕ, ◌+◌, ◌≤◌, Bool, true, false, not, ◌&&◌, ◌⊎◌, List, [], ◌∷◌, length, ◌==◌, nat_eq, nat_le, nat_lt}
use Rattle.plane.specs.Lists.{pick, every, any, those, each}
use Rattle.ground.specs.Shapes.{Shape, a_shape, in_shape, twice_area}
use Rattle.ground.specs.Ways.{Lies}

-- a ground, under its number
pub record Kept : Type 0 where
  pub id : ℕ
  pub shape : Shape

abbrev pub Map : Type 0
Map = List Kept

pub data Command : Type 0 where
  put : ℕ → Shape → Command
  drop_it : ℕ → Command
  at_point : ℕ → ℕ → ℕ → Command  -- x / w, y / w: which shapes have it
  how_lies : ℕ → ℕ → Command  -- two of them
  all_that : ℕ → Command  -- all that aren't apart from one, and how they lie to it
  area_of : ℕ → Command  -- twice the area

abbrev pub there : Map → ℕ → Bool
there m i = any (λ k. nat_eq k.id i) m

unfoldable pub shape_at : Map → ℕ → Shape
shape_at [] i = []
shape_at (k ∷ ks) i = pick (k.id == i) k.shape (shape_at ks i)

-- by rising numbers
unfoldable pub put_kept : Kept → Map → Map
put_kept k [] = k ∷ []
put_kept k (l ∷ ls) = pick (nat_lt k.id l.id) (k ∷ l ∷ ls) (l ∷ put_kept k ls)

unfoldable pub corners_in : Map → ℕ
corners_in [] = 0
corners_in (k ∷ ks) = length k.shape + corners_in ks

-- 3 it isn't there; 4 it is already; 5 it's no shape; 7 there would be more than 1,024, or more than 32,768 corners in all
unfoldable pub refusal : Map → Command → ℕ
refusal m (put i s) = pick (there m i) 4 (pick (a_shape s) (pick (nat_lt (length m) 1024 && nat_le (corners_in m + length s) 32768) 0 7) 5)
refusal m (drop_it i) = pick (there m i) 0 3
refusal m (at_point a b w) = 0
refusal m (how_lies i j) = pick (there m i && there m j) 0 3
refusal m (all_that i) = pick (there m i) 0 3
refusal m (area_of i) = pick (there m i) 0 3

unfoldable pub after : Map → Command → Map
after m (put i s) = put_kept (record { id = i; shape = s }) m
after m (drop_it i) = those (λ k. not (k.id == i)) m
after m (at_point a b w) = m
after m (how_lies i j) = m
after m (all_that i) = m
after m (area_of i) = m

-- how all others lie that aren't apart from one, by rising numbers: number and way, in a row each
unfoldable pub AllLie : Shape → Map → List (List ℕ) → Type 0
AllLie s [] ss = ss ≡ []
AllLie s (k ∷ ks) ss =
    (Lies s k.shape 0 × AllLie s ks ss)
    ⊎ ((j : ℕ) × (1 ≤ j) × Lies s k.shape j × (rest : List (List ℕ)) × (ss ≡ (k.id ∷ j ∷ []) ∷ rest) × AllLie s ks rest)

-- what is shown for a command that isn't refused
unfoldable pub Shown : Map → Command → List (List ℕ) → Type 0
Shown m (put i s) ss = ss ≡ []
Shown m (drop_it i) ss = ss ≡ []
Shown m (at_point a b w) ss = ss ≡ each (λ k. k.id ∷ []) (those (λ k. in_shape k.shape (record { px = a; py = b; w = w })) m)
Shown m (how_lies i j) ss = (k : ℕ) × Lies (shape_at m i) (shape_at m j) k × (ss ≡ (k ∷ []) ∷ [])
Shown m (all_that i) ss = AllLie (shape_at m i) (those (λ k. not (k.id == i)) m) ss
Shown m (area_of i) ss = ss ≡ (twice_area (shape_at m i) ∷ []) ∷ []

-- numbers below 2^64; of points w is below 2^20, and the other two are below 2^40
unfoldable pub small_command : Command → Bool
small_command (put i s) = nat_lt i 18446744073709551616 && (nat_le (length s) 256 && every (λ c. nat_lt c.x 18446744073709551616 && nat_lt c.y 18446744073709551616) s)
small_command (drop_it i) = nat_lt i 18446744073709551616
small_command (at_point a b w) = (nat_le 1 w && nat_lt w 1048576) && (nat_lt a 1099511627776 && nat_lt b 1099511627776)
small_command (how_lies i j) = nat_lt i 18446744073709551616 && nat_lt j 18446744073709551616
small_command (all_that i) = nat_lt i 18446744073709551616
small_command (area_of i) = nat_lt i 18446744073709551616

-- THE SMALL CORE: shapes come and go, and points are looked for
unfoldable pub core : Command → Bool
core (put i s) = true
core (drop_it i) = true
core (at_point a b w) = true
core (how_lies i j) = false
core (all_that i) = false
core (area_of i) = false

abbrev pub everything : Command → Bool
everything c = true
