-- Corners, and how three of them turn. Assumes nothing: these are definitions.
use Rattle.std.specs.Prelude.{ℕ, ◌+◌, ◌*◌, Bool, ◌&&◌, ◌==◌, nat_le, nat_lt}
use Rattle.plane.specs.Lists.{pick}

-- a corner: whole numbers, eastward and northward. Those of a ground are below 2^20
pub record Corner : Type 0 where
  pub x : ℕ
  pub y : ℕ

abbrev pub corner : ℕ → ℕ → Corner
corner a b = record { x = a; y = b }

abbrev pub same_corner : Corner → Corner → Bool
same_corner a b = a.x == b.x && a.y == b.y

-- everything made w times as large
abbrev pub grown : ℕ → Corner → Corner
grown w c = corner (w * c.x) (w * c.y)

-- TURNING: from a over b to c it goes to the left, to the right, or straight on. The determinant of the three is the difference of these two sums
abbrev pub lefts : Corner → Corner → Corner → ℕ
lefts a b c = a.x * b.y + b.x * c.y + c.x * a.y

abbrev pub rights : Corner → Corner → Corner → ℕ
rights a b c = a.y * b.x + b.y * c.x + c.y * a.x

abbrev pub left_turn : Corner → Corner → Corner → Bool
left_turn a b c = nat_lt (rights a b c) (lefts a b c)

abbrev pub right_turn : Corner → Corner → Corner → Bool
right_turn a b c = nat_lt (lefts a b c) (rights a b c)

abbrev pub in_line : Corner → Corner → Corner → Bool
in_line a b c = lefts a b c == rights a b c

abbrev pub smaller : ℕ → ℕ → ℕ
smaller a b = pick (nat_lt a b) a b

abbrev pub larger : ℕ → ℕ → ℕ
larger a b = pick (nat_lt a b) b a

-- c is none of the numbers outside a and b, whichever of these is the smaller
abbrev pub between : ℕ → ℕ → ℕ → Bool
between a b c = nat_le (smaller a b) c && nat_le c (larger a b)
