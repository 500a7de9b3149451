-- A window over the map: its squares, and the middle of each. Assumes nothing: these are definitions.
use Rattle.std.specs.Prelude.{ℕ, ◌+◌, ◌-◌, ◌*◌, ◌^◌, Bool, ◌&&◌, Some, None, Option, nat_lt}
use Rattle.plane.specs.Lists.{pick}
use Rattle.raster.specs.declared.window.Window.{Window}
use Rattle.terms.specs.declared.point.Point.{Point}

-- the western side of column i, which is the eastern one of column i - 1
abbrev pub side_across : Window → ℕ → ℕ
side_across v i = v.x + v.step * i

-- the northern side of row j, which is the southern one of row j - 1: rows are counted from the north
abbrev pub side_up : Window → ℕ → ℕ
side_up v j = v.y + v.step * (v.rows - j)

-- halfway between opposite sides: half their sum
abbrev pub middle_of : Window → ℕ → ℕ → Point
middle_of v i j = record { a = side_across v i + side_across v (i + 1); b = side_up v j + side_up v (j + 1); w = 2 }

abbrev pub has_square : Window → ℕ → ℕ → Bool
has_square v i j = nat_lt i v.columns && nat_lt j v.rows

-- the machine can be asked for it
abbrev pub near : Point → Bool
near p = nat_lt p.a (2 ^ 40) && nat_lt p.b (2 ^ 40)

abbrev pub middle : Window → ℕ → ℕ → Option Point
middle v i j = pick (has_square v i j && near (middle_of v i j)) (Some (middle_of v i j)) None
