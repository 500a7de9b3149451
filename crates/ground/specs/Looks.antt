-- A point that looks at a row's edges. Assumes nothing: these are definitions.
use Rattle.std.specs.Prelude.{ℕ, ◌%◌, Bool, true, not, ◌&&◌, List, length, ◌==◌, nat_lt}
use Rattle.plane.specs.Lists.{every}
use Rattle.plane.specs.Sights.{view_fits}
use Rattle.plane.specs.declared.sight.Sight.{Sight}
use Rattle.plane.specs.declared.sight.Sight.TheVariants.{Border, Crossed, Missed}
use Rattle.ground.specs.Shapes.{Point, Shape, on_border, crossings}
use Rattle.ground.specs.declared.looking.Look.{Look}

-- the point a / w, b / w
abbrev pub point : ℕ → ℕ → ℕ → Point
point a b w = record { px = a; py = b; w = w }

-- no number of the row is left over or out of range, and the point is in range
abbrev pub look_fits : List ℕ → ℕ → ℕ → ℕ → Bool
look_fits row a b w = (length row % 2 == 0 && every (λ n. nat_lt n 1048576) row) && view_fits a b w

-- what there is to be seen of a shape
abbrev pub look_of : Shape → Point → Look
look_of s p = record { border = on_border s p; odd = (crossings s p % 2 == 1) }

-- with one more edge looked at
abbrev pub noted : Look → Sight → Look
noted l Border = record { border = true; odd = l.odd }
noted l Crossed = record { border = l.border; odd = not l.odd }
noted l Missed = l
