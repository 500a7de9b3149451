-- Which windows can be drawn, and what is said of the others. Assumes nothing: these are definitions.
use Rattle.std.specs.Prelude.{ℕ, List, codes, ◌-◌, Ok, Err, Result, ◌==◌, nat_lt}
use Rattle.plane.specs.Lists.{pick, or}
use Rattle.raster.specs.declared.flaw.Flaw.{Flaw}
use Rattle.raster.specs.declared.flaw.Flaw.TheVariants.{NoStep, NoSquares, TooManySquares, TooFar}
use Rattle.raster.specs.declared.window.Window.{Window}
use Rattle.raster.specs.Windows.{middle_of, near}

-- the window itself, or its first flaw; no square lies farther out than the one in the north-east
abbrev pub checked : Window → Result Window Flaw
checked v =
    pick (v.step == 0) (Err NoStep)
    (pick (or (v.columns == 0) (v.rows == 0)) (Err NoSquares)
    (pick (or (nat_lt 256 v.columns) (nat_lt 256 v.rows)) (Err TooManySquares)
    (pick (near (middle_of v (v.columns - 1) 0)) (Ok v) (Err TooFar))))

-- a flaw in words
abbrev pub flaw_words : Flaw → List ℕ
flaw_words NoStep = codes "the step is 0: a square is 1 ell wide at least"
flaw_words NoSquares = codes "a picture has 1 column and 1 row at least"
flaw_words TooManySquares = codes "a picture has 256 columns and 256 rows at most"
flaw_words TooFar = codes "the window reaches too far out: its squares lie below 2^39 ells"
