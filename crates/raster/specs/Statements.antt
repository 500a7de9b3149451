-- What is so of all windows.
use Rattle.std.specs.Prelude.{◌≡◌, ℕ, ◌^◌, ◌<◌, Some, Ok}
use Rattle.ground.specs.declared.bounding.Extent.{Extent}
use Rattle.raster.specs.declared.window.Window.{Window}
use Rattle.raster.specs.Windows.{middle, middle_of}
use Rattle.raster.specs.Fitting.{Fitted}
use Rattle.raster.specs.Drawable.{checked}

-- the machine can be asked for the middle of each square of a window that is drawn
abbrev pub EverySquareIsAsked : Type 0
EverySquareIsAsked = (v : Window) → checked v ≡ Ok v → (i j : ℕ) → i < v.columns → j < v.rows → middle v i j ≡ Some (middle_of v i j)

-- the window that is fitted to a box of grounds can be drawn
abbrev pub FittedIsDrawn : Type 0
FittedIsDrawn = (e : Extent) (v : Window) → e.west < 2 ^ 20 → e.south < 2 ^ 20 → e.east < 2 ^ 20 → e.north < 2 ^ 20 → Fitted e v → checked v ≡ Ok v
