-- The window that shows a box best. Assumes nothing: these are definitions.
use Rattle.std.specs.Prelude.{◌≡◌, ◌<◌, ◌≤◌, true, false}
use Rattle.ground.specs.Boxes.{holds}
use Rattle.ground.specs.declared.bounding.Extent.{Extent}
use Rattle.raster.specs.declared.window.Window.{Window}
use Rattle.raster.specs.Windows.{side_across, side_up}

-- the box of all squares of a window
abbrev pub box_shown : Window → Extent
box_shown v = record { west = v.x; south = v.y; east = side_across v v.columns; north = side_up v 0 }

-- the window holds the box from its corner on; none of smaller squares does, nor one with fewer columns or rows of such squares
pub record Fitted (e : Extent) (v : Window) : Type 0 where
  pub corner : (v.x ≡ e.west) × (v.y ≡ e.south)
  pub within : holds (box_shown v) e ≡ true
  pub some : (1 ≤ v.step) × (1 ≤ v.columns) × (1 ≤ v.rows)
  pub few : (v.columns ≤ 78) × (v.rows ≤ 36)
  pub finest : (u : Window) → 1 ≤ u.step → u.step < v.step → u.columns ≤ 78 → u.rows ≤ 36 → holds (box_shown u) e ≡ false
  pub narrowest : (u : Window) → u.step ≡ v.step → 1 ≤ u.columns → u.columns < v.columns → holds (box_shown u) e ≡ false
  pub lowest : (u : Window) → u.step ≡ v.step → 1 ≤ u.rows → u.rows < v.rows → holds (box_shown u) e ≡ false
