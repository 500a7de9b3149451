use Rattle.std.proofs.Common.{◌≡◌}
use Rattle.ground.specs.Rows.{shape_of}
use Rattle.ground.specs.Boxes.{box_of}
use Rattle.ground.specs.Walks.{corners_left}
use Rattle.ground.proofs.Boxes.{boxed}
use Rattle.ground.proofs.bounding.Extent.of_corners.Given as goal

-- the box so far, grown over the corners that are left, is the box of them all
abbrev pub invariant-loop-corner : goal.invariant-loop-corner
invariant-loop-corner l = boxed l.extent (corners_left l.corner-iterator) ≡ box_of (shape_of l.row)
