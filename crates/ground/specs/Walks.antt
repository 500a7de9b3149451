-- What walks along a row have left. Assumes nothing: these are definitions.
use Rattle.std.specs.Prelude.{List, Option, Some, None}
use Rattle.plane.specs.Code.{at}
use Rattle.plane.specs.Corners.{Corner}
use Rattle.plane.specs.Edges.{Edge}
use Rattle.plane.specs.declared.corner.Corner as coded_corner
use Rattle.ground.specs.Shapes.{Shape, edges_from}
use Rattle.ground.specs.Rows.{shape_of}
use Rattle.ground.specs.Paths.{path}
use Rattle.ground.specs.declared.walks.Corners.{Corners}
use Rattle.ground.specs.declared.walks.Edges.{Edges}

abbrev pub corners_left : Corners → Shape
corners_left w = shape_of w.rest.now

-- the edges from a corner over others, and back to the first corner if that is still to come
abbrev pub ring_from : Option coded_corner.Corner → Corner → Shape → List Edge
ring_from None a cs = path a cs
ring_from (Some f) a cs = edges_from (at f) a cs

abbrev pub edges_left : Edges → List Edge
edges_left w = ring_from w.first (at w.one) (corners_left w.rest)
