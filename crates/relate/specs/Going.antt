-- What the code's rings and walks along them stand for. Assumes nothing: these are definitions.
use Rattle.std.specs.Prelude.{List}
use Rattle.plane.specs.Code.{at, along}
use Rattle.plane.specs.Edges.{Edge}
use Rattle.ground.specs.Shapes.{Shape}
use Rattle.relate.specs.Rings.{as_corners, edges_on}
use Rattle.relate.specs.declared.ring.Ring.{Ring}
use Rattle.relate.specs.declared.ring.NearEdge.{NearEdge}
use Rattle.relate.specs.declared.ring.NearEdges.{NearEdges}

abbrev pub shape_in : Ring → Shape
shape_in r = as_corners r.corners.now

abbrev pub edge_of : NearEdge → Edge
edge_of n = along n.edge

-- the edges that are left to go along
abbrev pub edges_left : NearEdges → List Edge
edges_left w = edges_on (at w.one) (as_corners w.rest.now)
