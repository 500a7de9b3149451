-- The worked pairs of grounds, by computation.
use Rattle.std.proofs.Common.{refl}
use Rattle.plane.specs.Lists.{every, any, added_up}
use Rattle.plane.specs.Parity.{xors}
use Rattle.ground.specs.Shapes.{edges, edges_from, clear_of, last_edge, all_but_last, path_clear, ring_clear}
use Rattle.ground.specs.Statements.{crossing}
use Rattle.relate.specs.Samples.{seen, meeting, way_of}
use Rattle.relate.specs.Examples.{WorkedPairs, WorkedVanes, WorkedWaysOf}

worked_pairs : WorkedPairs
unfolding WorkedPairs way_of seen meeting crossing any xors edges edges_from
worked_pairs = (refl, refl, refl, refl, refl, refl, refl)

worked_vanes : WorkedVanes
unfolding WorkedVanes way_of seen meeting crossing any every xors added_up edges edges_from clear_of last_edge all_but_last path_clear ring_clear
worked_vanes = (refl, refl, refl, refl)

-- the whole table
pub worked_ways_of : WorkedWaysOf
unfolding WorkedWaysOf
worked_ways_of = (worked_pairs, worked_vanes)
