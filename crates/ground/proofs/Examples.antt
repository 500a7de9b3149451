-- The worked examples, by computation.
use Rattle.std.proofs.Common.{refl}
use Rattle.plane.specs.Lists.{every, any, those, added_up}
use Rattle.ground.specs.Shapes.{edges, edges_from, clear_of, last_edge, all_but_last, path_clear, ring_clear}
use Rattle.ground.specs.Ways.{SticksOut, Shares, Overlaps}
use Rattle.ground.specs.Examples.{WorkedAreas, WorkedGrounds, WorkedPoint, WorkedWays, WorkedExamples}

worked_areas : WorkedAreas
unfolding WorkedAreas added_up edges edges_from
worked_areas = (refl, refl, refl)

worked_grounds : WorkedGrounds
unfolding WorkedGrounds added_up every edges edges_from clear_of last_edge all_but_last path_clear ring_clear
worked_grounds = (refl, refl, refl, refl, refl, refl, refl, refl)

worked_point : WorkedPoint
unfolding WorkedPoint any those edges edges_from
worked_point = (refl, refl, refl, refl, refl)

-- 1, 1 is in the first and not in the second; 3, 3 is inside both; 6, 3 is of the first and of the third
worked_ways : WorkedWays
unfolding WorkedWays SticksOut Shares Overlaps any those edges edges_from
worked_ways = (
  (record { px = 1; py = 1; w = 1 }, refl, refl, refl),
  (record { px = 3; py = 3; w = 1 }, refl, refl, refl),
  (record { px = 6; py = 3; w = 1 }, refl, refl, refl),
  (record { px = 1; py = 1; w = 1 }, refl, refl, refl),
)

-- the whole table
pub worked_examples : WorkedExamples
unfolding WorkedExamples
worked_examples = (worked_areas, worked_grounds, worked_point, worked_ways)
