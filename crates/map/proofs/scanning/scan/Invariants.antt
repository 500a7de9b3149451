use Rattle.std.proofs.Common.{◌≡◌}
use Rattle.map.specs.Code.{point_of}
use Rattle.map.specs.Memory.{scan}
use Rattle.map.proofs.scanning.scan.Given as goal

-- what is left gives the answer
abbrev pub invariant-loop-left : goal.invariant-loop-left
invariant-loop-left l = scan l.memory (point_of l.aim.point) l.fn.left l.fn.place ≡ scan l.memory (point_of l.aim.point) l.left l.place
