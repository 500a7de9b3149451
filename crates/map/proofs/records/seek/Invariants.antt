use Rattle.std.proofs.Common.{◌≡◌, get_or}
use Rattle.map.specs.Sizes.{head_length, at_grounds}
use Rattle.map.specs.Memory.{seek}
use Rattle.map.proofs.records.seek.Given as goal

-- what is left gives the answer
abbrev pub invariant-loop-left : goal.invariant-loop-left
invariant-loop-left l = seek l.memory (get_or l.memory at_grounds 0) head_length l.number ≡ seek l.memory l._left l.place l.number
