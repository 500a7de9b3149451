use Rattle.std.proofs.Common.{◌≡◌, drop, vec_items}
use Rattle.phrase.proofs.Sofar.{prefixed}
use Rattle.dialogue.specs.Replies.{neighbours}
use Rattle.dialogue.proofs.Pairing.{paired}
use Rattle.dialogue.proofs.neighbours.read_neighbours.Given as goal

-- the pairs that are left, behind those that were read, tell the same
abbrev pub invariant-loop-other : goal.invariant-loop-other
invariant-loop-other l = prefixed (vec_items l.rows) (paired (drop l.other-index l.pairs)) ≡ neighbours l.shown
