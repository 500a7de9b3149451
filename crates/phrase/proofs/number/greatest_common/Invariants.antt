use Rattle.std.proofs.Common.{◌≡◌}
use Rattle.phrase.specs.Numbers.{common}
use Rattle.phrase.proofs.number.greatest_common.Given as goal

abbrev pub invariant-loop-small : goal.invariant-loop-small
invariant-loop-small l = common l.large l.small ≡ common l.a l.b

abbrev pub decreases-loop-small : goal.decreases-loop-small
decreases-loop-small l = l.small
