use Rattle.std.proofs.Common.{◌≡◌, drop}
use Rattle.phrase.specs.Digits.{digits_after}
use Rattle.phrase.proofs.number.digits_after.Given as goal

abbrev pub invariant-loop-d : goal.invariant-loop-d
invariant-loop-d l = digits_after l.n (drop l.d-index l.digits) ≡ digits_after l.start l.digits
