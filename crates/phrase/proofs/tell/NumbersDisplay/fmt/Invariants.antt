use Rattle.std.proofs.Common.{◌∷◌, get_or, take}
use Rattle.std.specs.Fmt.{HasWritten, IsPlainFormatter}
use Rattle.phrase.specs.Answers.{numbers_or_none}
use Rattle.phrase.proofs.tell.NumbersDisplay.fmt.Given as goal

abbrev pub invariant-loop-number : goal.invariant-loop-number
invariant-loop-number g l =
    IsPlainFormatter l.fn.f → HasWritten g.W.Write.write_str_gives l.fn.f (numbers_or_none (get_or l.self.0.now 0 0 ∷ take l.number-index l.rest)) l.f
