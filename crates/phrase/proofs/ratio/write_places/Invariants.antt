use Rattle.std.proofs.Common.{◌≡◌, ◌-◌, ◌<◌, List, ◌++◌, ℕ}
use Rattle.std.specs.Fmt.{HasWritten, IsPlainFormatter}
use Rattle.phrase.specs.Ratios.{places}
use Rattle.phrase.proofs.ratio.write_places.Given as goal

abbrev pub invariant-loop-i : goal.invariant-loop-i
invariant-loop-i g l =
    (l.left < l.under)
    × (IsPlainFormatter l.fn.f → (bs : List ℕ) × HasWritten g.W.Write.write_str_gives l.fn.f bs l.f × (bs ++ places (64 - l._i) l.left l.under ≡ places 64 l.rest l.under))
