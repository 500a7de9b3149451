use Rattle.std.proofs.Common.{◌≡◌, drop, vec_items}
use Rattle.entries.specs.Rows.{numbers}
use Rattle.entries.proofs.Sofar.{prefixed}
use Rattle.entries.proofs.row.read_numbers.Given as goal

abbrev pub invariant-loop-mark : goal.invariant-loop-mark
invariant-loop-mark l = prefixed (vec_items l.row) (numbers (drop l.mark-index l.marks)) ≡ numbers l.marks
