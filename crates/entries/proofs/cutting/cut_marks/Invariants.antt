use Rattle.std.proofs.Common.{◌≡◌, ◌≤◌, [], length, vec_items}
use Rattle.entries.specs.Marks.{marks}
use Rattle.entries.proofs.Sofar.{prefixed}
use Rattle.entries.proofs.cutting.cut_marks.Given as goal

abbrev pub invariant-loop-n : goal.invariant-loop-n
invariant-loop-n l = record { within : length l.rest ≤ length l.text; left : prefixed (vec_items l.marks) (marks [] l.rest) ≡ marks [] l.text }

abbrev pub decreases-loop-n : goal.decreases-loop-n
decreases-loop-n l = length l.rest
