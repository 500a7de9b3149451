use Rattle.std.proofs.Common.{rules}
use Rattle.std.proofs.Output.{has_written_append, has_written_of_eq}
use Rattle.phrase.specs.Writing.{row_text}
use Rattle.phrase.proofs.Coordinates.{row_more}
use Rattle.phrase.proofs.say.write_row.Goals as goal

pub loop-i-init : goal.loop-i-init
unfolding row_text
loop-i-init g c = search rules

pub loop-i-preserved : goal.loop-i-preserved
loop-i-preserved g c = λ p.
    has_written_of_eq _ _ _ _ _ (row_more c.args.row.now c.loop-i.i c.loop-i-test.true)
    (has_written_append _ _ _ _ _ _ (c.loop-i.invariant p) (search rules))
