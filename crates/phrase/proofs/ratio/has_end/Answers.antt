use Rattle.std.proofs.Common.{mod-lt}
use Rattle.phrase.proofs.Division.{ten_more}
use Rattle.phrase.proofs.ratio.has_end.Goals as goal

pub loop-i-preserved : goal.loop-i-preserved
loop-i-preserved c = (mod-lt _ c.requires, ten_more c.loop-i._i c.args.under _ c.loop-i.invariant.1)
