use Rattle.std.proofs.Common.{arith}
use Rattle.phrase.proofs.Euclid.{common_some, common_below, lowest_some}
use Rattle.phrase.proofs.ratio.RatioDisplay.fmt.Goals as goal

pub overflow_cast-shared : goal.overflow_cast-shared
overflow_cast-shared g c = omega (arith, c.greatest_common-shared.ensures, common_below c.args.self.now.over c.args.self.now.under (omega arith))

pub nonzero_div-over : goal.nonzero_div-over
nonzero_div-over g c = rw c.greatest_common-shared.ensures (common_some c.args.self.now.over c.args.self.now.under (omega arith))

pub nonzero_div-under : goal.nonzero_div-under
nonzero_div-under g c = rw c.greatest_common-shared.ensures (common_some c.args.self.now.over c.args.self.now.under (omega arith))

pub write_lowest-requires : goal.write_lowest-requires
write_lowest-requires g c = rw c.greatest_common-shared.ensures (lowest_some c.args.self.now.over c.args.self.now.under (omega arith))
