use Rattle.std.proofs.Common.{arith}
use Rattle.phrase.proofs.Euclid.{common_some}
use Rattle.phrase.proofs.number.in_lowest_terms.Goals as goal

pub nonzero_div-least : goal.nonzero_div-least
nonzero_div-least c = rw c.greatest_common-shared.ensures (common_some _ _ (omega arith))

pub nonzero_div-result : goal.nonzero_div-result
nonzero_div-result c = rw c.greatest_common-shared.ensures (common_some _ _ (omega arith))
