use Rattle.phrase.proofs.Greatest.{common_is_greatest}
use Rattle.phrase.proofs.laws.common_divisor_is_greatest.Goals as goal

pub returns : goal.returns
returns c = common_is_greatest
