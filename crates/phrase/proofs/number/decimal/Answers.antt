use Rattle.std.proofs.Common.{◌^◌, sym, ap, ◌∙◌, arith}
use Rattle.phrase.specs.Numbers.{lowest}
use Rattle.phrase.proofs.Lowest.{few_places, zero_lowest, long_decimal}
use Rattle.phrase.proofs.number.decimal.Goals as goal

pub pow-requires : goal.pow-requires
pow-requires c = few_places _ (omega arith)

pub returns-then-digits-eq0 : goal.returns-then-digits-eq0
returns-then-digits-eq0 c = sym (ap (λ n. lowest n (10 ^ c.args.places)) c.if-digits-eq0.true ∙ zero_lowest c.args.places)

pub returns : goal.returns
returns c = sym (long_decimal c.args.digits c.args.places (omega arith) (omega arith) (omega arith))
