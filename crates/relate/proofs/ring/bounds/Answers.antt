use Rattle.std.proofs.Common.{rules, ◌≡◌, length}
use Rattle.relate.proofs.Ranges.{empty_fits, bounds_fit, bounds_far}
use Rattle.relate.proofs.ring.bounds.Goals as goal

pub returns-then-is_empty : goal.returns-then-is_empty
returns-then-is_empty c = let none : length c.args.row.now ≡ 0 = search rules in empty_fits c.args.row.now none

pub returns-then-extent-lt-CORNER_LIMIT-2 : goal.returns-then-extent-lt-CORNER_LIMIT-2
returns-then-extent-lt-CORNER_LIMIT-2 c =
    bounds_fit c.args.row.now c.in_ok-extent.extent c.in_ok-extent.ensures c.if-extent-lt-CORNER_LIMIT.true c.if-extent-lt-CORNER_LIMIT-2.true

pub returns-else-extent-lt-CORNER_LIMIT : goal.returns-else-extent-lt-CORNER_LIMIT
returns-else-extent-lt-CORNER_LIMIT c =
    bounds_far c.args.row.now c.in_ok-extent.extent c.in_ok-extent.ensures c.else-extent-lt-CORNER_LIMIT.either
