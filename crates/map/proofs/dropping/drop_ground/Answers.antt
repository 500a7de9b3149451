use Rattle.std.proofs.Common.{rules}
use Rattle.map.proofs.Removals.{found_some}
use Rattle.map.proofs.dropping.drop_ground.Goals as goal

pub overflow_sub-grounds : goal.overflow_sub-grounds
overflow_sub-grounds c = search (rules, found_some)
