use Rattle.map.specs.Machine.{own}
use Rattle.map.proofs.owner.Machine.new.Goals as goal

pub returns : goal.returns
unfolding own
returns c = c.in_ok-memory.ensures.items_if_clones_equal (λ y e. e)
