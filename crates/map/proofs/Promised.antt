-- The machine's promise over any list of commands: what is told is what is so.
use Rattle.std.proofs.Common.{[], refl}
use Rattle.map.specs.House.{core}
use Rattle.map.specs.Promise.{Whole}
use Rattle.map.specs.Sizes.{memory_length}
use Rattle.map.specs.Machine.{own}
use Rattle.map.proofs.Holding.{start_holds}
use Rattle.map.proofs.Answering.{right}
use Rattle.map.proofs.Steadiness.{own_steady}

pub core_whole : Whole core own
unfolding Whole own
core_whole = (own_steady, λ cs _ small. right cs own.start [] (start_holds memory_length refl) small)
