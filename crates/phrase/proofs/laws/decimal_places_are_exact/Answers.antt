use Rattle.phrase.proofs.Division.{places_are_exact}
use Rattle.phrase.proofs.laws.decimal_places_are_exact.Goals as goal

pub returns : goal.returns
returns c = places_are_exact
