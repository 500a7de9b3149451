use Rattle.map.proofs.Lasting.{shown_rising}
use Rattle.map.proofs.promises.shown_numbers_rise.Goals as goal

pub returns : goal.returns
returns c = shown_rising
