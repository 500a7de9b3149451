use Rattle.map.proofs.Lasting.{put_stays}
use Rattle.map.proofs.promises.put_ground_stays.Goals as goal

pub returns : goal.returns
returns c = put_stays
