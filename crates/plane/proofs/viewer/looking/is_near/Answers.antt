use Rattle.plane.proofs.Booleans.{and_assoc}
use Rattle.plane.proofs.Bounds.{or_tells}
use Rattle.plane.proofs.viewer.looking.is_near.Goals as goal

pub returns : goal.returns
returns c = simp (or_tells 20, and_assoc)
