use Rattle.map.proofs.Refusing.{refused_nothing}
use Rattle.map.proofs.promises.refused_leaves_no_trace.Goals as goal

pub returns : goal.returns
returns c = refused_nothing
