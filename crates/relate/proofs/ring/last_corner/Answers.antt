use Rattle.std.proofs.Common.{sym, ◌∙◌}
use Rattle.plane.specs.Corners.{corner}
use Rattle.relate.proofs.Rings.{last_pair, last_none}
use Rattle.relate.proofs.ring.last_corner.Goals as goal

pub returns-in-empty : goal.returns-in-empty
returns-in-empty c = last_none (corner 0 0) c.args.corners.now c.in-empty.len_below

pub returns-in-len1-up : goal.returns-in-len1-up
returns-in-len1-up c = c.corner_of.ensures ∙ sym (last_pair (corner 0 0) c.args.corners.now c.in-len1-up.len_at_least)
