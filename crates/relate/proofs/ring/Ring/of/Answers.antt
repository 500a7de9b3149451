use Rattle.std.proofs.Common.{◌≡◌, sym, ap, ◌∙◌}
use Rattle.plane.specs.Lists.{every}
use Rattle.ground.specs.Rows.{shape_of, near_corner}
use Rattle.relate.specs.Fitting.{bounds_of}
use Rattle.relate.specs.Rings.{as_corners}
use Rattle.relate.proofs.Ranges.{fits_near}
use Rattle.relate.proofs.Rings.{row_chunked}
use Rattle.relate.proofs.ring.Ring.of.Goals as goal

pub invariant_of-result : goal.invariant_of-result
invariant_of-result c =
    let row = c.args.row.now in
    let same : as_corners c.as_chunks.result.0.now ≡ shape_of row = ap as_corners c.as_chunks.ensures.front ∙ row_chunked row in
    record {
      near = ap (every near_corner) same ∙ fits_near row c.in_ok-bounds.ensures.0;
      bounded = c.in_ok-bounds.ensures.1 ∙ sym (ap bounds_of same);
    }

pub returns : goal.returns
returns c = (c.in_ok-bounds.ensures.0, ap as_corners c.as_chunks.ensures.front ∙ row_chunked c.args.row.now)
