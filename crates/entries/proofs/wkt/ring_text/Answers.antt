use Rattle.entries.proofs.Coordinates.{ring_more, ring_ends}
use Rattle.entries.proofs.wkt.ring_text.Goals as goal

pub loop-i-preserved : goal.loop-i-preserved
loop-i-preserved c =
    ring_more c.args.ring.now c.loop-i.i _ _ _ _ c.loop-i-test.true c.in_ok-write.ensures.bytes (c.gap-gap.ensures _) c.loop-i.invariant

pub returns : goal.returns
returns c = ring_ends c.args.ring.now c.loop-i.i _ _ c.loop-i-test.false c.loop-i.invariant
