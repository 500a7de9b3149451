use Rattle.std.proofs.Common.{arith}
use Rattle.plane.proofs.Spans.{spread_alike, spread_apart}
use Rattle.plane.proofs.area.Area.spanned.Goals as goal

pub returns-then-a-b : goal.returns-then-a-b
returns-then-a-b c =
    omega (
      arith,
      c.product-size.ensures,
      spread_alike c.args.a c.args.b c.args.c c.args.d c.abs_diff.result c.abs_diff-2.result c.abs_diff.ensures c.abs_diff-2.ensures c.if-a-b.true,
    )

pub returns-else-a-b : goal.returns-else-a-b
returns-else-a-b c =
    omega (
      arith,
      c.product-size.ensures,
      spread_apart c.args.a c.args.b c.args.c c.args.d c.abs_diff.result c.abs_diff-2.result c.abs_diff.ensures c.abs_diff-2.ensures c.if-a-b.false,
    )
