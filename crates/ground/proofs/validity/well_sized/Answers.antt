use Rattle.std.proofs.Common.{sym, arith}
use Rattle.ground.proofs.Closing.{shape_many}
use Rattle.ground.proofs.Grounds.{refuses_odd, refuses_few, refuses_many, sized}
use Rattle.ground.proofs.validity.well_sized.Goals as goal

pub returns-then-row-ne0 : goal.returns-then-row-ne0
returns-then-row-ne0 c = refuses_odd c.args.row.now (omega arith)

pub returns-then-count-lt-FEWEST_CORNERS : goal.returns-then-count-lt-FEWEST_CORNERS
returns-then-count-lt-FEWEST_CORNERS c = refuses_few c.args.row.now c.if-row-ne0.false c.if-count-lt-FEWEST_CORNERS.true

pub returns-then-count-gt-MOST_CORNERS : goal.returns-then-count-gt-MOST_CORNERS
returns-then-count-gt-MOST_CORNERS c = refuses_many c.args.row.now c.if-row-ne0.false c.if-count-gt-MOST_CORNERS.true

pub returns : goal.returns
returns c =
    (sized c.args.row.now c.if-row-ne0.false c.if-count-lt-FEWEST_CORNERS.false c.if-count-gt-MOST_CORNERS.false, sym (shape_many c.args.row.now))
