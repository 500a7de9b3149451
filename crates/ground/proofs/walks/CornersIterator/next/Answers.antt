use Rattle.std.proofs.Common.{◌≤◌, ◌<◌, length, ap, rules}
use Rattle.ground.proofs.Rows.{shape_more, shape_none}
use Rattle.ground.proofs.walks.CornersIterator.next.Goals as goal

pub returns-in_default-clause-steps : goal.returns-in_default-clause-steps
returns-in_default-clause-steps c =
    let row = c.args.self.now.rest.now in
    let few : length row < 2 = search rules in
    (shape_none row few, shape_none row few)

pub returns-clause-steps : goal.returns-clause-steps
returns-clause-steps c =
    let row = c.args.self.now.rest.now in
    let h : 2 ≤ length row = search rules in
    shape_more row h

pub returns-clause-goes : goal.returns-clause-goes
returns-clause-goes c =
    let row = c.args.self.now.rest.now in
    let h : 2 ≤ length row = search rules in
    let shorter = ap length (shape_more row h) in search rules
