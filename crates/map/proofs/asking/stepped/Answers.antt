use Rattle.std.proofs.Common.{rules}
use Rattle.map.proofs.Steps.{step_of, takes_row, takes_done, takes_refused, refusal_told}
use Rattle.map.proofs.asking.stepped.Goals as goal

pub unreachable-requires : goal.unreachable-requires
unreachable-requires c =
    let w = refusal_told _ _ _ _ _ _ (step_of _ _ _ _ _ _ _ _ _ _ _ c.requires c.numbers-kind.ensures.0 (search rules) (search rules) (search rules) c.numbers-kind.ensures.1 c.in-No.ensures) in
    c.in_default.ensures.1 w.0 w.1

pub returns-in-Shows : goal.returns-in-Shows
returns-in-Shows c =
    takes_row _ _ _ _ _ _ (step_of _ _ _ _ _ _ _ _ _ _ _ c.requires c.numbers-kind.ensures.0 (search rules) (search rules) (search rules) c.numbers-kind.ensures.1 c.in-Shows.ensures)

pub returns-in-Done : goal.returns-in-Done
returns-in-Done c =
    takes_done _ _ _ _ _ (step_of _ _ _ _ _ _ _ _ _ _ _ c.requires c.numbers-kind.ensures.0 (search rules) (search rules) (search rules) c.numbers-kind.ensures.1 c.in-Done.ensures)

pub returns-in-Ok : goal.returns-in-Ok
returns-in-Ok c =
    takes_refused _ _ _ c.in-Ok.why _ _ _ (step_of _ _ _ _ _ _ _ _ _ _ _ c.requires c.numbers-kind.ensures.0 (search rules) (search rules) (search rules) c.numbers-kind.ensures.1 c.in-No.ensures) c.in-Ok.ensures
