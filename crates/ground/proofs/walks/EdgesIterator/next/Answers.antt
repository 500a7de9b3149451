use Rattle.std.proofs.Common.{length, ap, sym, ◌∙◌, rules}
use Rattle.plane.specs.Code.{at}
use Rattle.ground.proofs.Around.{ring_more, ring_back, ring_ends}
use Rattle.ground.proofs.walks.EdgesIterator.next.Goals as goal

pub returns-in-Some-clause-steps : goal.returns-in-Some-clause-steps
returns-in-Some-clause-steps c = ring_more c.args.self.now.first (at c.args.self.now.one) _ _ _ c.in-Some.ensures.steps

pub returns-in-Some-clause-goes : goal.returns-in-Some-clause-goes
returns-in-Some-clause-goes c =
    let shorter = ap length (ring_more c.args.self.now.first (at c.args.self.now.one) _ _ _ c.in-Some.ensures.steps) in search rules

pub returns-in_err-other-clause-steps : goal.returns-in_err-other-clause-steps
returns-in_err-other-clause-steps c =
    let at_end = c.in_default.ensures.steps in
    rw c.from_residual.ensures
    (ring_ends c.args.self.now.first _ _ (sym c.take.ensures.value ∙ c.in_err-other.was) at_end.0, ring_ends c.take.new.self _ _ c.take.ensures.after at_end.1)

pub returns-clause-steps : goal.returns-clause-steps
returns-clause-steps c =
    let at_end = c.in_default.ensures.steps in
    ring_back c.args.self.now.first c.take.new.self _ (at c.args.self.now.one) _ _ (sym c.take.ensures.value ∙ c.in_ok-other.was) c.take.ensures.after at_end.0 at_end.1

pub returns-clause-goes : goal.returns-clause-goes
returns-clause-goes c =
    let at_end = c.in_default.ensures.steps in
    let shorter = ap length
    (ring_back c.args.self.now.first c.take.new.self _ (at c.args.self.now.one) _ _ (sym c.take.ensures.value ∙ c.in_ok-other.was) c.take.ensures.after at_end.0 at_end.1) in
    search rules
