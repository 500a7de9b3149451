use Rattle.std.proofs.Common.{◌∷◌, length, take, drop, ◌-◌, sym, ap, ◌∙◌, rules}
use Rattle.plane.specs.Code.{at}
use Rattle.plane.specs.Edges.{edge}
use Rattle.ground.specs.Rows.{near_corner}
use Rattle.relate.specs.Rings.{as_corners, edges_on}
use Rattle.relate.proofs.Ranges.{near_between}
use Rattle.relate.proofs.Rings.{front_near, on_front, on_none}
use Rattle.relate.proofs.ring.NearEdgesIterator.next.Goals as goal

pub returns-in_default-clause-steps : goal.returns-in_default-clause-steps
returns-in_default-clause-steps c =
    let old = c.args.self.now in
    let none = on_none (at old.one) old.rest.now c.in_default.len_below in
    (none, none)

pub invariant_of-self : goal.invariant_of-self
invariant_of-self c =
    let old = c.args.self.now in
    let near = front_near old.rest.now c.in-len1-up.len_at_least old.rest_near in
    record { one_near = ap near_corner c.corner_of-other.ensures ∙ near.0; rest_near = near.1 }

pub invariant_of-result : goal.invariant_of-result
invariant_of-result c =
    let old = c.args.self.now in
    record {
      near =
          near_between (at old.one) (at c.corner_of-other.result) old.one_near
          (ap near_corner c.corner_of-other.ensures ∙ (front_near old.rest.now c.in-len1-up.len_at_least old.rest_near).0);
    }

pub returns-clause-steps : goal.returns-clause-steps
returns-clause-steps c =
    let old = c.args.self.now in
    on_front (at old.one) old.rest.now c.in-len1-up.len_at_least
    ∙ ap (λ a. edge (at old.one) a ∷ edges_on a (as_corners (take (length old.rest.now - 1) (drop 1 old.rest.now)))) (sym c.corner_of-other.ensures)

pub returns-clause-goes : goal.returns-clause-goes
returns-clause-goes c =
    let old = c.args.self.now in
    let shorter =
    ap length
    (on_front (at old.one) old.rest.now c.in-len1-up.len_at_least
    ∙ ap (λ a. edge (at old.one) a ∷ edges_on a (as_corners (take (length old.rest.now - 1) (drop 1 old.rest.now)))) (sym c.corner_of-other.ensures)) in
    search rules
