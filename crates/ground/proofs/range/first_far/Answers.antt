use Rattle.std.proofs.Common.{◌≡◌, true, false, length, inl, ap, arith, rules}
use Rattle.std.proofs.lemmas.Iterator.{IsFirst-from_position}
use Rattle.std.proofs.lemmas.Iterator.Consumers.{YieldsList-from_first}
use Rattle.plane.specs.Code.{at}
use Rattle.plane.specs.Corners.{corner}
use Rattle.plane.specs.Lists.{every}
use Rattle.ground.specs.Rows.{near_corner, shape_of}
use Rattle.ground.specs.Walks.{corners_left}
use Rattle.ground.proofs.Closing.{shape_many}
use Rattle.ground.proofs.Fronts.{FailsAt, fails_first}
use Rattle.ground.proofs.Grounds.{every_more, every_none, first_far}
use Rattle.ground.proofs.range.first_far.Goals as goal

pub position-requires-clause-fits : goal.position-requires-clause-fits
position-requires-clause-fits c = inl (omega (arith, ap length c.of.ensures, shape_many c.args.row.now, c.well_formed.0.0))

pub returns-in_err-before : goal.returns-in_err-before
returns-in_err-before c =
    let s = shape_of c.args.row.now in
    let told = fails_first near_corner (every near_corner) every_none every_more (corner 0 0) s c.position.result
    (IsFirst-from_position c.position.new.self _ c.position.result (λ y. near_corner y ≡ false) (λ y. near_corner y ≡ true) c.position.ensures.ran
    (YieldsList-from_first at corners_left s c.of.ensures) (λ x q k. search rules) (λ x q k. search rules)) in
    rw c.from_residual.ensures (rw c.in_err-before.was at told)

pub overflow_add-result : goal.overflow_add-result
overflow_add-result c = omega (arith, c.in_ok-before.ensures.bound, ap length c.of.ensures, shape_many c.args.row.now, c.well_formed.0.0)

pub returns : goal.returns
returns c =
    let s = shape_of c.args.row.now in
    let told = fails_first near_corner (every near_corner) every_none every_more (corner 0 0) s c.position.result
    (IsFirst-from_position c.position.new.self _ c.position.result (λ y. near_corner y ≡ false) (λ y. near_corner y ≡ true) c.position.ensures.ran
    (YieldsList-from_first at corners_left s c.of.ensures) (λ x q k. search rules) (λ x q k. search rules)) in
    let found : FailsAt near_corner (every near_corner) (corner 0 0) s c.in_ok-before.before = rw c.in_ok-before.was at told in
    (found.tells, first_far s c.in_ok-before.before found)
