use Rattle.std.proofs.Common.{◌≡◌, true, false, leb, length, Some, sym, ap, ◌∙◌, refl, arith}
use Rattle.std.proofs.lemmas.Bool.{le-leb, lt-leb}
use Rattle.plane.specs.Code.{at}
use Rattle.ground.specs.Boxes.{box_of}
use Rattle.ground.specs.Walks.{corners_left}
use Rattle.ground.proofs.Boxes.{boxed, box_boxed}
use Rattle.ground.proofs.Closing.{shape_many}
use Rattle.ground.proofs.bounding.Extent.of_corners.Goals as goal

pub returns-in_err-x : goal.returns-in_err-x
returns-in_err-x c =
    let row = c.args.row.now in
    let none = ap length (sym c.of-corners.ensures ∙ c.in_err-x.ensures.steps.0) in
    let few : leb 2 (length row) ≡ false = lt-leb 2 (length row) (omega (arith, none, shape_many row)) in
    rw (c.from_residual.ensures, few) refl

pub loop-corner-init : goal.loop-corner-init
loop-corner-init c =
    let a = at c.in_ok-x.field-0 in
    ap (λ w. boxed (record { west = a.x; south = a.y; east = a.x; north = a.y }) (corners_left w)) c.into_iter-corner-iterator.ensures.into_iter_gives
    ∙ sym (box_boxed a (corners_left c.next.new.self)) ∙ ap box_of (sym c.in_ok-x.ensures.steps ∙ c.of-corners.ensures)

pub returns : goal.returns
returns c =
    let row = c.args.row.now in
    let some = ap length (sym c.of-corners.ensures ∙ c.in_ok-x.ensures.steps) in
    let many : leb 2 (length row) ≡ true = le-leb 2 (length row) (omega (arith, some, shape_many row)) in
    rw many (ap Some (sym (ap (boxed c.loop-corner.extent) c.in-None.ensures.steps.0) ∙ c.loop-corner.invariant))
