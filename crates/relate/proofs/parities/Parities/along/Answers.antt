use Rattle.std.proofs.Common.{◌+◌, ◌∷◌, drop, sym, ap, ◌∙◌}
use Rattle.std.proofs.lemmas.List.{drop_all}
use Rattle.plane.specs.Code.{at, along}
use Rattle.plane.specs.Lists.{each}
use Rattle.ground.specs.Rows.{near_corner}
use Rattle.relate.specs.Going.{shape_in}
use Rattle.relate.specs.Rings.{as_corners}
use Rattle.relate.specs.Siding.{both_parities}
use Rattle.relate.proofs.Rings.{each_near, corners_more}
use Rattle.relate.proofs.AtSamples.{parities_in, parities_begin, parities_go_on, parities_skip, parities_end}
use Rattle.relate.proofs.parities.Parities.along.Goals as goal
use Rattle.relate.proofs.parities.Parities.along.Goals.{then-goes_on, else-goes_on}

pub loop-pair-init : goal.loop-pair-init
loop-pair-init c =
    parities_begin (shape_in c.args.ring.now) (along c.args.near.edge) c.parity_after.result c.of-seen.result c.requires c.parity_after.ensures c.of-seen.ensures

pub later-requires : goal.later-requires
later-requires c =
    let ring = c.args.ring.now in
    (ap near_corner c.corner_of-u.ensures ∙ each_near ring.corners.now c.loop-pair.pair-index c.loop-pair-test.true ring.near, sym c.if-goes_on.ensures)

pub loop-pair-preserved : goal.loop-pair-preserved
loop-pair-preserved c =
    let ps = c.args.ring.now.corners.now in
    let i = c.loop-pair.pair-index in
    let t = shape_in c.args.ring.now in
    let e = along c.args.near.edge in
    let p = c.loop-pair.seen in
    let u = at c.corner_of-u.result in
    let us = as_corners (drop (i + 1) ps) in
    let more = ap (λ v. both_parities p (parities_in t e (v ∷ us))) c.corner_of-u.ensures ∙ sym (corners_more (λ vs. both_parities p (parities_in t e vs)) ps i c.loop-pair-test.true) in
    elim c.if-goes_on.branch [
      | then-goes_on w ↦ parities_go_on t e p c.if-goes_on.seen u us (w.seen-is ∙ w.bitor-seen.ensures ∙ ap (both_parities p) w.later.ensures) ∙ more ∙ c.loop-pair.invariant
      | else-goes_on w ↦ ap (λ q. both_parities q (parities_in t e us)) w.seen-is ∙ parities_skip t e p u us (sym w.if-goes_on.ensures) ∙ more ∙ c.loop-pair.invariant
    ]

pub returns : goal.returns
unfolding each
returns c =
    let ps = c.args.ring.now.corners.now in
    let t = shape_in c.args.ring.now in
    let e = along c.args.near.edge in
    let p = c.loop-pair.seen in
    parities_end t e p ∙ ap (λ qs. both_parities p (parities_in t e (as_corners qs))) (sym (drop_all c.loop-pair.pair-index ps c.loop-pair-test.false))
    ∙ c.loop-pair.invariant
