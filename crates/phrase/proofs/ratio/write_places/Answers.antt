use Rattle.std.proofs.Common.{◌-◌, ◌*◌, ◌/◌, ◌++◌, decimal, sym, ap, ◌∙◌, mod-lt, arith, rules}
use Rattle.std.proofs.Output.{has_written_append, has_written_of_eq}
use Rattle.phrase.specs.Ratios.{places}
use Rattle.phrase.proofs.Division.{place_more, places_end, places_done}
use Rattle.phrase.proofs.ratio.write_places.Goals as goal

pub loop-i-preserved : goal.loop-i-preserved
loop-i-preserved g c = (
  mod-lt _ (omega arith),
  λ p.
      let so_far = c.loop-i.invariant.1 p in (
        so_far.0 ++ decimal (c.loop-i.left * 10 / c.args.under),
        has_written_append _ _ _ _ _ _ so_far.1 (search rules),
        place_more c.loop-i._i c.loop-i.left c.args.under so_far.0 c.loop-i-test.true c.loop-i.invariant.0 c.if-left-eq0.false ∙ so_far.2,
      ),
)

pub returns-after-loop-i : goal.returns-after-loop-i
returns-after-loop-i g c = λ p e.
    let so_far = c.loop-i.invariant.1 p in
    has_written_of_eq _ _ _ _ _
    (sym (places_end c.loop-i.left c.args.under so_far.0) ∙ ap (λ k. so_far.0 ++ places k c.loop-i.left c.args.under) (omega arith) ∙ so_far.2)
    so_far.1

pub returns-then-left-eq0 : goal.returns-then-left-eq0
returns-then-left-eq0 g c = λ p e.
    let so_far = c.loop-i.invariant.1 p in
    has_written_of_eq _ _ _ _ _
    (sym (places_done (64 - c.loop-i._i) c.args.under so_far.0) ∙ ap (λ r. so_far.0 ++ places (64 - c.loop-i._i) r c.args.under) (sym c.if-left-eq0.true) ∙ so_far.2)
    so_far.1
