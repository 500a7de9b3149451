use Rattle.std.proofs.Common.{◌+◌, [], length, vec_items, sym, ap, ◌∙◌, arith}
use Rattle.std.proofs.lemmas.List.{take_rest, length-drop}
use Rattle.std.proofs.lemmas.List.Quantifiers.{position-Some}
use Rattle.entries.specs.Marks.{separates, marks}
use Rattle.entries.proofs.Cuts.{word_ends, word_fails, last_ends, last_fails}
use Rattle.entries.proofs.Sofar.{prefixed, handed_on}
use Rattle.entries.proofs.cutting.cut_marks.Goals as goal

pub overflow_add-rest : goal.overflow_add-rest
overflow_add-rest c =
    let at = position-Some separates c.loop-n.rest.now c.in-Some.n 0 (sym c.in-Some.ensures) in
    omega (arith, at.0, c.loop-n.invariant.within)

pub returns-in_err-close : goal.returns-in_err-close
returns-in_err-close c =
    handed_on _ _ (marks [] c.args.text.now) vec_items c.from_residual.ensures.1
    (word_fails c.loop-n.rest.now c.in-Some.n _ _ c.in-Some.ensures c.loop-n.invariant.left _ _ vec_items c.in_err-close.ensures)

pub loop-n-preserved : goal.loop-n-preserved
loop-n-preserved c =
    let behind = take_rest c.loop-n.rest.now (c.in-Some.n + 1) in
    record {
      within = omega (arith, ap length behind, length-drop (c.in-Some.n + 1) c.loop-n.rest.now, c.loop-n.invariant.within);
      left =
          ap (λ r. prefixed (vec_items c.add_sign.new.marks) (marks [] r)) behind
          ∙ word_ends c.loop-n.rest.now c.in-Some.n _ _ c.in-Some.ensures c.loop-n.invariant.left _ _ c.in_ok-close.ensures c.in_ok-add_sign.ensures;
    }

pub returns-in_err-close-2 : goal.returns-in_err-close-2
returns-in_err-close-2 c =
    handed_on _ _ (marks [] c.args.text.now) vec_items c.from_residual-in_err-close-2.ensures.1
    (last_fails c.loop-n.rest.now _ _ c.in_default.ensures c.loop-n.invariant.left _ _ vec_items c.in_err-close-2.ensures)

pub returns : goal.returns
returns c = last_ends c.loop-n.rest.now _ _ c.in_default.ensures c.loop-n.invariant.left _ c.in_ok-close-2.ensures
