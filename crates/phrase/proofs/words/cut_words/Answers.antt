use Rattle.std.proofs.Common.{[], length, vec_items, ap, ◌∙◌, arith, rules, tests}
use Rattle.std.proofs.lemmas.List.{length_push}
use Rattle.std.proofs.lemmas.Iterator.Consumers.{YieldsList-turn, YieldsList-end}
use Rattle.std.proofs.lemmas.Iterator.Splits.{YieldsList-from_slice_split}
use Rattle.std.specs.List.{slice_split}
use Rattle.phrase.specs.Words.{separates, cut, all_words}
use Rattle.phrase.proofs.Cutting.{closes, cut_is_split, part_ends, part_fails, parts_end}
use Rattle.phrase.proofs.Sofar.{prefixed, none_before, handed_on}
use Rattle.phrase.proofs.words.cut_words.Goals as goal

pub loop-part-init : goal.loop-part-init
loop-part-init c =
    let parts = slice_split separates c.args.text.now in
    ap (λ xs. prefixed xs (all_words (closes parts))) c.new-words.ensures.items ∙ none_before _ ∙ ap all_words (cut_is_split c.args.text.now)

pub returns-in_err-close : goal.returns-in_err-close
returns-in_err-close c =
    let next = YieldsList-turn (YieldsList-from_slice_split _ separates c.args.text.now (cc) (cc) (cc) (λ x b q k. search (rules, tests))) c.loop-part.yielded _ c.loop-part.yielded_by _ _ c.in-Some.part c.in-Some.is c.next.ensures.steps in
    handed_on _ _ (all_words (cut [] c.args.text.now)) vec_items c.from_residual.ensures.1
    (part_fails (slice_split separates c.args.text.now) (length c.loop-part.yielded) _ _ c.in-Some.part.now next c.loop-part.invariant _ _ vec_items c.in_err-close.ensures)

pub loop-part-preserved : goal.loop-part-preserved
loop-part-preserved c =
    let next = YieldsList-turn (YieldsList-from_slice_split _ separates c.args.text.now (cc) (cc) (cc) (λ x b q k. search (rules, tests))) c.loop-part.yielded _ c.loop-part.yielded_by _ _ c.in-Some.part c.in-Some.is c.next.ensures.steps in
    rw (length_push c.loop-part.yielded c.in-Some.part)
    (part_ends (slice_split separates c.args.text.now) (length c.loop-part.yielded) _ _ c.in-Some.part.now next c.loop-part.invariant _ c.in_ok-close.ensures)

pub returns : goal.returns
returns c =
    let end = YieldsList-end (YieldsList-from_slice_split _ separates c.args.text.now (cc) (cc) (cc) (λ x b q k. search (rules, tests))) c.loop-part.yielded _ c.loop-part.yielded_by _ _ c.in-None.is c.next.ensures.steps in
    parts_end (slice_split separates c.args.text.now) (length c.loop-part.yielded) _ _ (omega (arith, end.1)) c.loop-part.invariant
