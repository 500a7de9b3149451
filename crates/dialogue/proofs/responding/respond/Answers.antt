use Rattle.dialogue.proofs.Texts.{no_text, text_of}
use Rattle.dialogue.proofs.responding.respond.Goals as goal

pub returns-in_err-ended : goal.returns-in_err-ended
returns-in_err-ended c = no_text _ _ _ _ _ _ _ c.in-Some.ensures _ _ _ c.ask.ensures c.from_residual.ensures.0

pub returns-in_err-answer : goal.returns-in_err-answer
returns-in_err-answer c = no_text _ _ _ _ _ _ _ c.in-Some.ensures _ _ _ c.ask.ensures c.from_residual-in_err-answer.ensures.0

pub returns : goal.returns
returns c =
    text_of _ _ _ _ _ _ _ c.in-Some.ensures _ _ _ c.in_ok-ended.ended c.in_ok-answer.answer c.new-shown.ensures.items c.ask.ensures c.in_ok-ended.ensures c.in_ok-answer.ensures c.write_answer.ensures
