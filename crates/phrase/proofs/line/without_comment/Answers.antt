use Rattle.std.proofs.Common.{◌∙◌}
use Rattle.phrase.proofs.Comment.{plain_to, plain_all}
use Rattle.phrase.proofs.line.without_comment.Goals as goal

pub returns-in-Some : goal.returns-in-Some
returns-in-Some c = plain_to c.args.line.now c.in-Some.n c.in-Some.ensures

pub returns-in-None : goal.returns-in-None
returns-in-None c = c.without_last.ensures ∙ plain_all c.args.line.now c.in-None.ensures
