use Rattle.std.proofs.Common.{◌≡◌, ◌%◌, ◌<◌, length, sym, ap, ◌∙◌, rules}
use Rattle.phrase.proofs.Sofar.{prefixed, none_before}
use Rattle.dialogue.proofs.Pairing.{paired, left_over, all_pairs}
use Rattle.dialogue.proofs.neighbours.read_neighbours.Goals as goal

pub returns-in_default : goal.returns-in_default
returns-in_default c =
    let some : 0 < length c.args.shown.now % 2 = search rules in
    sym (left_over c.args.shown.now some)

pub loop-other-init : goal.loop-other-init
loop-other-init c =
    let even : length c.args.shown.now % 2 ≡ 0 = search rules in
    ap (λ rows. prefixed rows (paired c.as_chunks.result.0.now)) c.new-rows.ensures.items
    ∙ (none_before (paired c.as_chunks.result.0.now) ∙ (ap paired c.as_chunks.ensures.front ∙ all_pairs c.args.shown.now even))
