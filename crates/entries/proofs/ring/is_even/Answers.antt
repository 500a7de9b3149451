use Rattle.std.proofs.Common.{◌∙◌, rules}
use Rattle.std.proofs.lemmas.Iterator.Search.{all_from_yields_List}
use Rattle.std.proofs.lemmas.Iterator.Splits.{YieldsList-from_slice_split}
use borrow.Author.Tests.{tests}
use Rattle.entries.specs.Rings.{is_comma}
use Rattle.entries.proofs.Spacing.{two, even_parts}
use Rattle.entries.proofs.ring.is_even.Goals as goal

pub returns : goal.returns
returns c =
    all_from_yields_List two _ _ _ c.all.ensures.ran
    (YieldsList-from_slice_split _ is_comma c.args.marks.now c.split.ensures.rest c.split.ensures.done c.split.ensures.closure (λ x b q k. search (rules, tests)))
    (λ x b q k. search (rules, tests))
    ∙ even_parts c.args.marks.now
