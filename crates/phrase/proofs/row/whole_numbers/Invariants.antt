use Rattle.std.proofs.Common.{◌≡◌, ◌++◌, drop, Some, vec_items}
use Rattle.phrase.specs.Rows.{wholes}
use Rattle.phrase.specs.Numbers.{bind}
use Rattle.phrase.proofs.row.whole_numbers.Given as goal

abbrev pub invariant-loop-word : goal.invariant-loop-word
invariant-loop-word l = bind (wholes (drop l.word-index l.words)) (λ ns. Some (vec_items l.row ++ ns)) ≡ wholes l.words
