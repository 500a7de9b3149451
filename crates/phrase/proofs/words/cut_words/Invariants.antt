use Rattle.std.proofs.Common.{◌≡◌, [], length, drop, vec_items}
use Rattle.std.specs.List.{slice_split}
use Rattle.phrase.specs.Words.{separates, cut, all_words}
use Rattle.phrase.proofs.Cutting.{closes}
use Rattle.phrase.proofs.Sofar.{prefixed}
use Rattle.phrase.proofs.words.cut_words.Given as goal

abbrev pub invariant-loop-part : goal.invariant-loop-part
invariant-loop-part l =
    prefixed (vec_items l.words) (all_words (closes (drop (length l.yielded) (slice_split separates l.text)))) ≡ all_words (cut [] l.text)
