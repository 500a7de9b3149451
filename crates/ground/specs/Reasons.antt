-- Why a row is no ground, in words. Assumes nothing: this is a definition.
use Rattle.std.specs.Prelude.{ℕ, List, ◌++◌, codes, decimal}
use Rattle.ground.specs.declared.refusal.NoGround.{NoGround}
use Rattle.ground.specs.declared.refusal.NoGround.TheVariants.{Odd, TooFew, TooMany, OutOfRange, EdgesMeet, Clockwise}

abbrev pub reason_words : NoGround → List ℕ
reason_words Odd = codes "a number is left over"
reason_words TooFew = codes "fewer than 3 corners"
reason_words TooMany = codes "more than 256 corners"
reason_words (OutOfRange corner) = codes "corner " ++ (decimal corner ++ codes " is out of range (numbers below 1048576)")
reason_words (EdgesMeet first second) = codes "edges " ++ (decimal first ++ (codes " and " ++ (decimal second ++ codes " meet")))
reason_words Clockwise = codes "gone round to the right, or without area"
