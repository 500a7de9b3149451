-- What is wrong, in words.
use Rattle.std.specs.Prelude.{ℕ, List, codes}
use Rattle.entries.specs.declared.fault.Fault.{Fault}
use Rattle.entries.specs.declared.fault.Fault.TheVariants.{NoNumber, TooLarge, NotANumber, Brackets, OddCount, NotAPolygon, NotClosed}

-- why a line is no entry
abbrev pub fault_words : Fault → List ℕ
fault_words NoNumber = codes "no number of a ground at its beginning"
fault_words TooLarge = codes "a number of 2^64 or more"
fault_words NotANumber = codes "a word where a number should stand"
fault_words Brackets = codes "more than one ring, or stray brackets"
fault_words OddCount = codes "a number is left over"
fault_words NotAPolygon = codes "no polygon of corners with commas between them, in two pairs of brackets"
fault_words NotClosed = codes "the last corner of the ring is not the first again"
