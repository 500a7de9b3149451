-- What is wrong with a word that is no number. Assumes nothing: this is a definition.
use Rattle.phrase.specs.declared.number.BadDigits.{BadDigits}
use Rattle.phrase.specs.declared.number.BadDigits.TheVariants as bad
use Rattle.entries.specs.declared.fault.Fault.{Fault}
use Rattle.entries.specs.declared.fault.Fault.TheVariants.{TooLarge, NotANumber}

abbrev pub digits_fault : BadDigits → Fault
digits_fault bad.NotADigit = NotANumber
digits_fault bad.TooLarge = TooLarge
