-- Marks as a row of numbers, two for each corner.
use Rattle.std.specs.Prelude.{ℕ, ◌%◌, cond, List, [], ◌∷◌, length, Ok, Err, Result, ◌==◌}
use Rattle.entries.specs.declared.fault.Fault.{Fault}
use Rattle.entries.specs.declared.fault.Fault.TheVariants.{NotANumber, Brackets, OddCount}
use Rattle.entries.specs.declared.mark.Mark.{Mark}
use Rattle.entries.specs.declared.mark.Mark.TheVariants.{Number, Polygon, Comma, Colon, Open, Close}
use Rattle.entries.specs.Words.{then}

-- all numbers in their order; commas are passed over
unfoldable pub numbers : List Mark → Result (List ℕ) Fault
numbers [] = Ok []
numbers (Number n ∷ ms) = then (numbers ms) (λ ns. Ok (n ∷ ns))
numbers (Comma ∷ ms) = numbers ms
numbers (Open ∷ ms) = Err Brackets
numbers (Close ∷ ms) = Err Brackets
numbers (Colon ∷ ms) = Err NotANumber
numbers (Polygon ∷ ms) = Err NotANumber

abbrev pub plain_row : List Mark → Result (List ℕ) Fault
plain_row ms = then (numbers ms) (λ row. cond (length row % 2 == 0) (Ok row) (Err OddCount))
