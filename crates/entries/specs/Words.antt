-- What a word of a line is: digits, or `polygon`.
use Rattle.std.specs.Prelude.{ℕ, ◌+◌, ◌-◌, ◌*◌, ◌^◌, Bool, cond, List, [], ◌∷◌, map, Ok, Err, codes, Result, nat_lt}
use Rattle.std.specs.Char.{is_ascii_digit, to_ascii_lowercase}
use Rattle.std.specs.Str.{bytes_eq}
use Rattle.entries.specs.declared.fault.Fault.{Fault}
use Rattle.entries.specs.declared.fault.Fault.TheVariants.{TooLarge, NotANumber}
use Rattle.entries.specs.declared.mark.Mark.{Mark}
use Rattle.entries.specs.declared.mark.Mark.TheVariants.{Number, Polygon}

-- what follows from a value, if there is one
abbrev pub then : {A B : Type 0} → Result A Fault → (A → Result B Fault) → Result B Fault
then (Ok x) f = f x
then (Err e) f = Err e

-- digits that go on after those of n: each makes it ten times as much and the digit; it stays within 64 bits
unfoldable pub digits : ℕ → List ℕ → Result ℕ Fault
digits n [] = Ok n
digits n (d ∷ ds) = cond (is_ascii_digit d) (cond (nat_lt (n * 10 + (d - 48)) (2 ^ 64)) (digits (n * 10 + (d - 48)) ds) (Err TooLarge)) (Err NotANumber)

-- in capitals or not
abbrev pub is_polygon : List ℕ → Bool
is_polygon w = bytes_eq (map to_ascii_lowercase w) (codes "polygon")

abbrev pub word : List ℕ → Result Mark Fault
word w = cond (is_polygon w) (Ok Polygon) (then (digits 0 w) (λ n. Ok (Number n)))
