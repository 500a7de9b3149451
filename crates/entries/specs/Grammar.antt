-- Which entry a line is.
use Rattle.std.specs.Prelude.{ℕ, Bool, true, false, cond, List, [], ◌∷◌, Some, None, Ok, Err, vec_items, Option, Result}
use Rattle.phrase.specs.Words.{plain}
use Rattle.entries.specs.declared.entry.Ground.{Ground}
use Rattle.entries.specs.declared.fault.Fault.{Fault}
use Rattle.entries.specs.declared.fault.Fault.TheVariants.{NoNumber}
use Rattle.entries.specs.declared.mark.Mark.{Mark}
use Rattle.entries.specs.declared.mark.Mark.TheVariants.{Number, Polygon, Comma, Colon, Open, Close}
use Rattle.entries.specs.Marks.{marks}
use Rattle.entries.specs.Rings.{ring_row}
use Rattle.entries.specs.Rows.{plain_row}
use Rattle.entries.specs.Words.{then}

-- an entry as it is meant
pub data Said : Type 0 where
  nothing : Said
  ground : ℕ → List ℕ → Said

abbrev pub entry_said : Option Ground → Said
entry_said None = nothing
entry_said (Some g) = ground g.number (vec_items g.row)

abbrev pub is_colon : Mark → Bool
is_colon (Number n) = false
is_colon Polygon = false
is_colon Comma = false
is_colon Colon = true
is_colon Open = false
is_colon Close = false

abbrev pub is_polygon : Mark → Bool
is_polygon (Number n) = false
is_polygon Polygon = true
is_polygon Comma = false
is_polygon Colon = false
is_polygon Open = false
is_polygon Close = false

-- the marks behind a colon, if there is one
abbrev pub after_colon : List Mark → List Mark
after_colon [] = []
after_colon (m ∷ ms) = cond (is_colon m) ms (m ∷ ms)

-- the corners, as a polygon or else as a row
abbrev pub row_of : List Mark → Result (List ℕ) Fault
row_of [] = plain_row []
row_of (m ∷ ms) = cond (is_polygon m) (ring_row ms) (plain_row (m ∷ ms))

-- a number, and the corners of its ground
abbrev pub entry_of : List Mark → Result Said Fault
entry_of [] = Ok nothing
entry_of (Number n ∷ ms) = then (row_of (after_colon ms)) (λ row. Ok (ground n row))
entry_of (Polygon ∷ ms) = Err NoNumber
entry_of (Comma ∷ ms) = Err NoNumber
entry_of (Colon ∷ ms) = Err NoNumber
entry_of (Open ∷ ms) = Err NoNumber
entry_of (Close ∷ ms) = Err NoNumber

-- what a line says
abbrev pub meaning : List ℕ → Result Said Fault
meaning line = then (marks [] (plain line)) entry_of
