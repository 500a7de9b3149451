-- The ring of a polygon: corners with commas between them, in two pairs of brackets, the last corner the first again.
use Rattle.std.specs.Prelude.{ℕ, ◌+◌, ◌-◌, ◌%◌, Bool, true, false, cond, not, ◌&&◌, List, [], ◌∷◌, length, take, Ok, Err, Result, ◌==◌, nat_le, slice_index, slice_index_or}
use Rattle.std.specs.List.{between}
use Rattle.entries.specs.declared.fault.Fault.{Fault}
use Rattle.entries.specs.declared.fault.Fault.TheVariants.{NotAPolygon, NotClosed}
use Rattle.entries.specs.declared.mark.Mark.{Mark}
use Rattle.entries.specs.declared.mark.Mark.TheVariants.{Number, Polygon, Comma, Colon, Open, Close}
use Rattle.entries.specs.Rows.{numbers}
use Rattle.entries.specs.Words.{then}

abbrev pub is_open : Mark → Bool
is_open (Number n) = false
is_open Polygon = false
is_open Comma = false
is_open Colon = false
is_open Open = true
is_open Close = false

abbrev pub is_close : Mark → Bool
is_close (Number n) = false
is_close Polygon = false
is_close Comma = false
is_close Colon = false
is_close Open = false
is_close Close = true

abbrev pub is_comma : Mark → Bool
is_comma (Number n) = false
is_comma Polygon = false
is_comma Comma = true
is_comma Colon = false
is_comma Open = false
is_comma Close = false

abbrev pub brackets : (first second next_to_last last : Mark) → Bool
brackets a b c d = (is_open a && is_open b) && (is_close c && is_close d)

-- two brackets open, and two close
abbrev pub bracketed : List Mark → Bool
bracketed ms = nat_le 4 (length ms) && brackets (slice_index_or ms 0 (Number 0)) (slice_index_or ms 1 (Number 0)) (slice_index_or ms (length ms - 2) (Number 0)) (slice_index_or ms (length ms - 1) (Number 0))

-- behind two numbers stands a comma, and nowhere else; k marks stand behind the last comma
abbrev pub in_place : ℕ → Mark → Bool
in_place k m = cond (k == 2) (is_comma m) (not (is_comma m))

-- and the last corner has two numbers
unfoldable pub evenly : ℕ → List Mark → Bool
evenly k [] = k == 2
evenly k (m ∷ ms) = in_place k m && evenly ((k + 1) % 3) ms

-- two corners or more, the last of them the first again
abbrev pub closes : List ℕ → Bool
closes row =
    nat_le 4 (length row) && (slice_index row 0 == slice_index row (length row - 2) && slice_index row 1 == slice_index row (length row - 1))

-- the last corner is left out
abbrev pub opened : List ℕ → Result (List ℕ) Fault
opened row = cond (closes row) (Ok (take (length row - 2) row)) (Err NotClosed)

-- the corners that stand between the brackets
abbrev pub inner_row : List Mark → Result (List ℕ) Fault
inner_row ms = then (numbers ms) (λ row. cond (evenly 0 ms) (opened row) (Err NotAPolygon))

abbrev pub ring_row : List Mark → Result (List ℕ) Fault
ring_row ms = cond (bracketed ms) (inner_row (between 2 (length ms - 2) ms)) (Err NotAPolygon)
