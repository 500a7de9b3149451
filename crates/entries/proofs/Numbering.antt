-- Reading a row of numbers, mark by mark.
use Rattle.std.proofs.Common.{◌≡◌, ℕ, ◌+◌, ◌<◌, ◌≤◌, List, [], ◌∷◌, ◌++◌, length, get_or, drop, Ok, Err, sym, refl, ap, ◌∙◌}
use Rattle.std.proofs.lemmas.List.{drop_more, drop_all}
use Rattle.entries.specs.declared.fault.Fault.TheVariants.{NotANumber, Brackets}
use Rattle.entries.specs.declared.mark.Mark.{Mark}
use Rattle.entries.specs.declared.mark.Mark.TheVariants.{Number, Polygon, Comma, Colon, Open, Close}
use Rattle.entries.specs.Rows.{numbers}
use Rattle.entries.proofs.Sofar.{prefixed, one_before, nothing_more}

numbers_none : numbers [] ≡ Ok []
unfolding numbers
numbers_none = refl

module _ (ms : List Mark) (i : ℕ) (d : Mark) (xs : List ℕ) (within : i < length ms) where
  -- the mark at i is m
  at_mark : (m : Mark) → get_or ms i d ≡ m → prefixed xs (numbers (drop i ms)) ≡ prefixed xs (numbers (m ∷ drop (i + 1) ms))
  at_mark m e = ap (prefixed xs) (ap numbers (drop_more ms i d within) ∙ ap (λ k. numbers (k ∷ drop (i + 1) ms)) e)

  -- a number joins the row
  pub number_more : (n : ℕ) → get_or ms i d ≡ Number n → prefixed (xs ++ (n ∷ [])) (numbers (drop (i + 1) ms)) ≡ prefixed xs (numbers (drop i ms))
  unfolding numbers
  number_more n e = sym (at_mark (Number n) e ∙ one_before xs n (numbers (drop (i + 1) ms)))

  -- a comma is passed over
  pub comma_more : get_or ms i d ≡ Comma → prefixed xs (numbers (drop (i + 1) ms)) ≡ prefixed xs (numbers (drop i ms))
  unfolding numbers
  comma_more e = sym (at_mark Comma e)

  -- any other mark is wrong
  pub open_stops : get_or ms i d ≡ Open → prefixed xs (numbers (drop i ms)) ≡ Err Brackets
  unfolding numbers
  open_stops e = at_mark Open e

  pub close_stops : get_or ms i d ≡ Close → prefixed xs (numbers (drop i ms)) ≡ Err Brackets
  unfolding numbers
  close_stops e = at_mark Close e

  pub colon_stops : get_or ms i d ≡ Colon → prefixed xs (numbers (drop i ms)) ≡ Err NotANumber
  unfolding numbers
  colon_stops e = at_mark Colon e

  pub polygon_stops : get_or ms i d ≡ Polygon → prefixed xs (numbers (drop i ms)) ≡ Err NotANumber
  unfolding numbers
  polygon_stops e = at_mark Polygon e

-- at the end the row is whole
pub numbers_all : (ms : List Mark) (i : ℕ) (xs : List ℕ) → length ms ≤ i → prefixed xs (numbers (drop i ms)) ≡ Ok xs
numbers_all ms i xs past = ap (prefixed xs) (ap numbers (drop_all i ms past) ∙ numbers_none) ∙ nothing_more xs
