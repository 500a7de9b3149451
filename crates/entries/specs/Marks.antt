-- How a line is cut into marks: words, and signs that stand for themselves.
use Rattle.std.specs.Prelude.{ℕ, Bool, cond, ◌||◌, List, [], ◌∷◌, ◌++◌, is_some, Some, None, Ok, Option, Result, ◌==◌}
use Rattle.entries.specs.declared.fault.Fault.{Fault}
use Rattle.entries.specs.declared.mark.Mark.{Mark}
use Rattle.entries.specs.declared.mark.Mark.TheVariants.{Comma, Colon, Open, Close}
use Rattle.entries.specs.Words.{then, word}

-- a comma, a colon and brackets
abbrev pub sign : ℕ → Option Mark
sign b = cond (b == 44) (Some Comma) (cond (b == 58) (Some Colon) (cond (b == 40) (Some Open) (cond (b == 41) (Some Close) None)))

-- a space, a tab or a sign
abbrev pub separates : ℕ → Bool
separates b = b == 32 || (b == 9 || is_some (sign b))

-- a mark before those that follow
abbrev pub before : Mark → Result (List Mark) Fault → Result (List Mark) Fault
before m rest = then rest (λ ms. Ok (m ∷ ms))

-- a word that ends here, if there is one, before the marks that follow
abbrev pub closed : List ℕ → Result (List Mark) Fault → Result (List Mark) Fault
closed [] rest = rest
closed (b ∷ w) rest = then (word (b ∷ w)) (λ m. before m rest)

abbrev pub signed : Option Mark → Result (List Mark) Fault → Result (List Mark) Fault
signed None rest = rest
signed (Some m) rest = before m rest

-- the marks of a text of which w is already read, a part of a word; the first word that is none makes it wrong
unfoldable pub marks : List ℕ → List ℕ → Result (List Mark) Fault
marks w [] = closed w (Ok [])
marks w (b ∷ bs) = cond (separates b) (closed w (signed (sign b) (marks [] bs))) (marks (w ++ (b ∷ [])) bs)
