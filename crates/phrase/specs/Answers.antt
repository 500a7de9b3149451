-- Which bytes an answer is.
use Rattle.std.specs.Prelude.{ℕ, List, [], ◌∷◌, ◌++◌, vec_items, codes, decimal}
use Rattle.std.specs.List.{flat_map}
use Rattle.phrase.specs.declared.answer.Answer.{Answer}
use Rattle.phrase.specs.declared.answer.Answer.TheVariants.{Done, Refused, Point, Lie, AllLie, Area, NotUnderstood}
use Rattle.phrase.specs.declared.answer.Neighbour.{Neighbour}
use Rattle.phrase.specs.Ratios.{ratio_text}
use Rattle.terms.specs.declared.way.Way.{Way}
use Rattle.terms.specs.declared.way.Way.TheVariants.{Apart, Touch, Within, Around, Same, Over}

-- how the first and the second lie
abbrev pub lie_line : ℕ → ℕ → Way → List ℕ
lie_line m n Apart = decimal m ++ (codes " and " ++ (decimal n ++ codes " are apart\n"))
lie_line m n Touch = decimal m ++ (codes " and " ++ (decimal n ++ codes " touch\n"))
lie_line m n Within = decimal m ++ (codes " is within " ++ (decimal n ++ codes "\n"))
lie_line m n Around = decimal n ++ (codes " is within " ++ (decimal m ++ codes "\n"))
lie_line m n Same = decimal m ++ (codes " and " ++ (decimal n ++ codes " are the same\n"))
lie_line m n Over = decimal m ++ (codes " and " ++ (decimal n ++ codes " lie over each other\n"))

abbrev pub row_line : ℕ → Neighbour → List ℕ
row_line m x = lie_line m x.other x.way

abbrev pub all_lie_lines : ℕ → List Neighbour → List ℕ
all_lie_lines m [] = codes "none\n"
all_lie_lines m (x ∷ xs) = flat_map (row_line m) (x ∷ xs)

-- a number behind others
abbrev pub after_comma : ℕ → List ℕ
after_comma n = codes ", " ++ decimal n

abbrev pub numbers_or_none : List ℕ → List ℕ
numbers_or_none [] = codes "none"
numbers_or_none (n ∷ ns) = decimal n ++ flat_map after_comma ns

-- any number can be the reason
abbrev pub refused_line : ℕ → List ℕ
refused_line reason = codes "refused " ++ (decimal reason ++ codes "\n")

abbrev pub point_line : ℕ → ℕ → ℕ → List ℕ → List ℕ
point_line a b w grounds = ratio_text a w ++ (codes " " ++ (ratio_text b w ++ (codes ": " ++ (numbers_or_none grounds ++ codes "\n"))))

abbrev pub area_line : ℕ → ℕ → List ℕ
area_line n twice = codes "twice the area of " ++ (decimal n ++ (codes " is " ++ (decimal twice ++ codes "\n")))

abbrev pub unread_line : List ℕ → List ℕ
unread_line line = codes "not understood: " ++ (line ++ codes "\n")

-- each line ends in a newline
abbrev pub answer_bytes : Answer → List ℕ
answer_bytes Done = codes "done\n"
answer_bytes (Refused reason) = refused_line reason
answer_bytes (Point p grounds) = point_line p.a p.b p.w (vec_items grounds)
answer_bytes (Lie first second way) = lie_line first second way
answer_bytes (AllLie number rows) = all_lie_lines number (vec_items rows)
answer_bytes (Area number twice) = area_line number twice
answer_bytes (NotUnderstood line) = unread_line (vec_items line)
