-- Words as whole numbers.
use Rattle.std.specs.Prelude.{ℕ, List, [], ◌∷◌, Some, None, Option}
use Rattle.phrase.specs.declared.word.Word.{Word}
use Rattle.phrase.specs.declared.word.Word.TheVariants.{Named, Whole, Fraction}
use Rattle.phrase.specs.Numbers.{bind}

abbrev pub whole_of : Word → Option ℕ
whole_of (Named n) = None
whole_of (Whole k) = Some k
whole_of (Fraction over under) = None

-- every word, each a whole number
unfoldable pub wholes : List Word → Option (List ℕ)
wholes [] = Some []
wholes (w ∷ ws) = bind (whole_of w) (λ n. bind (wholes ws) (λ ns. Some (n ∷ ns)))

-- one whole number, and nothing else
abbrev pub one_number : List Word → Option ℕ
one_number [] = None
one_number (w ∷ []) = whole_of w
one_number (w ∷ v ∷ ws) = None

abbrev pub two_numbers : List Word → Option (ℕ × ℕ)
two_numbers [] = None
two_numbers (w ∷ []) = None
two_numbers (w ∷ v ∷ []) = bind (whole_of w) (λ m. bind (whole_of v) (λ n. Some (m, n)))
two_numbers (w ∷ v ∷ u ∷ ws) = None
