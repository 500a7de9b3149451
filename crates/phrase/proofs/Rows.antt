-- Reading a row of whole numbers, word by word.
use Rattle.std.proofs.Common.{◌≡◌, ℕ, ◌+◌, ◌<◌, ◌≤◌, List, [], ◌∷◌, ◌++◌, length, get_or, drop, Some, None, sym, refl, ap, ◌∙◌}
use Rattle.std.proofs.lemmas.List.{drop_more, drop_all}
use Rattle.phrase.specs.declared.word.Word.{Word}
use Rattle.phrase.specs.declared.word.Word.TheVariants.{Named, Whole, Fraction}
use Rattle.phrase.specs.Numbers.{bind}
use Rattle.phrase.specs.Rows.{whole_of, wholes}
use Rattle.phrase.proofs.Sofar.{prefixed, one_before, nothing_more}

pub wholes_none : wholes [] ≡ Some []
unfolding wholes
wholes_none = refl

wholes_cons : (w : Word) (ws : List Word) → wholes (w ∷ ws) ≡ bind (whole_of w) (λ n. bind (wholes ws) (λ ns. Some (n ∷ ns)))
unfolding wholes
wholes_cons w ws = refl

not_whole : (w : Word) → ((n : ℕ) → w ≡ Whole n → ⊥) → whole_of w ≡ None
not_whole (Named n) h = refl
not_whole (Whole n) h = absurd (h n refl)
not_whole (Fraction over under) h = refl

module _ (ws : List Word) (i : ℕ) (d : Word) (xs : List ℕ) (within : i < length ws) where
  next_word : prefixed xs (wholes (drop i ws)) ≡ prefixed xs (bind (whole_of (get_or ws i d)) (λ n. bind (wholes (drop (i + 1) ws)) (λ ns. Some (n ∷ ns))))
  next_word = ap (prefixed xs) (ap wholes (drop_more ws i d within) ∙ wholes_cons _ _)

  -- a whole number joins the row
  pub row_more : (n : ℕ) → get_or ws i d ≡ Whole n → prefixed (xs ++ (n ∷ [])) (wholes (drop (i + 1) ws)) ≡ prefixed xs (wholes (drop i ws))
  row_more n e = sym (next_word ∙ ap (λ w. prefixed xs (bind (whole_of w) (λ n. bind (wholes (drop (i + 1) ws)) (λ ns. Some (n ∷ ns))))) e ∙ one_before xs n (wholes (drop (i + 1) ws)))

  -- any other word is refused
  pub row_stops : ((n : ℕ) → get_or ws i d ≡ Whole n → ⊥) → prefixed xs (wholes (drop i ws)) ≡ None
  row_stops h = next_word ∙ ap (λ o. prefixed xs (bind o (λ n. bind (wholes (drop (i + 1) ws)) (λ ns. Some (n ∷ ns))))) (not_whole (get_or ws i d) h)

-- at the end the row is whole
pub row_ends : (ws : List Word) (i : ℕ) (xs : List ℕ) → length ws ≤ i → prefixed xs (wholes (drop i ws)) ≡ Some xs
row_ends ws i xs past = ap (prefixed xs) (ap wholes (drop_all i ws past) ∙ wholes_none) ∙ nothing_more xs
