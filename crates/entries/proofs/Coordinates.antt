-- Writing the numbers of a ring, one by one.
use Rattle.std.proofs.Common.{◌≡◌, ℕ, ◌+◌, ◌<◌, ◌≤◌, List, [], ◌∷◌, ◌++◌, length, get_or, drop, sym, refl, ap, ◌∙◌, append_assoc, append-nil, add-one}
use Rattle.std.proofs.lemmas.List.{drop_more, drop_all}
use Rattle.entries.specs.Wkt.{coordinate, coordinates}

pub none_written : (k : ℕ) → coordinates k [] ≡ []
unfolding coordinates
none_written k = refl

pub one_written : (k x : ℕ) (xs : List ℕ) → coordinates k (x ∷ xs) ≡ coordinate k x ++ coordinates (k + 1) xs
unfolding coordinates
one_written k x xs = rw (add-one k)

module _ (ring : List ℕ) (i : ℕ) (before all : List ℕ) where
  -- text is what number i writes
  pub ring_more : (after text : List ℕ) → i < length ring → after ≡ before ++ text → text ≡ coordinate i (get_or ring i 0) → before ++ coordinates i (drop i ring) ≡ all → after ++ coordinates (i + 1) (drop (i + 1) ring) ≡ all
  ring_more after text within a t left =
      let x = get_or ring i 0 in
      let rest = coordinates (i + 1) (drop (i + 1) ring) in
      ap (λ l. l ++ rest) (a ∙ ap (λ l. before ++ l) t) ∙ append_assoc before (coordinate i x) rest ∙ ap (λ l. before ++ l) (sym (ap (coordinates i) (drop_more ring i 0 within) ∙ one_written i x (drop (i + 1) ring))) ∙ left

  pub ring_ends : length ring ≤ i → before ++ coordinates i (drop i ring) ≡ all → before ≡ all
  ring_ends past left = sym (append-nil before) ∙ ap (λ l. before ++ l) (sym (ap (coordinates i) (drop_all i ring past) ∙ none_written i)) ∙ left
