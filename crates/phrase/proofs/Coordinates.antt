-- Writing the coordinates of a row, one by one.
use Rattle.std.proofs.Common.{◌≡◌, ℕ, suc, ◌+◌, ◌<◌, List, [], ◌∷◌, ◌++◌, length, get_or, take, sym, ap, ◌∙◌, append_assoc, append-nil, arith, length-take}
use Rattle.std.proofs.lemmas.List.{take_more}
use Rattle.phrase.specs.Writing.{coordinate_text, row_text}

row_push : (k x : ℕ) (xs : List ℕ) → row_text k (xs ++ (x ∷ [])) ≡ row_text k xs ++ coordinate_text (k + length xs) x
unfolding row_text
row_push k x [] =
    let same : k ≡ k + 0 = omega arith in
    append-nil (coordinate_text k x) ∙ ap (λ j. coordinate_text j x) same
row_push k x (y ∷ xs) =
    let next : suc k + length xs ≡ k + length (y ∷ xs) = omega arith in
    ap (λ l. coordinate_text k y ++ l) (row_push (suc k) x xs ∙ ap (λ j. row_text (suc k) xs ++ coordinate_text j x) next) ∙ sym (append_assoc (coordinate_text k y) (row_text (suc k) xs) (coordinate_text (k + length (y ∷ xs)) x))

pub row_more : (row : List ℕ) (i : ℕ) → i < length row → row_text 0 (take i row) ++ coordinate_text i (get_or row i 0) ≡ row_text 0 (take (i + 1) row)
row_more row i h =
    let x = get_or row i 0 in
    let passed : 0 + length (take i row) ≡ i = omega (arith, length-take i row) in
    sym (ap (row_text 0) (take_more row i 0 h) ∙ row_push 0 x (take i row) ∙ ap (λ k. row_text 0 (take i row) ++ coordinate_text k x) passed)
