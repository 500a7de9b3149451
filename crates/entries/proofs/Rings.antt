-- The ring of a polygon as its marks: corners with commas between them.
use Rattle.std.proofs.Common.{◌≡◌, ℕ, ◌+◌, ◌-◌, ◌%◌, true, ◌&&◌, List, [], ◌∷◌, ◌++◌, length, get_or, take, Ok, sym, refl, ap, ◌∙◌, arith, length-append}
use lib.Seq.{take-append-le, take-length}
use Rattle.std.proofs.lemmas.List.{get_or-append-add}
use Rattle.std.proofs.lemmas.Bool.{eq-eqb, le-leb, cond-true, and_from}
use Rattle.entries.specs.declared.mark.Mark.{Mark}
use Rattle.entries.specs.declared.mark.Mark.TheVariants.{Number, Comma, Open, Close}
use Rattle.entries.specs.Rings.{is_close, bracketed, evenly, closes, opened, inner_row, ring_row}
use Rattle.entries.specs.Rows.{numbers}
use Rattle.entries.specs.Words.{then}

-- corners behind the first, each behind a comma
abbrev pub more_corners : List ℕ → List Mark
more_corners [] = []
more_corners (x ∷ []) = []
more_corners (x ∷ y ∷ xs) = Comma ∷ Number x ∷ Number y ∷ more_corners xs

-- and all of them
abbrev pub corner_marks : (x y : ℕ) → List ℕ → List Mark
corner_marks x y xs = Number x ∷ Number y ∷ more_corners xs

more_even : (xs : List ℕ) → evenly 2 (more_corners xs) ≡ true
unfolding evenly
more_even [] = refl
more_even (x ∷ []) = refl
more_even (x ∷ y ∷ xs) = more_even xs

pub corners_even : (x y : ℕ) (xs : List ℕ) → evenly 0 (corner_marks x y xs) ≡ true
unfolding evenly
corners_even x y xs = more_even xs

more_numbers : (xs : List ℕ) → length xs % 2 ≡ 0 → numbers (more_corners xs) ≡ Ok xs
unfolding numbers
more_numbers [] h = refl
more_numbers (x ∷ []) h = absurd (omega arith)
more_numbers (x ∷ y ∷ xs) h = ap (λ o. then (then o (λ ns. Ok (y ∷ ns))) (λ ns. Ok (x ∷ ns))) (more_numbers xs (omega arith))

pub corner_numbers : (x y : ℕ) (xs : List ℕ) → length xs % 2 ≡ 0 → numbers (corner_marks x y xs) ≡ Ok (x ∷ y ∷ xs)
unfolding numbers
corner_numbers x y xs h = ap (λ o. then (then o (λ ns. Ok (y ∷ ns))) (λ ns. Ok (x ∷ ns))) (more_numbers xs h)

-- the front of two lists
front : {A : Type 0} (xs ys : List A) (k : ℕ) → k ≡ length xs → take k (xs ++ ys) ≡ xs
front xs ys k e = ap (λ m. take m (xs ++ ys)) e ∙ take-append-le (length xs) xs ys (omega arith) ∙ take-length xs

-- the last two of a list that ends with a and b
last_but_one : {A : Type 0} (xs : List A) (a b d : A) (n : ℕ) → n ≡ length xs + 2 → get_or (xs ++ (a ∷ b ∷ [])) (n - 2) d ≡ a
last_but_one xs a b d n e =
    let place : n - 2 ≡ length xs + 0 = omega arith in
    ap (λ k. get_or (xs ++ (a ∷ b ∷ [])) k d) place ∙ get_or-append-add xs (a ∷ b ∷ []) 0 d

very_last : {A : Type 0} (xs : List A) (a b d : A) (n : ℕ) → n ≡ length xs + 2 → get_or (xs ++ (a ∷ b ∷ [])) (n - 1) d ≡ b
very_last xs a b d n e =
    let place : n - 1 ≡ length xs + 1 = omega arith in
    ap (λ k. get_or (xs ++ (a ∷ b ∷ [])) k d) place ∙ get_or-append-add xs (a ∷ b ∷ []) 1 d

-- a ring that ends with its first corner is closed, and without it is the row
pub ring_opened : (x y : ℕ) (xs : List ℕ) → opened (x ∷ y ∷ (xs ++ (x ∷ y ∷ []))) ≡ Ok (x ∷ y ∷ xs)
ring_opened x y xs =
    let row : List ℕ = x ∷ y ∷ xs in
    let n : ℕ = length (row ++ (x ∷ y ∷ [])) in
    let long : n ≡ length row + 2 = length-append row (x ∷ y ∷ []) in
    let short : n - 2 ≡ length row = omega arith in
    let shut : closes (row ++ (x ∷ y ∷ [])) ≡ true =
    and_from _ _ (le-leb 4 n (omega arith)) (and_from _ _ (eq-eqb x _ (sym (last_but_one row x y 0 n long))) (eq-eqb y _ (sym (very_last row x y 0 n long)))) in
    cond-true _ _ _ shut ∙ ap Ok (front row (x ∷ y ∷ []) (n - 2) short)

-- marks in two pairs of brackets
pub in_brackets : (ms : List Mark) → ring_row (Open ∷ Open ∷ (ms ++ (Close ∷ Close ∷ []))) ≡ inner_row ms
in_brackets ms =
    let front_part : List Mark = Open ∷ Open ∷ ms in
    let n : ℕ = length (front_part ++ (Close ∷ Close ∷ [])) in
    let long : n ≡ length front_part + 2 = length-append front_part (Close ∷ Close ∷ []) in
    let short : n - 2 - 2 ≡ length ms = omega arith in
    let shut : bracketed (front_part ++ (Close ∷ Close ∷ [])) ≡ true =
    and_from _ _ (le-leb 4 n (omega arith)) (ap (λ m. is_close m && is_close (get_or (front_part ++ (Close ∷ Close ∷ [])) (n - 1) (Number 0))) (last_but_one front_part Close Close (Number 0) n long) ∙ ap is_close (very_last front_part Close Close (Number 0) n long)) in
    cond-true _ _ _ shut ∙ ap inner_row (front ms (Close ∷ Close ∷ []) (n - 2 - 2) short)
