-- A ground that was written as well-known text is read back.
use Rattle.std.proofs.Common.{◌≡◌, ℕ, ◌+◌, ◌%◌, ◌^◌, ◌<◌, cond, List, [], ◌∷◌, ◌++◌, length, Ok, Err, codes, decimal, refl, ap, ◌∙◌, append_assoc, arith, length-append}
use Rattle.std.specs.List.{AllByRecursion}
use Rattle.std.proofs.lemmas.Bool.{eq-eqb, ne_eqb, cond-true, cond-false}
use Rattle.phrase.specs.Words.{plain}
use Rattle.entries.specs.declared.fault.Fault.TheVariants.{NotAPolygon}
use Rattle.entries.specs.declared.mark.Mark.{Mark}
use Rattle.entries.specs.declared.mark.Mark.TheVariants.{Number, Polygon, Comma, Open, Close}
use Rattle.entries.specs.Grammar.{ground, entry_of}
use Rattle.entries.specs.Marks.{before, marks}
use Rattle.entries.specs.ReadBack.{ReadsBack}
use Rattle.entries.specs.Rings.{evenly, opened, inner_row}
use Rattle.entries.specs.Wkt.{coordinates}
use Rattle.entries.specs.Words.{then}
use Rattle.entries.proofs.Coordinates.{none_written, one_written}
use Rattle.entries.proofs.Rings.{more_corners, corner_marks, corners_even, corner_numbers, ring_opened, in_brackets}
use Rattle.entries.proofs.Spelling.{number_first, number_then}

abbrev Small : List ℕ → Type 0
Small row = AllByRecursion (λ x. x < 2 ^ 64) row

small_both : (xs ys : List ℕ) → Small xs → Small ys → Small (xs ++ ys)
small_both [] ys h g = g
small_both (x ∷ xs) ys h g = (h.0, small_both xs ys h.1 g)

-- what comes before a number of a ring
odd_written : (k x : ℕ) (xs : List ℕ) → k % 2 ≡ 1 → coordinates k (x ∷ xs) ≡ 32 ∷ (decimal x ++ coordinates (k + 1) xs)
odd_written k x xs h =
    one_written k x xs ∙ ap (λ l. l ++ coordinates (k + 1) xs) (cond-false _ _ _ (ne_eqb k 0 (λ e. omega arith)) ∙ cond-false _ _ _ (ne_eqb (k % 2) 0 (λ e. omega arith)))

even_written : (k x : ℕ) (xs : List ℕ) → 0 < k → k % 2 ≡ 0 → coordinates k (x ∷ xs) ≡ 44 ∷ 32 ∷ (decimal x ++ coordinates (k + 1) xs)
even_written k x xs some h =
    one_written k x xs ∙ ap (λ l. l ++ coordinates (k + 1) xs) (cond-false _ _ _ (ne_eqb k 0 (λ e. omega arith)) ∙ cond-true _ _ _ (eq-eqb (k % 2) 0 h))

-- the marks behind the number n
abbrev told : ℕ → List ℕ → List Mark → Type 0
told n text ms = marks [] (plain (decimal n ++ text)) ≡ Ok (Number n ∷ ms)

module _ (n : ℕ) (small : n < 2 ^ 64) where
  -- nothing but the brackets that close
  told_last : told n (41 ∷ 41 ∷ []) (Close ∷ Close ∷ [])
  unfolding plain marks
  told_last = number_first n small (41 ∷ 41 ∷ []) ∙ number_then n small (Ok (Close ∷ Close ∷ []))

  told_space : (m : ℕ) (text : List ℕ) (ms : List Mark) → told m text ms → told n (32 ∷ (decimal m ++ text)) (Number m ∷ ms)
  unfolding plain marks
  told_space m text ms h = number_first n small (32 ∷ (decimal m ++ text)) ∙ number_then n small (marks [] (plain (decimal m ++ text))) ∙ ap (before (Number n)) h

  told_comma : (m : ℕ) (text : List ℕ) (ms : List Mark) → told m text ms → told n (44 ∷ 32 ∷ (decimal m ++ text)) (Comma ∷ Number m ∷ ms)
  unfolding plain marks
  told_comma m text ms h = number_first n small (44 ∷ 32 ∷ (decimal m ++ text)) ∙ number_then n small (before Comma (marks [] (plain (decimal m ++ text)))) ∙ ap (λ o. before (Number n) (before Comma o)) h

-- corners that go on behind a number
told_corners : (n k : ℕ) (xs : List ℕ) → n < 2 ^ 64 → 0 < k → k % 2 ≡ 0 → Small xs → length xs % 2 ≡ 0 → told n (coordinates k xs ++ (41 ∷ 41 ∷ [])) (more_corners xs ++ (Close ∷ Close ∷ []))
told_corners n k [] h some even g e = ap (λ l. marks [] (plain (decimal n ++ (l ++ (41 ∷ 41 ∷ []))))) (none_written k) ∙ told_last n h
told_corners n k (x ∷ []) h some even g e = absurd (omega arith)
told_corners n k (x ∷ y ∷ xs) h some even g e =
    let rest : List ℕ = coordinates (k + 1 + 1) xs in
    let second = ap (λ l. l ++ (41 ∷ 41 ∷ [])) (odd_written (k + 1) y xs (omega arith)) in
    let text : coordinates k (x ∷ y ∷ xs) ++ (41 ∷ 41 ∷ []) ≡ 44 ∷ 32 ∷ (decimal x ++ (32 ∷ (decimal y ++ (rest ++ (41 ∷ 41 ∷ []))))) =
    ap (λ l. l ++ (41 ∷ 41 ∷ [])) (even_written k x (y ∷ xs) some even)
    ∙ ap (λ l. 44 ∷ 32 ∷ l) (append_assoc (decimal x) (coordinates (k + 1) (y ∷ xs)) (41 ∷ 41 ∷ []) ∙ ap (λ l. decimal x ++ l) (second ∙ ap (λ l. 32 ∷ l) (append_assoc (decimal y) rest (41 ∷ 41 ∷ [])))) in
    ap (λ l. marks [] (plain (decimal n ++ l))) text
    ∙ told_comma n h x _ _ (told_space x g.0 y _ _ (told_corners y (k + 1 + 1) xs g.1.0 (omega arith) (omega arith) g.1.1 (omega arith)))

-- the numbers of a ring, from the first on
told_ring : (x y : ℕ) (xs : List ℕ) → Small (x ∷ y ∷ xs) → length xs % 2 ≡ 0 → marks [] (plain (coordinates 0 (x ∷ y ∷ xs) ++ (41 ∷ 41 ∷ []))) ≡ Ok (corner_marks x y xs ++ (Close ∷ Close ∷ []))
told_ring x y xs g e =
    let rest : List ℕ = coordinates 2 xs in
    let text : coordinates 0 (x ∷ y ∷ xs) ++ (41 ∷ 41 ∷ []) ≡ decimal x ++ (32 ∷ (decimal y ++ (rest ++ (41 ∷ 41 ∷ [])))) =
    ap (λ l. l ++ (41 ∷ 41 ∷ [])) (one_written 0 x (y ∷ xs)) ∙ append_assoc (decimal x) (coordinates 1 (y ∷ xs)) (41 ∷ 41 ∷ [])
    ∙ ap (λ l. decimal x ++ l) (ap (λ l. l ++ (41 ∷ 41 ∷ [])) (odd_written 1 y xs refl) ∙ ap (λ l. 32 ∷ l) (append_assoc (decimal y) rest (41 ∷ 41 ∷ []))) in
    ap (λ l. marks [] (plain l)) text ∙ told_space x g.0 y _ _ (told_corners y 2 xs g.1.0 (omega arith) refl g.1.1 e)

-- a polygon behind the number n
told_polygon : (n : ℕ) (text : List ℕ) (ms : List Mark) → n < 2 ^ 64 → marks [] (plain text) ≡ Ok ms → told n (codes " POLYGON((" ++ text) (Polygon ∷ Open ∷ Open ∷ ms)
unfolding plain marks
told_polygon n text ms h e =
    number_first n h (codes " POLYGON((" ++ text) ∙ number_then n h (before Polygon (before Open (before Open (marks [] (plain text))))) ∙ ap (λ o. before (Number n) (before Polygon (before Open (before Open o)))) e

pub read_back : ReadsBack
read_back n [] h g e some = absurd (omega arith)
read_back n (x ∷ []) h g e some = absurd (omega arith)
read_back n (x ∷ y ∷ xs) h g e some =
    let ring : List ℕ = xs ++ (x ∷ y ∷ []) in
    let even : length ring % 2 ≡ 0 = omega (arith, length-append xs (x ∷ y ∷ [])) in
    let all : Small (x ∷ y ∷ ring) = (g.0, (g.1.0, small_both xs (x ∷ y ∷ []) g.1.1 (g.0, (g.1.0, tt)))) in
    let read = told_polygon n (coordinates 0 (x ∷ y ∷ ring) ++ (41 ∷ 41 ∷ [])) _ h (told_ring x y ring all even) in
    let inner = in_brackets (corner_marks x y ring) in
    let row : inner_row (corner_marks x y ring) ≡ Ok (x ∷ y ∷ xs) =
    ap (λ o. then o (λ r. cond (evenly 0 (corner_marks x y ring)) (opened r) (Err NotAPolygon))) (corner_numbers x y ring even) ∙ cond-true _ _ _ (corners_even x y ring) ∙ ring_opened x y xs in
    ap (λ o. then o entry_of) read ∙ ap (λ o. then o (λ r. Ok (ground n r))) (inner ∙ row)
