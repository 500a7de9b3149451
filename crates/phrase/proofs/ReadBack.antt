-- A command that was written is read back.
use Rattle.std.proofs.Common.{◌≡◌, ℕ, suc, ◌%◌, ◌^◌, ◌<◌, Bool, true, false, cond, ◌&&◌, eqb, ltb, List, [], ◌∷◌, ◌++◌, map, length, Some, codes, decimal, Option, sym, refl, ap, ◌∙◌, append-nil, arith}
use Rattle.std.specs.List.{AllByRecursion}
use Rattle.std.proofs.lemmas.List.{length-map}
use Rattle.std.proofs.lemmas.Bool.{eq-eqb, lt-ltb, cond-true, and_from}
use Rattle.phrase.specs.declared.word.Name.{Name}
use Rattle.phrase.specs.declared.word.Name.TheVariants as names
use Rattle.phrase.specs.declared.word.Word.{Word}
use Rattle.phrase.specs.declared.word.Word.TheVariants.{Named, Whole}
use Rattle.phrase.specs.Commands.{put, drops, at_point, how_lie, all_that_lie, area_of, help, quit, nothing}
use Rattle.phrase.specs.Grammar.{row_words, command}
use Rattle.phrase.specs.Kinds.{begins}
use Rattle.phrase.specs.Numbers.{bind}
use Rattle.phrase.specs.Points.{near}
use Rattle.phrase.specs.Rows.{wholes}
use Rattle.phrase.specs.Words.{plain, cut, all_words}
use Rattle.phrase.specs.Writing.{row_text, ReadsBack}
use Rattle.phrase.proofs.Spelling.{number_first, number_then}

-- the words of a text
abbrev told : List ℕ → Option (List Word)
told text = all_words (cut [] (plain text))

-- a number at the end, before a space, and before a comma and a space
last_number : (n : ℕ) → n < 2 ^ 64 → told (decimal n) ≡ Some (Whole n ∷ [])
unfolding plain cut all_words
last_number n h = ap told (sym (append-nil (decimal n))) ∙ ap all_words (number_first n h []) ∙ number_then n h []

before_space : (n : ℕ) (rest : List ℕ) → n < 2 ^ 64 → told (decimal n ++ (32 ∷ rest)) ≡ bind (told rest) (λ xs. Some (Whole n ∷ xs))
unfolding plain cut
before_space n rest h = ap all_words (number_first n h (32 ∷ rest)) ∙ number_then n h (cut [] (plain rest))

before_comma : (n : ℕ) (rest : List ℕ) → n < 2 ^ 64 → told (decimal n ++ (44 ∷ 32 ∷ rest)) ≡ bind (told rest) (λ xs. Some (Whole n ∷ xs))
unfolding plain cut
before_comma n rest h = ap all_words (number_first n h (44 ∷ 32 ∷ rest)) ∙ number_then n h (cut [] (plain rest))

-- a number before one coordinate or more
before_coordinate : (n k x : ℕ) (rest : List ℕ) (comma : Bool) → n < 2 ^ 64 → told (decimal n ++ (cond comma (codes ", " ++ decimal x) (codes " " ++ decimal x) ++ rest)) ≡ bind (told (decimal x ++ rest)) (λ xs. Some (Whole n ∷ xs))
before_coordinate n k x rest true h = before_comma n (decimal x ++ rest) h
before_coordinate n k x rest false h = before_space n (decimal x ++ rest) h

row_told : (n k : ℕ) (row : List ℕ) → n < 2 ^ 64 → AllByRecursion (λ x. x < 2 ^ 64) row → told (decimal n ++ row_text k row) ≡ Some (Whole n ∷ map Whole row)
unfolding row_text
row_told n k [] h g = ap told (append-nil (decimal n)) ∙ last_number n h
row_told n k (x ∷ row) h g =
    before_coordinate n k x (row_text (suc k) row) (ltb 0 k && eqb (k % 2) 0) h ∙ ap (λ o. bind o (λ xs. Some (Whole n ∷ xs))) (row_told x (suc k) row g.0 g.1)

wholes_back : (row : List ℕ) → wholes (map Whole row) ≡ Some row
unfolding wholes
wholes_back [] = refl
wholes_back (x ∷ row) = ap (λ o. bind o (λ ns. Some (x ∷ ns))) (wholes_back row)

row_back : (n : ℕ) (row : List ℕ) → length row % 2 ≡ 0 → row_words n (map Whole row) ≡ Some (put n row)
row_back n row even =
    cond-true (eqb (length (map Whole row) % 2) 0) _ _ (eq-eqb _ 0 (ap (λ k. k % 2) (length-map row Whole) ∙ even)) ∙ ap (λ o. bind o (λ ns. Some (put n ns))) (wholes_back row)

near_back : (a b w : ℕ) → 0 < w → w < 2 ^ 20 → a < 2 ^ 40 → b < 2 ^ 40 → bind (near a b w) (λ p. Some (at_point p.a p.b p.w)) ≡ Some (at_point a b w)
near_back a b w some few across up =
    ap (λ o. bind o (λ p. Some (at_point p.a p.b p.w))) (cond-true _ _ _ (and_from (ltb 0 w) _ (lt-ltb 0 w some) (and_from (ltb w (2 ^ 20)) _ (lt-ltb _ _ few) (and_from (ltb a (2 ^ 40)) (ltb b (2 ^ 40)) (lt-ltb _ _ across) (lt-ltb _ _ up)))))

-- the name n before what follows
abbrev after_name : Name → Option (List Word) → Option (List Word)
after_name n o = bind o (λ xs. Some (Named n ∷ xs))

pub read_back : ReadsBack
unfolding plain cut all_words begins
read_back (put n row) h = ap (λ o. bind (after_name names.Put o) command) (row_told n 0 row h.0 h.1) ∙ row_back n row h.2
read_back (drops n) h = ap (λ o. bind (after_name names.Drop o) command) (last_number n h)
read_back (at_point a b w) h =
    let last = last_number w (omega (arith, h.1)) in
    let two = before_space b (decimal w) (omega (arith, h.3)) ∙ ap (λ o. bind o (λ xs. Some (Whole b ∷ xs))) last in
    let three = before_space a (decimal b ++ (32 ∷ decimal w)) (omega (arith, h.2)) ∙ ap (λ o. bind o (λ xs. Some (Whole a ∷ xs))) two in
    ap (λ o. bind (after_name names.At (after_name names.Point o)) command) three ∙ near_back a b w h.0 h.1 h.2 h.3
read_back (how_lie m n) h =
    let both = before_comma m (decimal n) h.0 ∙ ap (λ o. bind o (λ xs. Some (Whole m ∷ xs))) (last_number n h.1) in
    ap (λ o. bind (after_name names.How (after_name names.Lie o)) command) both
read_back (all_that_lie n) h =
    ap (λ o. bind (after_name names.All (after_name names.That (after_name names.Lie (after_name names.On o)))) command) (last_number n h)
read_back (area_of n) h = ap (λ o. bind (after_name names.Area (after_name names.Of o)) command) (last_number n h)
read_back help h = refl
read_back quit h = refl
read_back nothing h = refl
