-- Cutting a line into marks, word by word.
use Rattle.std.proofs.Common.{◌≡◌, ℕ, zero, suc, ◌+◌, ◌<◌, ◌≤◌, Bool, true, false, cond, ltb, List, [], ◌∷◌, ◌++◌, length, get_or, take, drop, position, Some, None, Ok, Err, Option, Result, sym, refl, ap, ◌∙◌, append_assoc, append-nil, arith}
use Rattle.std.specs.List.{position_or_len}
use Rattle.std.proofs.lemmas.List.{drop_more, drop_all, take_all}
use Rattle.std.proofs.lemmas.List.Quantifiers.{position-Some}
use Rattle.std.proofs.lemmas.List.Sums.{fails_before_first}
use Rattle.std.proofs.lemmas.Bool.{cond-true, cond-false, ltb-false}
use Rattle.entries.specs.declared.fault.Fault.{Fault}
use Rattle.entries.specs.declared.fault.ReadError.{ReadError}
use Rattle.entries.specs.declared.fault.ReadError.TheVariants.{Wrong, OutOfMemory}
use Rattle.entries.specs.declared.mark.Mark.{Mark}
use Rattle.entries.specs.Marks.{sign, separates, before, closed, signed, marks}
use Rattle.entries.specs.Reading.{Reads, Closes, Signs}
use Rattle.entries.specs.Words.{then}
use Rattle.entries.proofs.Sofar.{prefixed, one_before, nothing_more}

pub marks_end : (w : List ℕ) → marks w [] ≡ closed w (Ok [])
unfolding marks
marks_end w = refl

pub marks_separated : (w : List ℕ) (b : ℕ) (bs : List ℕ) → separates b ≡ true → marks w (b ∷ bs) ≡ closed w (signed (sign b) (marks [] bs))
unfolding marks
marks_separated w b bs h = cond-true _ _ _ h

pub marks_on : (w : List ℕ) (b : ℕ) (bs : List ℕ) → separates b ≡ false → marks w (b ∷ bs) ≡ marks (w ++ (b ∷ [])) bs
unfolding marks
marks_on w b bs h = cond-false _ _ _ h

-- bytes of which none separates go on with the word
marks_along : (w text : List ℕ) (n : ℕ) → ((k : ℕ) → k < n → separates (get_or text k 0) ≡ false) → marks w text ≡ marks (w ++ take n text) (drop n text)
marks_along w text zero h = ap (λ v. marks v text) (sym (append-nil w))
marks_along w [] (suc n) h = ap (λ v. marks v []) (sym (append-nil w))
marks_along w (b ∷ bs) (suc n) h =
    marks_on w b bs (h 0 (omega arith)) ∙ marks_along (w ++ (b ∷ [])) bs n (λ k l. h (suc k) (omega arith)) ∙ ap (λ v. marks v (drop n bs)) (append_assoc w (b ∷ []) (take n bs))

-- the first that separates ends a word
cut_there : (text : List ℕ) (n : ℕ) → ◌≡◌ (Some n) (position separates text) → marks [] text ≡ closed (take n text) (signed (sign (get_or text n 0)) (marks [] (drop (n + 1) text)))
cut_there text n h =
    let at = position-Some separates text n 0 (sym h) in
    marks_along [] text n at.2 ∙ ap (marks (take n text)) (drop_more text n 0 at.0) ∙ marks_separated _ _ _ at.1

no_place : (b : Bool) (k : ℕ) → ◌≡◌ None (cond b (Some k) None) → b ≡ false
no_place true k h = cc
no_place false k h = refl

-- where none separates, all is one word
one_word : (text : List ℕ) → ◌≡◌ None (position separates text) → marks [] text ≡ closed text (Ok [])
one_word text h =
    let past : length text ≤ position_or_len separates text = ltb-false _ _ (no_place (ltb (position_or_len separates text) (length text)) (position_or_len separates text) h) in
    marks_along [] text (length text) (λ k l. fails_before_first separates text k 0 (omega arith))
    ∙ ap (λ v. marks v (drop (length text) text)) (take_all (length text) text (omega arith))
    ∙ ap (marks text) (drop_all (length text) text (omega arith))
    ∙ marks_end text

-- a word that was closed stands before what is still to be read
closed_ok : (w : List ℕ) (rest : Result (List Mark) Fault) (xs ys : List Mark) → Closes (Ok tt) w xs ys → prefixed xs (closed w rest) ≡ prefixed ys rest
closed_ok [] rest xs ys h = ap (λ l. prefixed l rest) (sym h)
closed_ok (b ∷ w) rest xs ys h = ap (λ o. prefixed xs (then o (λ m. before m rest))) h.1 ∙ one_before xs h.0 rest ∙ ap (λ l. prefixed l rest) (sym h.2)

-- and so does a sign
signed_ok : (s : Option Mark) (rest : Result (List Mark) Fault) (xs ys : List Mark) → Signs (Ok tt) s xs ys → prefixed xs (signed s rest) ≡ prefixed ys rest
signed_ok None rest xs ys h = ap (λ l. prefixed l rest) (sym h)
signed_ok (Some m) rest xs ys h = one_before xs m rest ∙ ap (λ l. prefixed l rest) (sym h)

-- if it is no word, the text is wrong
closed_not : (e : ReadError) (w : List ℕ) (rest : Result (List Mark) Fault) (xs ys : List Mark) (all : Result (List Mark) Fault) {X : Type 0} (f : X → List Mark) → Closes (Err e) w xs ys → prefixed xs (closed w rest) ≡ all → Reads (Err e) all f
closed_not (Wrong fault) [] rest xs ys all f h eq = absurd h
closed_not (Wrong fault) (b ∷ w) rest xs ys all f h eq = sym eq ∙ ap (λ o. prefixed xs (then o (λ m. before m rest))) h
closed_not OutOfMemory w rest xs ys all f h eq = tt

-- Below, rest is what was not cut yet; all is what the whole text is.
module _ (rest : List ℕ) (n : ℕ) (xs : List Mark) (all : Result (List Mark) Fault) (there : ◌≡◌ (Some n) (position separates rest)) (left : prefixed xs (marks [] rest) ≡ all) where
  at_separator : prefixed xs (closed (take n rest) (signed (sign (get_or rest n 0)) (marks [] (drop (n + 1) rest)))) ≡ all
  at_separator = ap (prefixed xs) (sym (cut_there rest n there)) ∙ left

  pub word_ends : (ys zs : List Mark) → Closes (Ok tt) (take n rest) xs ys → Signs (Ok tt) (sign (get_or rest n 0)) ys zs → prefixed zs (marks [] (drop (n + 1) rest)) ≡ all
  word_ends ys zs h g =
      sym (signed_ok (sign (get_or rest n 0)) (marks [] (drop (n + 1) rest)) ys zs g) ∙ sym (closed_ok (take n rest) _ xs ys h) ∙ at_separator

  pub word_fails : (e : ReadError) (ys : List Mark) {X : Type 0} (f : X → List Mark) → Closes (Err e) (take n rest) xs ys → Reads (Err e) all f
  word_fails e ys f h = closed_not e (take n rest) (signed (sign (get_or rest n 0)) (marks [] (drop (n + 1) rest))) xs ys all f h at_separator

module _ (rest : List ℕ) (xs : List Mark) (all : Result (List Mark) Fault) (none : ◌≡◌ None (position separates rest)) (left : prefixed xs (marks [] rest) ≡ all) where
  at_end : prefixed xs (closed rest (Ok [])) ≡ all
  at_end = ap (prefixed xs) (sym (one_word rest none)) ∙ left

  pub last_ends : (ys : List Mark) → Closes (Ok tt) rest xs ys → all ≡ Ok ys
  last_ends ys h = sym at_end ∙ closed_ok rest _ xs ys h ∙ nothing_more ys

  pub last_fails : (e : ReadError) (ys : List Mark) {X : Type 0} (f : X → List Mark) → Closes (Err e) rest xs ys → Reads (Err e) all f
  last_fails e ys f h = closed_not e rest (Ok []) xs ys all f h at_end
