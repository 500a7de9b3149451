-- Cutting a line into words.
use Rattle.std.proofs.Common.{◌≡◌, ℕ, ◌+◌, ◌<◌, ◌≤◌, Bool, true, false, cond, List, [], ◌∷◌, ◌++◌, length, get_or, drop, Some, Ok, Err, Option, sym, refl, ap, ◌∙◌, append_assoc, append-nil, arith}
use Rattle.std.specs.List.{slice_split, onto_first}
use Rattle.std.proofs.lemmas.List.{at_drop_more, at_drop_all}
use Rattle.std.proofs.lemmas.List.Splits.{length-slice_split}
use Rattle.std.proofs.lemmas.Bool.{cond-false}
use Rattle.phrase.specs.declared.fault.NotUnderstood.{NotUnderstood}
use Rattle.phrase.specs.declared.fault.NotUnderstood.TheVariants.{Unreadable, OutOfMemory}
use Rattle.phrase.specs.declared.word.Word.{Word}
use Rattle.phrase.specs.Numbers.{bind}
use Rattle.phrase.specs.Reading.{Reads, Closes}
use Rattle.phrase.proofs.Sofar.{prefixed, one_before, nothing_more}
use Rattle.phrase.specs.Words.{separates, closed, cut, all_words}

pub cut_on : (w : List ℕ) (b : ℕ) (bs : List ℕ) → separates b ≡ false → cut w (b ∷ bs) ≡ cut (w ++ (b ∷ [])) bs
unfolding cut
cut_on w b bs h = cond-false _ _ _ h

-- a word that was closed stands before what is still to be read
pub closed_ok : (w : List ℕ) (ws : List (List ℕ)) (before after : List Word) → Closes (Ok tt) w before after → prefixed before (all_words (closed w ws)) ≡ prefixed after (all_words ws)
unfolding all_words
closed_ok [] ws before after h = ap (λ l. prefixed l (all_words ws)) (sym h)
closed_ok (b ∷ w) ws before after h =
    ap (λ o. prefixed before (bind o (λ x. bind (all_words ws) (λ xs. Some (x ∷ xs))))) h.1 ∙ one_before before h.0 (all_words ws) ∙ ap (λ l. prefixed l (all_words ws)) (sym h.2)

-- if it is no word, nothing is read
pub closed_not : (e : NotUnderstood) (w : List ℕ) (ws : List (List ℕ)) (before after xs : List Word) (m : Option (List Word)) {X : Type 0} (f : X → List Word) → Closes (Err e) w before after → prefixed xs (all_words (closed w ws)) ≡ m → Reads (Err e) m f
unfolding all_words
closed_not Unreadable [] ws before after xs m f h eq = absurd h
closed_not Unreadable (b ∷ w) ws before after xs m f h eq = sym eq ∙ ap (λ o. prefixed xs (bind o (λ x. bind (all_words ws) (λ ys. Some (x ∷ ys))))) h
closed_not OutOfMemory w ws before after xs m f h eq = tt

pub no_words : (xs : List Word) → prefixed xs (all_words []) ≡ Some xs
unfolding all_words
no_words xs = nothing_more xs

-- the words among parts: those that have any bytes
abbrev pub closes : List (List ℕ) → List (List ℕ)
closes [] = []
closes (w ∷ ws) = closed w (closes ws)

-- a part of a word before what begins with its rest
abbrev onto_word : List ℕ → List (List ℕ) → List (List ℕ)
onto_word w [] = []
onto_word w (part ∷ parts) = (w ++ part) ∷ parts

onto_none : (parts : List (List ℕ)) → onto_word [] parts ≡ parts
onto_none [] = refl
onto_none (part ∷ parts) = refl

byte_onto : (w : List ℕ) (b : ℕ) (parts : List (List ℕ)) → 0 < length parts → closes (onto_word (w ++ (b ∷ [])) parts) ≡ closes (onto_word w (onto_first b parts))
byte_onto w b [] h = absurd (omega arith)
byte_onto w b (part ∷ parts) h = ap (λ v. closed v (closes parts)) (append_assoc w (b ∷ []) part)

parts_of : (t : Bool) (w : List ℕ) (b : ℕ) (bs : List ℕ) → ((v : List ℕ) → cut v bs ≡ closes (onto_word v (slice_split separates bs))) → cond t (closed w (cut [] bs)) (cut (w ++ (b ∷ [])) bs) ≡ closes (onto_word w (cond t ([] ∷ slice_split separates bs) (onto_first b (slice_split separates bs))))
parts_of true w b bs h =
    ap (closed w) (h [] ∙ ap closes (onto_none (slice_split separates bs))) ∙ ap (λ v. closed v (closes (slice_split separates bs))) (sym (append-nil w))
parts_of false w b bs h = h (w ++ (b ∷ [])) ∙ byte_onto w b (slice_split separates bs) (omega (arith, length-slice_split separates bs))

-- words are cut where the text is split
cut_parts : (w bs : List ℕ) → cut w bs ≡ closes (onto_word w (slice_split separates bs))
unfolding cut
cut_parts w [] = ap (λ v. closed v []) (sym (append-nil w))
cut_parts w (b ∷ bs) = parts_of (separates b) w b bs (λ v. cut_parts v bs)

pub cut_is_split : (text : List ℕ) → closes (slice_split separates text) ≡ cut [] text
cut_is_split text = ap closes (sym (onto_none (slice_split separates text))) ∙ sym (cut_parts [] text)

-- Below, part i is the next, and m is what the whole text means.
module _ (parts : List (List ℕ)) (i : ℕ) (xs : List Word) (m : Option (List Word)) (part : List ℕ) (next : (i < length parts) × (part ≡ get_or parts i part)) (left : prefixed xs (all_words (closes (drop i parts))) ≡ m) where
  at_part : prefixed xs (all_words (closed part (closes (drop (i + 1) parts)))) ≡ m
  at_part = sym (at_drop_more (λ ps. prefixed xs (all_words (closes ps))) parts i part next.0 ∙ ap (λ p. prefixed xs (all_words (closed p (closes (drop (i + 1) parts))))) (sym next.1)) ∙ left

  pub part_ends : (ys : List Word) → Closes (Ok tt) part xs ys → prefixed ys (all_words (closes (drop (i + 1) parts))) ≡ m
  part_ends ys h = sym (closed_ok part (closes (drop (i + 1) parts)) xs ys h) ∙ at_part

  pub part_fails : (fault : NotUnderstood) (ys : List Word) {X : Type 0} (f : X → List Word) → Closes (Err fault) part xs ys → Reads (Err fault) m f
  part_fails fault ys f h = closed_not fault part (closes (drop (i + 1) parts)) xs ys xs m f h at_part

pub parts_end : (parts : List (List ℕ)) (i : ℕ) (xs : List Word) (m : Option (List Word)) → length parts ≤ i → prefixed xs (all_words (closes (drop i parts))) ≡ m → m ≡ Some xs
parts_end parts i xs m past left = sym left ∙ at_drop_all (λ ps. prefixed xs (all_words (closes ps))) parts i past ∙ no_words xs
