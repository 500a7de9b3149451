-- A line up to its comment.
use Rattle.std.proofs.Common.{◌≡◌, ℕ, suc, ◌+◌, ◌<◌, ◌≤◌, Bool, true, false, not, cond, ◌&&◌, ◌||◌, eqb, ltb, List, [], ◌∷◌, length, get_or, take, position, Some, None, sym, refl, ap, ◌∙◌, arith, sub-one, one-add}
use Rattle.std.specs.List.{position_or_len}
use Rattle.std.proofs.lemmas.Bool.{ne_eqb, ltb-true, ltb-false}
use Rattle.phrase.specs.Lines.{without_last}
use Rattle.phrase.specs.Words.{plain}

-- the place of the first `#`, or the length
abbrev hash_place : List ℕ → ℕ
hash_place line = position_or_len (λ b. eqb b 35) line

before_or_on : (hash ends_too : Bool) (b k : ℕ) (bs : List ℕ) → cond (not hash) (1 + k) 0 < suc (length bs) → (0 < length bs → ends_too ≡ false) → (k < length bs → take k bs ≡ plain bs) → take (cond (not hash) (1 + k) 0) (b ∷ bs) ≡ cond (hash || ends_too) [] (b ∷ plain bs)
before_or_on true e b k bs h g inner = refl
before_or_on false e b k bs h g inner =
    let none : e ≡ false = g (omega arith) in
    rw (one-add, none) (ap (λ l. b ∷ l) (inner (omega arith)))

not_last : (cr : Bool) (n : ℕ) → 0 < n → (cr && eqb n 0) ≡ false
not_last true n h = ne_eqb n 0 (λ e. omega arith)
not_last false n h = refl

-- what stands before a `#` is read
plain_before : (line : List ℕ) → hash_place line < length line → take (hash_place line) line ≡ plain line
unfolding plain
plain_before [] h = absurd (omega arith)
plain_before (b ∷ bs) h = before_or_on (eqb b 35) (eqb b 13 && eqb (length bs) 0) b (hash_place bs) bs h (not_last (eqb b 13) (length bs)) (plain_before bs)

out_of_both : (t : Bool) (b : ℕ) (x y : List ℕ) → cond t (b ∷ x) (b ∷ y) ≡ b ∷ cond t x y
out_of_both true b x y = refl
out_of_both false b x y = refl

-- the last byte is the last of what follows
last_behind : (k b c : ℕ) (bs : List ℕ) → without_last k (b ∷ c ∷ bs) ≡ b ∷ without_last k (c ∷ bs)
last_behind k b c bs = simp sub-one (out_of_both (eqb (get_or (c ∷ bs) (length bs) 0) k) b (take (length bs) (c ∷ bs)) (c ∷ bs))

only : (hash cr : Bool) (b : ℕ) → 1 ≤ cond (not hash) (1 + 0) 0 → cond (hash || (cr && true)) [] (b ∷ []) ≡ cond cr [] (b ∷ [])
only true cr b h = absurd (omega arith)
only false true b h = refl
only false false b h = refl

first_of_more : (hash ends_too : Bool) (b n k : ℕ) (rest all : List ℕ) → suc n ≤ cond (not hash) (1 + k) 0 → ends_too ≡ false → (n ≤ k → rest ≡ all) → cond (hash || ends_too) [] (b ∷ rest) ≡ b ∷ all
first_of_more true e b n k rest all h g inner = absurd (omega arith)
first_of_more false e b n k rest all h g inner = rw g (ap (λ l. b ∷ l) (inner (omega arith)))

-- where there is none, all is read, but a carriage return at the end
plain_whole : (line : List ℕ) → length line ≤ hash_place line → plain line ≡ without_last 13 line
unfolding plain
plain_whole [] h = refl
plain_whole (b ∷ []) h = only (eqb b 35) (eqb b 13) b h
plain_whole (b ∷ c ∷ bs) h =
    first_of_more (eqb b 35) (eqb b 13 && eqb (suc (length bs)) 0) b (suc (length bs)) (hash_place (c ∷ bs)) (plain (c ∷ bs)) (without_last 13 (c ∷ bs)) h (not_last (eqb b 13) (suc (length bs)) (omega arith)) (plain_whole (c ∷ bs))
    ∙ sym (last_behind 13 b c bs)

some_place : (b : Bool) (k n : ℕ) → Some n ≡ cond b (Some k) None → (b ≡ true) × (k ≡ n)
some_place true k n h = (refl, cc)
some_place false k n h = cc

no_place : (b : Bool) (k : ℕ) → ◌≡◌ None (cond b (Some k) None) → b ≡ false
no_place true k h = cc
no_place false k h = refl

pub plain_to : (line : List ℕ) (n : ℕ) → Some n ≡ position (λ b. eqb b 35) line → take n line ≡ plain line
plain_to line n h =
    let at = some_place (ltb (hash_place line) (length line)) (hash_place line) n h in
    ap (λ k. take k line) (sym at.1) ∙ plain_before line (ltb-true _ _ at.0)

pub plain_all : (line : List ℕ) → ◌≡◌ None (position (λ b. eqb b 35) line) → without_last 13 line ≡ plain line
plain_all line h =
    sym (plain_whole line (ltb-false _ _ (no_place (ltb (hash_place line) (length line)) (hash_place line) h)))
