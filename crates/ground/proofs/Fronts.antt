-- A list gone through one by one up to the first element that fails a test.
use Rattle.std.proofs.Common.{◌≡◌, ℕ, zero, suc, ◌+◌, ◌<◌, Bool, true, false, ◌&&◌, List, [], ◌∷◌, length, get_or, drop, Option, Some, None, MatchOption, sym, ap, ◌∙◌, add-zero, arith, length-drop}
use Rattle.std.proofs.lemmas.List.{get_or-drop, drop-drop}
use Rattle.std.specs.List.{AllWithin, HoldsAt}
use Rattle.std.proofs.lemmas.Bool.{and_left}

-- what is left of a list behind its first k elements
pub record LeftAt {A : Type 0} (xs : List A) (k : ℕ) (y : A) (ys : List A) : Type 0 where
  pub here : (d : A) → get_or xs k d ≡ y
  pub on : drop (k + 1) xs ≡ ys
  pub within : k < length xs

pub left_at : {A : Type 0} (xs : List A) (k : ℕ) (y : A) (ys : List A) → drop k xs ≡ y ∷ ys → LeftAt xs k y ys
left_at xs k y ys h =
    record {
      here = λ d. sym (rw add-zero at (get_or-drop k xs 0 d)) ∙ ap (λ zs. get_or zs 0 d) h;
      on = sym (drop-drop 1 k xs) ∙ ap (drop 1) h;
      within = let n : length (drop k xs) ≡ suc (length ys) = ap length h in omega (arith, length-drop k xs);
    }

-- the element at k is the first that fails
pub record FailsAt {A : Type 0} (good : A → Bool) (all : List A → Bool) (d : A) (xs : List A) (k : ℕ) : Type 0 where
  pub among : k < length xs
  pub fails : good (get_or xs k d) ≡ false
  pub before : (j : ℕ) → j < k → good (get_or xs j d) ≡ true
  pub tells : all xs ≡ false

-- what a search for it tells
abbrev pub Searched : {A : Type 0} → (A → Bool) → List A → Option ℕ → Type 0
Searched good xs r =
    MatchOption r (AllWithin (λ y. good y ≡ true) xs 0 (length xs)) (λ k. (k < length xs) × HoldsAt (λ y. good y ≡ false) xs k × AllWithin (λ y. good y ≡ true) xs 0 k)

module _ {A : Type 0} (good : A → Bool) (all : List A → Bool) (none : all [] ≡ true) (one_more : (x : A) (xs : List A) → all (x ∷ xs) ≡ (good x && all xs)) (d : A) where
  all_pass : (xs : List A) → ((k : ℕ) → k < length xs → good (get_or xs k d) ≡ true) → all xs ≡ true
  all_pass [] h = none
  all_pass (x ∷ xs) h = one_more x xs ∙ ap (λ t. t && all xs) (h 0 (omega arith)) ∙ all_pass xs (λ k l. h (suc k) (omega arith))

  one_fails : (xs : List A) (k : ℕ) → k < length xs → good (get_or xs k d) ≡ false → all xs ≡ false
  one_fails [] k l h = absurd (omega arith)
  one_fails (x ∷ xs) zero l h = one_more x xs ∙ and_left _ _ h
  one_fails (x ∷ xs) (suc k) l h = let e = one_fails xs k (omega arith) h in let m = one_more x xs in grind arith

  pub fails_first : (xs : List A) (r : Option ℕ) → Searched good xs r → MatchOption r (all xs ≡ true) (λ k. FailsAt good all d xs k)
  fails_first xs None h = all_pass xs (λ k l. h k d (omega arith) l)
  fails_first xs (Some k) (l, bad, ok) = record { among = l; fails = bad d; before = λ j b. ok j d (omega arith) b; tells = one_fails xs k l (bad d) }
