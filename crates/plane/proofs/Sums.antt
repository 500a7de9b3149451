-- Sums: of a number for each element of a list, and of a number for each number below a bound.
use Rattle.std.proofs.Common.{◌≡◌, ℕ, zero, suc, ◌+◌, ◌-◌, ◌*◌, ◌<◌, ◌≤◌, List, [], ◌∷◌, ◌++◌, sym, refl, ap, ◌∙◌, ap₂, inl, inr, add-zero, add-suc, add-sub_of_le, arith}
use Rattle.plane.specs.Lists.{added_up}
use Rattle.plane.specs.Sums.{sum_below}
use Rattle.plane.proofs.Lists.{In}

-- OVER A LIST
-- one list behind another
pub added_up_append : {A : Type 0} (f : A → ℕ) (xs ys : List A) → added_up f (xs ++ ys) ≡ added_up f xs + added_up f ys
unfolding added_up
added_up_append f [] ys = omega arith
added_up_append f (x ∷ xs) ys = let r = added_up_append f xs ys in omega arith

-- the order of the two lists does not matter
pub added_up_turned : {A : Type 0} (f : A → ℕ) (xs ys : List A) → added_up f (xs ++ ys) ≡ added_up f (ys ++ xs)
added_up_turned f xs ys = let l = added_up_append f xs ys in let r = added_up_append f ys xs in omega arith

-- the same number for each element
pub added_up_in : {A : Type 0} (f g : A → ℕ) (xs : List A) → ((x : A) → In x xs → f x ≡ g x) → added_up f xs ≡ added_up g xs
unfolding added_up
added_up_in f g [] h = refl
added_up_in f g (x ∷ xs) h = ap₂ ◌+◌ (h x (inl refl)) (added_up_in f g xs (λ y m. h y (inr m)))

-- two numbers for each element add up by themselves
pub added_up_add : {A : Type 0} (f g : A → ℕ) (xs : List A) → added_up (λ x. f x + g x) xs ≡ added_up f xs + added_up g xs
unfolding added_up
added_up_add f g [] = refl
added_up_add f g (x ∷ xs) = let r = added_up_add f g xs in omega arith

-- a common factor
pub added_up_times : {A : Type 0} (n : ℕ) (f : A → ℕ) (xs : List A) → added_up (λ x. n * f x) xs ≡ n * added_up f xs
unfolding added_up
added_up_times n f [] = omega arith
added_up_times n f (x ∷ xs) = let r = added_up_times n f xs in omega arith

-- nothing for each element is nothing in all
pub added_up_zero : {A : Type 0} (xs : List A) → added_up (λ (x : A). 0) xs ≡ 0
unfolding added_up
added_up_zero [] = refl
added_up_zero (x ∷ xs) = ap (λ n. 0 + n) (added_up_zero xs)

-- BELOW A BOUND
-- the same number at each place below the bound
pub sum_below_same : (n : ℕ) (f g : ℕ → ℕ) → ((i : ℕ) → i < n → f i ≡ g i) → sum_below n f ≡ sum_below n g
unfolding sum_below
sum_below_same zero f g h = refl
sum_below_same (suc n) f g h = ap₂ ◌+◌ (sum_below_same n f g (λ i k. h i (omega arith))) (h n (omega arith))

-- no more at each place is no more in all
pub sum_below_le : (n : ℕ) (f g : ℕ → ℕ) → ((i : ℕ) → i < n → f i ≤ g i) → sum_below n f ≤ sum_below n g
unfolding sum_below
sum_below_le zero f g h = omega arith
sum_below_le (suc n) f g h = omega (arith, sum_below_le n f g (λ i k. h i (omega arith)), h n (omega arith))

-- two numbers at each place add up by themselves
pub sum_below_add : (n : ℕ) (f g : ℕ → ℕ) → sum_below n (λ i. f i + g i) ≡ sum_below n f + sum_below n g
unfolding sum_below
sum_below_add zero f g = refl
sum_below_add (suc n) f g = let r = sum_below_add n f g in omega arith

-- nothing at each place is nothing in all
pub sum_below_zero : (n : ℕ) → sum_below n (λ i. 0) ≡ 0
unfolding sum_below
sum_below_zero zero = refl
sum_below_zero (suc n) = let r = sum_below_zero n in omega arith

-- one at each place counts the places
pub sum_below_ones : (n : ℕ) → sum_below n (λ i. 1) ≡ n
unfolding sum_below
sum_below_ones zero = refl
sum_below_ones (suc n) = let r = sum_below_ones n in omega arith

-- a common factor
pub sum_below_times : (m n : ℕ) (f : ℕ → ℕ) → sum_below n (λ i. m * f i) ≡ m * sum_below n f
unfolding sum_below
sum_below_times m zero f = omega arith
sum_below_times m (suc n) f = let r = sum_below_times m n f in omega arith

-- first those below m, then the n after them
pub sum_below_split : (m n : ℕ) (f : ℕ → ℕ) → sum_below (m + n) f ≡ sum_below m f + sum_below n (λ i. f (m + i))
unfolding sum_below
sum_below_split m zero f = rw (add-zero m) (omega arith)
sum_below_split m (suc n) f = rw (add-suc m n) (let r = sum_below_split m n f in omega arith)

-- where f is 0 but for the numbers from low on, size of them, only those count
pub sum_below_window : (low size n : ℕ) (f g : ℕ → ℕ) → low + size ≤ n → ((k : ℕ) → k < low → f k ≡ 0) → ((k : ℕ) → low + size ≤ k → f k ≡ 0) →
    ((i : ℕ) → i < size → f (low + i) ≡ g i) → sum_below n f ≡ sum_below size g
sum_below_window low size n f g fits before behind here =
    ap (λ m. sum_below m f) (sym (add-sub_of_le fits))
    ∙ sum_below_split (low + size) (n - (low + size)) f
    ∙ ap₂ ◌+◌ (sum_below_split low size f ∙ ap₂ ◌+◌ (sum_below_same low f (λ k. 0) before ∙ sum_below_zero low)
    (sum_below_same size (λ i. f (low + i)) g here))
    (sum_below_same (n - (low + size)) (λ i. f (low + size + i)) (λ i. 0) (λ i l. behind (low + size + i) (omega arith)) ∙ sum_below_zero (n - (low + size)))
    ∙ between_zeros (sum_below size g)
  where
    between_zeros : (s : ℕ) → 0 + s + 0 ≡ s
    between_zeros s = omega arith

-- a sum for each element, added up, is the sum of what the elements add up to at each place
pub added_up_below : {A : Type 0} (n : ℕ) (f : A → ℕ → ℕ) (xs : List A) →
    added_up (λ x. sum_below n (f x)) xs ≡ sum_below n (λ i. added_up (λ x. f x i) xs)
unfolding added_up
added_up_below n f [] = sym (sum_below_zero n)
added_up_below n f (x ∷ xs) = ap (λ r. sum_below n (f x) + r) (added_up_below n f xs) ∙ sym (sum_below_add n (f x) (λ i. added_up (λ y. f y i) xs))
