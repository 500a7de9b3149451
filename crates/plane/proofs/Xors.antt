-- Sums without carry: of how many elements a test holds, even or odd.
use Rattle.std.proofs.Common.{◌≡◌, ℕ, suc, ◌%◌, Bool, true, false, not, eqb, List, [], ◌∷◌, ◌++◌, length, sym, refl, ap, ◌∙◌, inl, inr, arith}
use Rattle.std.proofs.lemmas.Bool.Decides.{nat_tests}
use Rattle.plane.specs.Lists.{pick, any, those, each}
use Rattle.plane.specs.Parity.{xor, xors}
use Rattle.plane.proofs.Booleans.{xor_assoc, xor_swap, xor_comm, true_from, not_both}
use Rattle.plane.proofs.Lists.{In, any_false_at}

-- one more turns even into odd, and odd into even
pub odd_more : (n : ℕ) → eqb (suc n % 2) 1 ≡ not (eqb (n % 2) 1)
odd_more n = grind (arith, nat_tests)

odd_pick : {A : Type 0} (t : Bool) (x : A) (xs : List A) → eqb (length (pick t (x ∷ xs) xs) % 2) 1 ≡ xor t (eqb (length xs % 2) 1)
odd_pick true x xs = odd_more (length xs)
odd_pick false x xs = refl

-- the number of elements that pass is odd if the sum of their tests is
pub odd_those : {A : Type 0} (f : A → Bool) (xs : List A) → eqb (length (those f xs) % 2) 1 ≡ xors f xs
unfolding those xors
odd_those f [] = refl
odd_those f (x ∷ xs) = odd_pick (f x) x (those f xs) ∙ ap (xor (f x)) (odd_those f xs)

-- ANOTHER TEST: the same on each element of the list
pub xors_in : {A : Type 0} (f g : A → Bool) (xs : List A) → ((x : A) → In x xs → f x ≡ g x) → xors f xs ≡ xors g xs
unfolding xors
xors_in f g [] h = refl
xors_in f g (x ∷ xs) h = let e = h x (inl refl) in let r = xors_in f g xs (λ y m. h y (inr m)) in cc

-- the same everywhere
pub xors_same : {A : Type 0} (f g : A → Bool) (xs : List A) → ((x : A) → f x ≡ g x) → xors f xs ≡ xors g xs
xors_same f g xs h = xors_in f g xs (λ x _. h x)

-- the same where a third test fails, and that fails on the whole list
pub xors_where : {A : Type 0} (t f g : A → Bool) (xs : List A) → ((x : A) → t x ≡ false → f x ≡ g x) → any t xs ≡ false → xors f xs ≡ xors g xs
xors_where t f g xs h k = xors_in f g xs (λ x m. h x (any_false_at t x xs m k))

-- what fails everywhere has an even sum
pub xors_never : {A : Type 0} (xs : List A) → xors (λ x. false) xs ≡ false
unfolding xors
xors_never [] = refl
xors_never (x ∷ xs) = xors_never xs

pub xors_none : {A : Type 0} (f : A → Bool) (xs : List A) → any f xs ≡ false → xors f xs ≡ false
xors_none f xs h = xors_in f (λ x. false) xs (λ x m. any_false_at f x xs m h) ∙ xors_never xs

-- what has an odd sum holds somewhere
pub any_from_xors : {A : Type 0} (f : A → Bool) (xs : List A) → xors f xs ≡ true → any f xs ≡ true
any_from_xors f xs h = true_from (any f xs) (λ k. not_both (xors f xs) h (xors_none f xs k))

-- TWO TESTS: the sum of both is the sum of their sums
pub xors_xor : {A : Type 0} (f g : A → Bool) (xs : List A) → xors (λ x. xor (f x) (g x)) xs ≡ xor (xors f xs) (xors g xs)
unfolding xors
xors_xor f g [] = refl
xors_xor f g (x ∷ xs) = ap (xor (xor (f x) (g x))) (xors_xor f g xs) ∙ xor_swap (f x) (g x) (xors f xs) (xors g xs)

-- ONE LIST BEHIND ANOTHER
pub xors_append : {A : Type 0} (f : A → Bool) (xs ys : List A) → xors f (xs ++ ys) ≡ xor (xors f xs) (xors f ys)
unfolding xors
xors_append f [] ys = refl
xors_append f (x ∷ xs) ys = ap (xor (f x)) (xors_append f xs ys) ∙ sym (xor_assoc (f x) (xors f xs) (xors f ys))

-- the order of the two lists does not matter
pub xors_turned : {A : Type 0} (f : A → Bool) (xs ys : List A) → xors f (xs ++ ys) ≡ xors f (ys ++ xs)
xors_turned f xs ys = xors_append f xs ys ∙ xor_comm (xors f xs) (xors f ys) ∙ sym (xors_append f ys xs)

-- IMAGES
pub xors_each : {A B : Type 0} (f : B → Bool) (g : A → B) (xs : List A) → xors f (each g xs) ≡ xors (λ x. f (g x)) xs
unfolding xors each
xors_each f g [] = refl
xors_each f g (x ∷ xs) = ap (xor (f (g x))) (xors_each f g xs)
