-- Lists: what a test says of some or of every element, of the elements that pass it, and of a list of images.
use Rattle.std.proofs.Common.{◌≡◌, ℕ, suc, ◌≤◌, Bool, true, false, not, ◌&&◌, ◌⊎◌, List, [], ◌∷◌, ◌++◌, length, sym, refl, ap, ◌∙◌, subst, inl, inr, ⊎_elim, le_trans, le_of_lt}
use Rattle.std.proofs.lemmas.Bool.{and_parts, and_from, cases_Bool, cases_lt, false≢true}
use Rattle.plane.specs.Lists.{or, every, any, those, each}
use Rattle.plane.proofs.Booleans.{or_assoc, or_swap, or_left, or_right, or_from, or_cases, and_assoc, and_swap, not_and, not_or, not_both, contrapose, pick_under}

-- x is an element of the list
abbrev pub In : {A : Type 0} → A → List A → Type 0
In x [] = ⊥
In x (y ∷ ys) = (x ≡ y) ⊎ In x ys

-- SOME ELEMENT PASSES
-- an element that passes
pub any_at : {A : Type 0} (f : A → Bool) (x : A) (xs : List A) → In x xs → f x ≡ true → any f xs ≡ true
unfolding any
any_at f x [] m h = absurd m
any_at f x (y ∷ ys) (inl e) h = or_left (f y) (any f ys) (ap f (sym e) ∙ h)
any_at f x (y ∷ ys) (inr m) h = or_right (f y) (any f ys) (any_at f x ys m h)

-- where none passes, no element does
pub any_false_at : {A : Type 0} (f : A → Bool) (x : A) (xs : List A) → In x xs → any f xs ≡ false → f x ≡ false
any_false_at f x xs m h = contrapose (f x) (any f xs) (any_at f x xs m) h

-- where no element passes, none does
pub any_false_from : {A : Type 0} (f : A → Bool) (xs : List A) → ((x : A) → In x xs → f x ≡ false) → any f xs ≡ false
unfolding any
any_false_from f [] h = refl
any_false_from f (x ∷ xs) h = or_from (f x) (any f xs) (h x (inl refl)) (any_false_from f xs (λ y m. h y (inr m)))

-- where some passes, there is one
pub any_one : {A : Type 0} (f : A → Bool) (xs : List A) → any f xs ≡ true → (x : A) × In x xs × (f x ≡ true)
unfolding any
any_one f [] h = absurd (false≢true h)
any_one {A} f (x ∷ xs) h = ⊎_elim (λ e. (x, inl refl, e)) (λ e. further (any_one f xs e)) (or_cases (f x) (any f xs) h)
  where
    further : (y : A) × In y xs × (f y ≡ true) → (y : A) × In y (x ∷ xs) × (f y ≡ true)
    further w = (w.0, inr w.1, w.2)

-- EVERY ELEMENT PASSES
pub every_at : {A : Type 0} (f : A → Bool) (x : A) (xs : List A) → In x xs → every f xs ≡ true → f x ≡ true
unfolding every
every_at f x [] m h = absurd m
every_at f x (y ∷ ys) (inl e) h = ap f e ∙ (and_parts (f y) (every f ys) h).0
every_at f x (y ∷ ys) (inr m) h = every_at f x ys m (and_parts (f y) (every f ys) h).1

pub every_from : {A : Type 0} (f : A → Bool) (xs : List A) → ((x : A) → In x xs → f x ≡ true) → every f xs ≡ true
unfolding every
every_from f [] h = refl
every_from f (x ∷ xs) h = and_from (f x) (every f xs) (h x (inl refl)) (every_from f xs (λ y m. h y (inr m)))

-- not every element passes if some fails
pub not_every : {A : Type 0} (f : A → Bool) (xs : List A) → not (every f xs) ≡ any (λ x. not (f x)) xs
unfolding every any
not_every f [] = refl
not_every f (x ∷ xs) = not_and (f x) (every f xs) ∙ ap (or (not (f x))) (not_every f xs)

-- no element passes if every one fails
pub not_any : {A : Type 0} (f : A → Bool) (xs : List A) → not (any f xs) ≡ every (λ x. not (f x)) xs
unfolding every any
not_any f [] = refl
not_any f (x ∷ xs) = not_or (f x) (any f xs) ∙ ap (◌&&◌ (not (f x))) (not_any f xs)

-- ANOTHER TEST: the same on each element of the list
pub any_in : {A : Type 0} (f g : A → Bool) (xs : List A) → ((x : A) → In x xs → f x ≡ g x) → any f xs ≡ any g xs
unfolding any
any_in f g [] h = refl
any_in f g (x ∷ xs) h = let e = h x (inl refl) in let r = any_in f g xs (λ y m. h y (inr m)) in cc

pub every_in : {A : Type 0} (f g : A → Bool) (xs : List A) → ((x : A) → In x xs → f x ≡ g x) → every f xs ≡ every g xs
unfolding every
every_in f g [] h = refl
every_in f g (x ∷ xs) h = let e = h x (inl refl) in let r = every_in f g xs (λ y m. h y (inr m)) in cc

pub those_in : {A : Type 0} (f g : A → Bool) (xs : List A) → ((x : A) → In x xs → f x ≡ g x) → those f xs ≡ those g xs
unfolding those
those_in f g [] h = refl
those_in f g (x ∷ xs) h = let e = h x (inl refl) in let r = those_in f g xs (λ y m. h y (inr m)) in cc

-- the same everywhere
pub any_same : {A : Type 0} (f g : A → Bool) (xs : List A) → ((x : A) → f x ≡ g x) → any f xs ≡ any g xs
any_same f g xs h = any_in f g xs (λ x _. h x)

pub every_same : {A : Type 0} (f g : A → Bool) (xs : List A) → ((x : A) → f x ≡ g x) → every f xs ≡ every g xs
every_same f g xs h = every_in f g xs (λ x _. h x)

pub those_same : {A : Type 0} (f g : A → Bool) (xs : List A) → ((x : A) → f x ≡ g x) → those f xs ≡ those g xs
those_same f g xs h = those_in f g xs (λ x _. h x)

-- the same where a third test fails, and that fails on the whole list
pub any_where : {A : Type 0} (t f g : A → Bool) (xs : List A) → ((x : A) → t x ≡ false → f x ≡ g x) → any t xs ≡ false → any f xs ≡ any g xs
any_where t f g xs h k = any_in f g xs (λ x m. h x (any_false_at t x xs m k))

pub those_where : {A : Type 0} (t f g : A → Bool) (xs : List A) → ((x : A) → t x ≡ false → f x ≡ g x) → any t xs ≡ false → those f xs ≡ those g xs
those_where t f g xs h k = those_in f g xs (λ x m. h x (any_false_at t x xs m k))

-- a weaker test passes where a stronger one does
pub any_weaker : {A : Type 0} (f g : A → Bool) (xs : List A) → ((x : A) → f x ≡ true → g x ≡ true) → any f xs ≡ true → any g xs ≡ true
any_weaker f g xs h k = let w = any_one f xs k in any_at g w.0 xs w.1 (h w.0 w.2)

pub any_stronger : {A : Type 0} (f g : A → Bool) (xs : List A) → ((x : A) → f x ≡ true → g x ≡ true) → any g xs ≡ false → any f xs ≡ false
any_stronger f g xs h k = contrapose (any f xs) (any g xs) (any_weaker f g xs h) k

pub every_weaker : {A : Type 0} (f g : A → Bool) (xs : List A) → ((x : A) → f x ≡ true → g x ≡ true) → every f xs ≡ true → every g xs ≡ true
every_weaker f g xs h k = every_from g xs (λ x m. h x (every_at f x xs m k))

-- TWO TESTS
pub any_or : {A : Type 0} (f g : A → Bool) (xs : List A) → any (λ x. or (f x) (g x)) xs ≡ or (any f xs) (any g xs)
unfolding any
any_or f g [] = refl
any_or f g (x ∷ xs) = ap (or (or (f x) (g x))) (any_or f g xs) ∙ or_swap (f x) (g x) (any f xs) (any g xs)

pub every_and : {A : Type 0} (f g : A → Bool) (xs : List A) → every (λ x. f x && g x) xs ≡ (every f xs && every g xs)
unfolding every
every_and f g [] = refl
every_and f g (x ∷ xs) = ap (◌&&◌ (f x && g x)) (every_and f g xs) ∙ and_swap (f x) (g x) (every f xs) (every g xs)

pub any_never : {A : Type 0} (xs : List A) → any (λ x. false) xs ≡ false
any_never xs = any_false_from (λ x. false) xs (λ _ _. refl)

pub every_always : {A : Type 0} (xs : List A) → every (λ x. true) xs ≡ true
every_always xs = every_from (λ x. true) xs (λ _ _. refl)

-- ONE LIST BEHIND ANOTHER
pub any_append : {A : Type 0} (f : A → Bool) (xs ys : List A) → any f (xs ++ ys) ≡ or (any f xs) (any f ys)
unfolding any
any_append f [] ys = refl
any_append f (x ∷ xs) ys = ap (or (f x)) (any_append f xs ys) ∙ sym (or_assoc (f x) (any f xs) (any f ys))

pub every_append : {A : Type 0} (f : A → Bool) (xs ys : List A) → every f (xs ++ ys) ≡ (every f xs && every f ys)
unfolding every
every_append f [] ys = refl
every_append f (x ∷ xs) ys = ap (◌&&◌ (f x)) (every_append f xs ys) ∙ sym (and_assoc (f x) (every f xs) (every f ys))

pub those_append : {A : Type 0} (f : A → Bool) (xs ys : List A) → those f (xs ++ ys) ≡ those f xs ++ those f ys
unfolding those
those_append f [] ys = refl
those_append f (x ∷ xs) ys =
    let r = those_append f xs ys in
    let p = pick_under (λ zs. zs ++ those f ys) (f x) (x ∷ those f xs) (those f xs) in
    cc

pub each_append : {A B : Type 0} (g : A → B) (xs ys : List A) → each g (xs ++ ys) ≡ each g xs ++ each g ys
unfolding each
each_append g [] ys = refl
each_append g (x ∷ xs) ys = ap (◌∷◌ (g x)) (each_append g xs ys)

pub in_left : {A : Type 0} (x : A) (xs ys : List A) → In x xs → In x (xs ++ ys)
in_left x [] ys m = absurd m
in_left x (y ∷ xs) ys (inl e) = inl e
in_left x (y ∷ xs) ys (inr m) = inr (in_left x xs ys m)

pub in_right : {A : Type 0} (x : A) (xs ys : List A) → In x ys → In x (xs ++ ys)
in_right x [] ys m = m
in_right x (y ∷ xs) ys m = inr (in_right x xs ys m)

pub in_append : {A : Type 0} (x : A) (xs ys : List A) → In x (xs ++ ys) → In x xs ⊎ In x ys
in_append x [] ys m = inr m
in_append x (y ∷ xs) ys (inl e) = inl (inl e)
in_append x (y ∷ xs) ys (inr m) = ⊎_elim (λ l. inl (inr l)) (λ r. inr r) (in_append x xs ys m)

-- IMAGES
pub any_each : {A B : Type 0} (f : B → Bool) (g : A → B) (xs : List A) → any f (each g xs) ≡ any (λ x. f (g x)) xs
unfolding any each
any_each f g [] = refl
any_each f g (x ∷ xs) = ap (or (f (g x))) (any_each f g xs)

pub every_each : {A B : Type 0} (f : B → Bool) (g : A → B) (xs : List A) → every f (each g xs) ≡ every (λ x. f (g x)) xs
unfolding every each
every_each f g [] = refl
every_each f g (x ∷ xs) = ap (◌&&◌ (f (g x))) (every_each f g xs)

pub those_each : {A B : Type 0} (f : B → Bool) (g : A → B) (xs : List A) → those f (each g xs) ≡ each g (those (λ x. f (g x)) xs)
unfolding those each
those_each f g [] = refl
those_each f g (x ∷ xs) =
    let r = those_each f g xs in
    let p = pick_under (each g) (f (g x)) (x ∷ those (λ y. f (g y)) xs) (those (λ y. f (g y)) xs) in
    cc

pub length_each : {A B : Type 0} (g : A → B) (xs : List A) → length (each g xs) ≡ length xs
unfolding each
length_each g [] = refl
length_each g (x ∷ xs) = ap suc (length_each g xs)

pub each_each : {A B C : Type 0} (f : B → C) (g : A → B) (xs : List A) → each f (each g xs) ≡ each (λ x. f (g x)) xs
unfolding each
each_each f g [] = refl
each_each f g (x ∷ xs) = ap (◌∷◌ (f (g x))) (each_each f g xs)

pub each_same : {A B : Type 0} (f g : A → B) (xs : List A) → ((x : A) → f x ≡ g x) → each f xs ≡ each g xs
unfolding each
each_same f g [] h = refl
each_same f g (x ∷ xs) h = let e = h x in let r = each_same f g xs h in cc

pub in_each : {A B : Type 0} (g : A → B) (x : A) (xs : List A) → In x xs → In (g x) (each g xs)
unfolding each
in_each g x [] m = absurd m
in_each g x (y ∷ xs) (inl e) = inl (ap g e)
in_each g x (y ∷ xs) (inr m) = inr (in_each g x xs m)

-- an image is the image of an element
pub each_in : {A B : Type 0} (g : A → B) (y : B) (xs : List A) → In y (each g xs) → (x : A) × In x xs × (y ≡ g x)
unfolding each
each_in g y [] m = absurd m
each_in g y (x ∷ xs) (inl e) = (x, inl refl, e)
each_in {A} g y (x ∷ xs) (inr m) = further (each_in g y xs m)
  where
    further : (z : A) × In z xs × (y ≡ g z) → (z : A) × In z (x ∷ xs) × (y ≡ g z)
    further w = (w.0, inr w.1, w.2)

-- A BEST ELEMENT of those that pass, where of two elements one is always at least as good as the other
abbrev pub Best : {A : Type 0} → (A → A → Type 0) → (A → Bool) → List A → Type 0
Best {A} R f xs = (u : A) × In u xs × (f u ≡ true) × ((v : A) → In v xs → f v ≡ true → R v u)

module _ {A : Type 0} (R : A → A → Type 0) (total : (x y : A) → R x y ⊎ R y x) (trans : (x y z : A) → R x y → R y z → R x z) (f : A → Bool) where
  -- of the list, and of one element more
  best_or : (c : A) → f c ≡ true → (xs : List A) → (u : A) × ((u ≡ c) ⊎ In u xs) × (f u ≡ true) × ((v : A) → In v xs → f v ≡ true → R v u)
  best_or c pass [] = (c, inl refl, pass, λ v m. absurd m)
  best_or c pass (x ∷ xs) = more (best_or c pass xs)
    where
      Here : Type 0
      Here = (u : A) × ((u ≡ c) ⊎ In u (x ∷ xs)) × (f u ≡ true) × ((v : A) → In v (x ∷ xs) → f v ≡ true → R v u)

      more : (u : A) × ((u ≡ c) ⊎ In u xs) × (f u ≡ true) × ((v : A) → In v xs → f v ≡ true → R v u) → Here
      more (u, m, ok, best) =
          ⊎_elim (λ h. ⊎_elim (taken h) (λ k. kept (λ v d okv. subst (λ z. R z u) (sym d) k)) (total u x))
          (λ h. kept (λ v d okv. absurd (not_both (f x) (sym (ap f d) ∙ okv) h))) (cases_Bool (f x))
        where
          taken : f x ≡ true → R u x → Here
          taken h k = (x, inr (inl refl), h, λ v n okv. ⊎_elim (λ d. subst (λ z. R z x) (sym d) (itself x)) (λ o. trans v u x (best v o okv) k) n)
            where
              itself : (z : A) → R z z
              itself z = ⊎_elim (λ r. r) (λ r. r) (total z z)

          kept : ((v : A) → v ≡ x → f v ≡ true → R v u) → Here
          kept k = (u, ⊎_elim (λ d. inl d) (λ n. inr (inr n)) m, ok, λ v n okv. ⊎_elim (λ d. k v d okv) (λ o. best v o okv) n)

  pub best : (c : A) (xs : List A) → In c xs → f c ≡ true → Best R f xs
  best c xs i pass = let w = best_or c pass xs in (w.0, ⊎_elim (λ d. subst (λ z. In z xs) (sym d) i) (λ m. m) w.1, w.2, w.3)

-- by a number: one that no other exceeds, or one that exceeds no other
module _ {A : Type 0} (h : A → ℕ) (f : A → Bool) where
  either : (m n : ℕ) → (m ≤ n) ⊎ (n ≤ m)
  either m n = ⊎_elim (λ k. inl (le_of_lt k)) (λ k. inr k) (cases_lt m n)

  pub largest : (c : A) (xs : List A) → In c xs → f c ≡ true → Best (λ x y. h x ≤ h y) f xs
  largest = best (λ x y. h x ≤ h y) (λ x y. either (h x) (h y)) (λ x y z a b. le_trans a b) f

  pub smallest : (c : A) (xs : List A) → In c xs → f c ≡ true → Best (λ x y. h y ≤ h x) f xs
  smallest = best (λ x y. h y ≤ h x) (λ x y. either (h y) (h x)) (λ x y z a b. le_trans b a) f
