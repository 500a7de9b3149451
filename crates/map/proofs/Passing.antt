-- Lists: the elements that pass a test, when every one does, and what another test says of them.
use Rattle.std.proofs.Common.{◌≡◌, Bool, true, ◌&&◌, List, [], ◌∷◌, refl, ap, ◌∙◌, arith}
use Rattle.std.proofs.lemmas.Bool.{and_parts, and_from}
use Rattle.plane.specs.Lists.{every, any, those}
use Rattle.plane.proofs.Booleans.{pick_both, pick_true}

-- where every element passes, all are left
pub those_all : {A : Type 0} (f : A → Bool) (xs : List A) → every f xs ≡ true → those f xs ≡ xs
unfolding every those
those_all f [] h = refl
those_all f (x ∷ xs) h =
    let p = and_parts (f x) (every f xs) h in
    pick_true (f x) (x ∷ those f xs) (those f xs) p.0 ∙ ap (◌∷◌ x) (those_all f xs p.1)

-- what every element passes, those pass that are left
pub every_those : {A : Type 0} (g f : A → Bool) (xs : List A) → every g xs ≡ true → every g (those f xs) ≡ true
unfolding every those
every_those g f [] h = refl
every_those g f (x ∷ xs) h =
    let p = and_parts (g x) (every g xs) h in
    let r = every_those g f xs p.1 in
    pick_both (λ ys. every g ys ≡ true) (f x) (x ∷ those f xs) (those f xs) (λ _. and_from (g x) (every g (those f xs)) p.0 r) (λ _. r)

-- some that is left passes if some element passes both tests
pub any_those : {A : Type 0} (f g : A → Bool) (xs : List A) → any g (those f xs) ≡ any (λ x. f x && g x) xs
unfolding those any
any_those f g [] = refl
any_those f g (x ∷ xs) = let r = any_those f g xs in grind arith
