-- What was read so far, before what is still to be read; and what is handed on where reading is given up.
use Rattle.std.proofs.Common.{◌≡◌, List, [], ◌∷◌, ◌++◌, IsErrAnd, Some, None, Err, Option, Result, sym, refl, ap, append_assoc, append-nil}
use Rattle.std.proofs.lemmas.Result.{err_from_is_err_and}
use Rattle.phrase.specs.declared.fault.NotUnderstood.{NotUnderstood}
use Rattle.phrase.specs.declared.fault.NotUnderstood.TheVariants.{Unreadable, OutOfMemory}
use Rattle.phrase.specs.Numbers.{bind}
use Rattle.phrase.specs.Reading.{Reads}

-- xs stand before what is still to be read
abbrev pub prefixed : {A : Type 0} → List A → Option (List A) → Option (List A)
prefixed xs o = bind o (λ ys. Some (xs ++ ys))

pub one_before : {A : Type 0} (xs : List A) (x : A) (o : Option (List A)) → prefixed xs (bind o (λ ys. Some (x ∷ ys))) ≡ prefixed (xs ++ (x ∷ [])) o
one_before xs x None = refl
one_before xs x (Some ys) = ap Some (sym (append_assoc xs (x ∷ []) ys))

pub nothing_more : {A : Type 0} (xs : List A) → prefixed xs (Some []) ≡ Some xs
nothing_more xs = ap Some (append-nil xs)

pub none_before : {A : Type 0} (o : Option (List A)) → prefixed [] o ≡ o
none_before None = refl
none_before (Some ys) = refl

-- what a `?` returns where the error is of the function's own kind
pub handed_on : {X Y : Type 0} (r : Result X NotUnderstood) (e : NotUnderstood) (m : Option Y) (f : X → Y) → IsErrAnd r (λ y. y ≡ e) → Reads {X = X} (Err e) m f → Reads r m f
handed_on r e m f h p = let q = err_from_is_err_and r h in rw (q.1, q.2) p

-- where a part is not read, nor is what would follow from it
pub part_fails : {X Y Z W : Type 0} (e : NotUnderstood) (o : Option Y) (f : X → Y) (k : Y → Option Z) (g : W → Z) → Reads {X = X} (Err e) o f → Reads {X = W} (Err e) (bind o k) g
part_fails Unreadable o f k g h = ap (λ p. bind p k) h
part_fails OutOfMemory o f k g h = tt
