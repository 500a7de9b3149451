-- What was read so far, before what is still to be read; and what is handed on where reading is given up.
use Rattle.std.proofs.Common.{◌≡◌, List, [], ◌∷◌, ◌++◌, IsErrAnd, Ok, Err, Result, sym, refl, ap, ◌∙◌, append_assoc, append-nil}
use Rattle.std.proofs.lemmas.Result.{err_from_is_err_and}
use Rattle.entries.specs.declared.fault.Fault.{Fault}
use Rattle.entries.specs.declared.fault.ReadError.{ReadError}
use Rattle.entries.specs.declared.fault.ReadError.TheVariants.{Wrong, OutOfMemory}
use Rattle.entries.specs.Reading.{Reads}
use Rattle.entries.specs.Words.{then}

-- xs stand before what is still to be read
abbrev pub prefixed : {A : Type 0} → List A → Result (List A) Fault → Result (List A) Fault
prefixed xs o = then o (λ ys. Ok (xs ++ ys))

pub one_before : {A : Type 0} (xs : List A) (x : A) (o : Result (List A) Fault) → prefixed xs (then o (λ ys. Ok (x ∷ ys))) ≡ prefixed (xs ++ (x ∷ [])) o
one_before xs x (Err e) = refl
one_before xs x (Ok ys) = ap Ok (sym (append_assoc xs (x ∷ []) ys))

pub nothing_more : {A : Type 0} (xs : List A) → prefixed xs (Ok []) ≡ Ok xs
nothing_more xs = ap Ok (append-nil xs)

pub none_before : {A : Type 0} (o : Result (List A) Fault) → prefixed [] o ≡ o
none_before (Err e) = refl
none_before (Ok ys) = refl

-- what a `?` returns where the error is of the function's own kind
pub handed_on : {X Y : Type 0} (r : Result X ReadError) (e : ReadError) (m : Result Y Fault) (f : X → Y) → IsErrAnd r (λ y. y ≡ e) → Reads {X = X} (Err e) m f → Reads r m f
handed_on r e m f h p = let q = err_from_is_err_and r h in rw (q.1, q.2) p

-- where a part is wrong, so is what would follow from it
pub part_fails : {X Y Z W : Type 0} {all : Result Z Fault} (e : ReadError) (o : Result Y Fault) (f : X → Y) (k : Y → Result Z Fault) (g : W → Z) → all ≡ then o k → Reads {X = X} (Err e) o f → Reads {X = W} (Err e) all g
part_fails (Wrong fault) o f k g split h = split ∙ ap (λ p. then p k) h
part_fails OutOfMemory o f k g split h = tt
