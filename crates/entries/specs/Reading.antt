-- What reading gives: what is meant, or what is wrong; for want of memory it may be given up.
use Rattle.std.specs.Prelude.{◌≡◌, ℕ, List, [], ◌∷◌, ◌++◌, Some, None, Ok, Err, Option, Result}
use Rattle.entries.specs.declared.fault.Fault.{Fault}
use Rattle.entries.specs.declared.fault.ReadError.{ReadError}
use Rattle.entries.specs.declared.fault.ReadError.TheVariants.{Wrong, OutOfMemory}
use Rattle.entries.specs.declared.mark.Mark.{Mark}
use Rattle.entries.specs.Words.{word}

-- m is what is meant, and f tells what a value says
abbrev pub Reads : {X Y : Type 0} → Result X ReadError → Result Y Fault → (X → Y) → Type 0
Reads (Ok x) m f = m ≡ Ok (f x)
Reads (Err (Wrong fault)) m f = m ≡ Err fault
Reads (Err OutOfMemory) m f = Unit {0}

-- the word w, if it has any bytes, comes behind the marks that were read before
abbrev pub Closes : Result (Unit {0}) ReadError → List ℕ → List Mark → List Mark → Type 0
Closes (Ok u) [] before after = after ≡ before
Closes (Ok u) (b ∷ w) before after = (m : Mark) × (word (b ∷ w) ≡ Ok m) × (after ≡ before ++ (m ∷ []))
Closes (Err (Wrong fault)) [] before after = ⊥
Closes (Err (Wrong fault)) (b ∷ w) before after = word (b ∷ w) ≡ Err fault
Closes (Err OutOfMemory) w before after = Unit {0}

-- and so does a sign
abbrev pub Signs : Result (Unit {0}) ReadError → Option Mark → List Mark → List Mark → Type 0
Signs (Ok u) None before after = after ≡ before
Signs (Ok u) (Some m) before after = after ≡ before ++ (m ∷ [])
Signs (Err (Wrong fault)) s before after = ⊥
Signs (Err OutOfMemory) s before after = Unit {0}
