-- What reading gives: what the line means, or that it means nothing; for want of memory it may be given up.
use Rattle.std.specs.Prelude.{◌≡◌, ℕ, List, [], ◌∷◌, ◌++◌, Some, None, Ok, Err, Option, Result}
use Rattle.phrase.specs.declared.fault.NotUnderstood.{NotUnderstood}
use Rattle.phrase.specs.declared.fault.NotUnderstood.TheVariants.{Unreadable, OutOfMemory}
use Rattle.phrase.specs.declared.word.Word.{Word}
use Rattle.phrase.specs.Words.{word}

-- m is what is meant, and f tells what a value says
abbrev pub Reads : {X Y : Type 0} → Result X NotUnderstood → Option Y → (X → Y) → Type 0
Reads (Ok x) m f = m ≡ Some (f x)
Reads (Err Unreadable) m f = m ≡ None
Reads (Err OutOfMemory) m f = Unit {0}

-- the word w, if it has any bytes, comes behind the words that were read before
abbrev pub Closes : Result (Unit {0}) NotUnderstood → List ℕ → List Word → List Word → Type 0
Closes (Ok u) [] before after = after ≡ before
Closes (Ok u) (b ∷ w) before after = (x : Word) × (word (b ∷ w) ≡ Some x) × (after ≡ before ++ (x ∷ []))
Closes (Err Unreadable) [] before after = ⊥
Closes (Err Unreadable) (b ∷ w) before after = word (b ∷ w) ≡ None
Closes (Err OutOfMemory) w before after = Unit {0}
