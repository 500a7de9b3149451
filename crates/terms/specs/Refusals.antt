-- The numbers of the refusals. Assumes nothing: these are definitions.
use Rattle.std.specs.Prelude.{◌≡◌, ◌≢◌, ℕ, Ok, Err, Result}
use Rattle.terms.specs.declared.refusal.Refusal.{Refusal}
use Rattle.terms.specs.declared.refusal.Refusal.TheVariants.{OutOfRange, NotKnown, NotThere, Taken, NoGround, NoRoom}
use Rattle.terms.specs.declared.refusal.NoRefusal.{NoRefusal}

abbrev pub refusal_number : Refusal → ℕ
refusal_number OutOfRange = 1
refusal_number NotKnown = 2
refusal_number NotThere = 3
refusal_number Taken = 4
refusal_number NoGround = 5
refusal_number NoRoom = 7

-- a number as a refusal: the refusal that has it, or that number where no refusal has it
abbrev pub NumbersRefusal : ℕ → Result Refusal NoRefusal → Type 0
NumbersRefusal n (Ok why) = refusal_number why ≡ n
NumbersRefusal n (Err e) = (e.0 ≡ n) × ((why : Refusal) → refusal_number why ≢ n)
