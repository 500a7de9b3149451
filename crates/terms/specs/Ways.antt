-- The numbers of the ways in which two grounds lie. Assumes nothing: these are definitions.
use Rattle.std.specs.Prelude.{◌≡◌, ◌≤◌, ℕ, Ok, Err, Result}
use Rattle.terms.specs.declared.way.Way.{Way}
use Rattle.terms.specs.declared.way.Way.TheVariants.{Apart, Touch, Within, Around, Same, Over}
use Rattle.terms.specs.declared.way.NoWay.{NoWay}

abbrev pub way_number : Way → ℕ
way_number Apart = 0
way_number Touch = 1
way_number Within = 2
way_number Around = 3
way_number Same = 4
way_number Over = 5

-- a number as a way: the way that has it, or none where it is 6 or more
abbrev pub NumbersWay : ℕ → Result Way NoWay → Type 0
NumbersWay n (Ok w) = way_number w ≡ n
NumbersWay n (Err e) = 6 ≤ n
