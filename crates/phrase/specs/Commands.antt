-- A command as it is meant.
use Rattle.std.specs.Prelude.{ℕ, List, vec_items}
use Rattle.phrase.specs.declared.command.Command.{Command}
use Rattle.phrase.specs.declared.command.Command.TheVariants.{Put, Drop, AtPoint, HowLie, AllThatLie, AreaOf, Help, Quit, Nothing}

pub data Said : Type 0 where
  put : ℕ → List ℕ → Said
  drops : ℕ → Said
  at_point : ℕ → ℕ → ℕ → Said
  how_lie : ℕ → ℕ → Said
  all_that_lie : ℕ → Said
  area_of : ℕ → Said
  help : Said
  quit : Said
  nothing : Said

-- what a command says: of the row, the numbers in it
abbrev pub said : Command → Said
said (Put number row) = put number (vec_items row)
said (Drop number) = drops number
said (AtPoint p) = at_point p.a p.b p.w
said (HowLie first second) = how_lie first second
said (AllThatLie number) = all_that_lie number
said (AreaOf number) = area_of number
said Help = help
said Quit = quit
said Nothing = nothing
