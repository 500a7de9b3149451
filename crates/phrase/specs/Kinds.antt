-- Which phrase a list of words begins with.
use Rattle.std.specs.Prelude.{ℕ, Bool, true, false, cond, ◌&&◌, List, [], ◌∷◌, ◌==◌}
use Rattle.phrase.specs.declared.word.Name.{Name}
use Rattle.phrase.specs.declared.word.Name.TheVariants.{Put, Drop, At, Point, How, Lie, All, That, On, Area, Of, Help, Quit}
use Rattle.phrase.specs.declared.word.Word.{Word}
use Rattle.phrase.specs.declared.word.Word.TheVariants.{Named, Whole, Fraction}

-- the kinds of commands, each by its phrase; or none
pub data Kind : Type 0 where
  puts : Kind
  drops : Kind
  at_point : Kind
  how_lie : Kind
  all_that_lie : Kind
  area_of : Kind
  helps : Kind
  quits : Kind
  other : Kind

-- the place of a name in the list of names
abbrev pub rank : Name → ℕ
rank Put = 0
rank Drop = 1
rank At = 2
rank Point = 3
rank How = 4
rank Lie = 5
rank All = 6
rank That = 7
rank On = 8
rank Area = 9
rank Of = 10
rank Help = 11
rank Quit = 12

abbrev pub is_name : Name → Word → Bool
is_name n (Named m) = rank n == rank m
is_name n (Whole k) = false
is_name n (Fraction over under) = false

-- whether the first words are these names
unfoldable pub begins : List Name → List Word → Bool
begins [] ws = true
begins (n ∷ ns) [] = false
begins (n ∷ ns) (w ∷ ws) = is_name n w && begins ns ws

-- k if the words begin so, or else another
abbrev pub kind_or : Kind → List Name → List Word → Kind → Kind
kind_or k ns ws rest = cond (begins ns ws) k rest

abbrev pub kind : List Word → Kind
kind ws =
    kind_or puts (Put ∷ []) ws
    (kind_or drops (Drop ∷ []) ws
    (kind_or at_point (At ∷ Point ∷ []) ws
    (kind_or how_lie (How ∷ Lie ∷ []) ws
    (kind_or all_that_lie (All ∷ That ∷ Lie ∷ On ∷ []) ws
    (kind_or area_of (Area ∷ Of ∷ []) ws (kind_or helps (Help ∷ []) ws (kind_or quits (Quit ∷ []) ws other)))))))
