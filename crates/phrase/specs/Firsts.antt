-- The command of a list of words, told by its first word: the way in which the code finds it.
use Rattle.std.specs.Prelude.{cond, List, [], ◌∷◌, Some, None, Option, ◌==◌}
use Rattle.phrase.specs.declared.word.Name.{Name}
use Rattle.phrase.specs.declared.word.Name.TheVariants.{Put, Drop, At, Point, How, Lie, All, That, On, Area, Of, Help, Quit}
use Rattle.phrase.specs.declared.word.Word.{Word}
use Rattle.phrase.specs.declared.word.Word.TheVariants.{Named, Whole, Fraction}
use Rattle.phrase.specs.Commands.{Said, help, quit, nothing}
use Rattle.phrase.specs.Numbers.{bind}
use Rattle.phrase.specs.Kinds.{rank, is_name}
use Rattle.phrase.specs.Grammar.{put_words, drop_words, point_words, lie_words, all_lie_words, area_words, alone}

-- what stands behind the name n, if the words begin with it
abbrev pub behind : Name → List Word → Option (List Word)
behind n [] = None
behind n (w ∷ ws) = cond (is_name n w) (Some ws) None

-- what the words behind a name say, if it is not `put`
abbrev pub bare : Name → List Word → Option Said
bare Put ws = None
bare Drop ws = drop_words ws
bare At ws = bind (behind Point ws) point_words
bare Point ws = None
bare How ws = bind (behind Lie ws) lie_words
bare Lie ws = None
bare All ws = bind (behind That ws) (λ us. bind (behind Lie us) (λ vs. bind (behind On vs) all_lie_words))
bare That ws = None
bare On ws = None
bare Area ws = bind (behind Of ws) area_words
bare Of ws = None
bare Help ws = alone help ws
bare Quit ws = alone quit ws

-- what the words behind the first say
abbrev pub begun : Word → List Word → Option Said
begun (Named n) ws = cond (rank n == rank Put) (put_words ws) (bare n ws)
begun (Whole k) ws = None
begun (Fraction over under) ws = None

abbrev pub by_first : List Word → Option Said
by_first [] = Some nothing
by_first (w ∷ ws) = begun w ws
