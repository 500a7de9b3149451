-- Which command a list of words is.
use Rattle.std.specs.Prelude.{ℕ, ◌%◌, cond, List, [], ◌∷◌, length, drop, Some, None, Option, ◌==◌}
use Rattle.phrase.specs.Kinds as kinds
use Rattle.phrase.specs.declared.word.Word.{Word}
use Rattle.phrase.specs.Commands.{Said, put, drops, at_point, how_lie, all_that_lie, area_of, help, quit, nothing}
use Rattle.phrase.specs.Kinds.{Kind, kind}
use Rattle.phrase.specs.Numbers.{bind}
use Rattle.phrase.specs.Points.{point}
use Rattle.phrase.specs.Rows.{whole_of, wholes, one_number, two_numbers}
use Rattle.phrase.specs.Words.{words}

-- the coordinates of the corners of ground n, two for each
abbrev pub row_words : ℕ → List Word → Option Said
row_words n ws = cond (length ws % 2 == 0) (bind (wholes ws) (λ row. Some (put n row))) None

abbrev pub put_words : List Word → Option Said
put_words [] = None
put_words (w ∷ ws) = bind (whole_of w) (λ n. row_words n ws)

abbrev pub drop_words : List Word → Option Said
drop_words ws = bind (one_number ws) (λ n. Some (drops n))

abbrev pub point_words : List Word → Option Said
point_words ws = bind (point ws) (λ p. Some (at_point p.a p.b p.w))

abbrev pub lie_words : List Word → Option Said
lie_words ws = bind (two_numbers ws) (λ p. Some (how_lie p.0 p.1))

abbrev pub all_lie_words : List Word → Option Said
all_lie_words ws = bind (one_number ws) (λ n. Some (all_that_lie n))

abbrev pub area_words : List Word → Option Said
area_words ws = bind (one_number ws) (λ n. Some (area_of n))

-- nothing may follow
abbrev pub alone : Said → List Word → Option Said
alone c [] = Some c
alone c (w ∷ ws) = None

-- what the words behind a phrase say
abbrev pub said_by : Kind → List Word → Option Said
said_by kinds.puts ws = put_words (drop 1 ws)
said_by kinds.drops ws = drop_words (drop 1 ws)
said_by kinds.at_point ws = point_words (drop 2 ws)
said_by kinds.how_lie ws = lie_words (drop 2 ws)
said_by kinds.all_that_lie ws = all_lie_words (drop 4 ws)
said_by kinds.area_of ws = area_words (drop 2 ws)
said_by kinds.helps ws = alone help (drop 1 ws)
said_by kinds.quits ws = alone quit (drop 1 ws)
said_by kinds.other ws = alone nothing ws

abbrev pub command : List Word → Option Said
command ws = said_by (kind ws) ws

-- what a line says
abbrev pub meaning : List ℕ → Option Said
meaning line = bind (words line) command
