-- What is answered to a command.
use Rattle.std.specs.Prelude.{ℕ, cond, List, [], ◌∷◌, Some, None, Ok, Err, vec_items, Option, Result, ◌==◌}
use Rattle.phrase.specs.Commands.{Said, put, drops, at_point, how_lie, all_that_lie, area_of, help, quit, nothing}
use Rattle.phrase.specs.Numbers.{bind}
use Rattle.phrase.specs.declared.answer.Answer.{Answer}
use Rattle.phrase.specs.declared.answer.Answer.TheVariants.{Done, Refused, Point, Lie, AllLie, Area, NotUnderstood}
use Rattle.phrase.specs.declared.answer.Neighbour.{Neighbour}
use Rattle.terms.specs.declared.way.Way.{Way}
use Rattle.terms.specs.declared.way.Way.TheVariants.{Apart, Touch, Within, Around, Same, Over}

-- an answer as it is meant
pub data Reply : Type 0 where
  done : Reply
  refused : ℕ → Reply
  point : ℕ → ℕ → ℕ → List ℕ → Reply
  lie : ℕ → ℕ → Way → Reply
  all_lie : ℕ → List Neighbour → Reply
  area : ℕ → ℕ → Reply
  unread : List ℕ → Reply

-- what an answer says: of a row, what is in it
abbrev pub replied : Answer → Reply
replied Done = done
replied (Refused reason) = refused reason
replied (Point p grounds) = point p.a p.b p.w (vec_items grounds)
replied (Lie first second way) = lie first second way
replied (AllLie number rows) = all_lie number (vec_items rows)
replied (Area number twice) = area number twice
replied (NotUnderstood line) = unread (vec_items line)

-- the way that has this number
abbrev pub way_of : ℕ → Option Way
way_of n =
    cond (n == 0) (Some Apart) (cond (n == 1) (Some Touch) (cond (n == 2) (Some Within) (cond (n == 3) (Some Around) (cond (n == 4) (Some Same) (cond (n == 5) (Some Over) None)))))

-- a number and a way for each, one behind the other; nothing if a number is left over, or is no way
unfoldable pub neighbours : List ℕ → Option (List Neighbour)
neighbours [] = Some []
neighbours (n ∷ []) = None
neighbours (n ∷ w ∷ rest) = bind (way_of w) (λ way. bind (neighbours rest) (λ rows. Some (record { other = n; way = way } ∷ rows)))

-- Where what was shown is no answer to what was asked, it is answered that it is done.

abbrev pub way_or_done : ℕ → ℕ → Option Way → Reply
way_or_done m n None = done
way_or_done m n (Some w) = lie m n w

-- one number, that of the way
abbrev pub way_told : ℕ → ℕ → List ℕ → Reply
way_told m n [] = done
way_told m n (w ∷ []) = way_or_done m n (way_of w)
way_told m n (w ∷ x ∷ xs) = done

abbrev pub all_told : ℕ → Option (List Neighbour) → Reply
all_told n None = done
all_told n (Some rows) = all_lie n rows

-- one number, twice the area
abbrev pub area_told : ℕ → List ℕ → Reply
area_told n [] = done
area_told n (a ∷ []) = area n a
area_told n (a ∷ x ∷ xs) = done

-- to a command that ended as done, after these numbers were shown
abbrev pub told_of : Said → List ℕ → Reply
told_of (put n row) shown = done
told_of (drops n) shown = done
told_of (at_point a b w) shown = point a b w shown
told_of (how_lie m n) shown = way_told m n shown
told_of (all_that_lie n) shown = all_told n (neighbours shown)
told_of (area_of n) shown = area_told n shown
told_of help shown = done
told_of quit shown = done
told_of nothing shown = done

-- to a command that ended so, as done or refused with a number
abbrev pub answer_of : Said → Result (Unit {0}) ℕ → List ℕ → Reply
answer_of c (Ok d) shown = told_of c shown
answer_of c (Err k) shown = refused k
