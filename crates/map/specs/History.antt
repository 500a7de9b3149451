-- What was said before, and what is answered after it. Each is a statement, a type, over memories that any commands led to. Assumes nothing.
use Rattle.std.specs.Prelude.{◌≡◌, ℕ, suc, ◌<◌, Bool, true, false, not, ◌&&◌, List, [], ◌∷◌, ◌++◌, length, ◌==◌, nat_eq, nat_lt, slice_index}
use Rattle.plane.specs.Lists.{every, any}
use Rattle.ground.specs.Shapes.{Shape, in_shape}
use Rattle.map.specs.House.{Command, put, drop_it, at_point, how_lies, all_that, area_of, small_command}
use Rattle.map.specs.Promise.{said, Ran, runs}
use Rattle.map.specs.Sizes.{most_grounds}
use Rattle.map.specs.Machine.{own, point}

-- a command is said, and gone on with until it ends: a listing shows each ground once at most, and then it's done
abbrev pub asked : List ℕ → Command → Ran
asked m c = runs (suc most_grounds) own m (said c) []

-- the memory that commands leave, said one after the other
unfoldable pub memory_from : List ℕ → List Command → List ℕ
memory_from m [] = m
memory_from m (c ∷ cs) = memory_from (asked m c).memory cs

abbrev pub memory_after : List Command → List ℕ
memory_after cs = memory_from own.start cs

-- it puts, or drops, the ground of this number
unfoldable pub puts : ℕ → Command → Bool
puts i (put j s) = j == i
puts i (drop_it j) = false
puts i (at_point a b w) = false
puts i (how_lies j l) = false
puts i (all_that j) = false
puts i (area_of j) = false

unfoldable pub drops : ℕ → Command → Bool
drops i (put j s) = false
drops i (drop_it j) = j == i
drops i (at_point a b w) = false
drops i (how_lies j l) = false
drops i (all_that j) = false
drops i (area_of j) = false

-- of the commands that the test tells of, none ends as done
unfoldable pub none_done : (Command → Bool) → List ℕ → List Command → Bool
none_done f m [] = true
none_done f m (c ∷ cs) = not (f c && (asked m c).end == 0) && none_done f (asked m c).memory cs

-- a number stands in some row that was shown
abbrev pub tells_of : ℕ → Ran → Bool
tells_of i r = any (λ row. any (λ n. nat_eq n i) row) r.showed

-- rows of one number each, and each number is below all that come after it
unfoldable pub rising_rows : List (List ℕ) → Bool
rising_rows [] = true
rising_rows (r ∷ rs) = (length r == 1 && every (λ q. nat_lt (slice_index r 0) (slice_index q 0)) rs) && rising_rows rs

-- At point shows rising numbers, in a row each.
unfoldable pub ShownRising : Type 0
ShownRising =
    (cs : List Command) (a b w : ℕ) → every small_command cs ≡ true → small_command (at_point a b w) ≡ true →
    rising_rows (asked (memory_after cs) (at_point a b w)).showed ≡ true

-- A ground that was put stays as it was put, till it's dropped: of every point it's told right whether this ground has it, whatever else was said, and
-- refused, in between.
unfoldable pub PutStays : Type 0
PutStays =
    (before since : List Command) (i : ℕ) (s : Shape) (a b w : ℕ) →
    every small_command (before ++ put i s ∷ since) ≡ true → small_command (at_point a b w) ≡ true →
    (asked (memory_after before) (put i s)).end ≡ 0 → none_done (drops i) (memory_after (before ++ put i s ∷ [])) since ≡ true →
    tells_of i (asked (memory_after (before ++ put i s ∷ since)) (at_point a b w)) ≡ in_shape s (point a b w)

-- A number that was dropped isn't told any more, till a ground is put under it again.
unfoldable pub DroppedGone : Type 0
DroppedGone =
    (before since : List Command) (i a b w : ℕ) →
    every small_command (before ++ drop_it i ∷ since) ≡ true → small_command (at_point a b w) ≡ true →
    none_done (puts i) (memory_after (before ++ drop_it i ∷ [])) since ≡ true →
    tells_of i (asked (memory_after (before ++ drop_it i ∷ since)) (at_point a b w)) ≡ false

-- A number under which no ground was ever put isn't told.
unfoldable pub OnlyPut : Type 0
OnlyPut =
    (cs : List Command) (i a b w : ℕ) → every small_command cs ≡ true → small_command (at_point a b w) ≡ true →
    none_done (puts i) own.start cs ≡ true → tells_of i (asked (memory_after cs) (at_point a b w)) ≡ false

-- What is refused shows nothing, and every later answer is what it would be if it had never been said. That's so of every memory, whatever stands in it.
unfoldable pub RefusedNothing : Type 0
RefusedNothing =
    (m : List ℕ) (c : Command) → 0 < (asked m c).end → (asked m c).end < 1000 →
    ((asked m c).memory ≡ m) × ((asked m c).showed ≡ [])
    × ((later : List Command) (d : Command) → asked (memory_from m (c ∷ later)) d ≡ asked (memory_from m later) d)
