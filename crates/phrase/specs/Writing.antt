-- Which bytes a command is, and that it is read back from them.
use Rattle.std.specs.Prelude.{◌≡◌, ℕ, suc, ◌%◌, ◌^◌, ◌<◌, cond, ◌&&◌, List, [], ◌∷◌, ◌++◌, length, Some, codes, decimal, ◌==◌, nat_lt}
use Rattle.std.specs.List.{AllByRecursion}
use Rattle.phrase.specs.Commands.{Said, put, drops, at_point, how_lie, all_that_lie, area_of, help, quit, nothing}
use Rattle.phrase.specs.Grammar.{meaning}

-- coordinate x, the k-th of its row from 0 on: a comma stands between two corners
abbrev pub coordinate_text : ℕ → ℕ → List ℕ
coordinate_text k x = cond (nat_lt 0 k && k % 2 == 0) (codes ", " ++ decimal x) (codes " " ++ decimal x)

unfoldable pub row_text : ℕ → List ℕ → List ℕ
row_text k [] = []
row_text k (x ∷ xs) = coordinate_text k x ++ row_text (suc k) xs

abbrev pub written : Said → List ℕ
written (put n row) = codes "put " ++ (decimal n ++ row_text 0 row)
written (drops n) = codes "drop " ++ decimal n
written (at_point a b w) = codes "at point " ++ (decimal a ++ (codes " " ++ (decimal b ++ (codes " " ++ decimal w))))
written (how_lie m n) = codes "how lie " ++ (decimal m ++ (codes ", " ++ decimal n))
written (all_that_lie n) = codes "all that lie on " ++ decimal n
written (area_of n) = codes "area of " ++ decimal n
written help = codes "help"
written quit = codes "quit"
written nothing = []

-- the commands that some line says
abbrev pub Sayable : Said → Type 0
Sayable (put n row) = (n < 2 ^ 64) × AllByRecursion (λ x. x < 2 ^ 64) row × (length row % 2 ≡ 0)
Sayable (drops n) = n < 2 ^ 64
Sayable (at_point a b w) = (0 < w) × (w < 2 ^ 20) × (a < 2 ^ 40) × (b < 2 ^ 40)
Sayable (how_lie m n) = (m < 2 ^ 64) × (n < 2 ^ 64)
Sayable (all_that_lie n) = n < 2 ^ 64
Sayable (area_of n) = n < 2 ^ 64
Sayable help = Unit {0}
Sayable quit = Unit {0}
Sayable nothing = Unit {0}

abbrev pub ReadsBack : Type 0
ReadsBack = (c : Said) → Sayable c → meaning (written c) ≡ Some c
