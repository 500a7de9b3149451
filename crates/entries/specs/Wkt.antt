-- Which bytes a ground is as well-known text.
use Rattle.std.specs.Prelude.{ℕ, suc, ◌%◌, cond, List, [], ◌∷◌, ◌++◌, take, codes, decimal, ◌==◌}

-- number x, the k-th of a ring from 0 on: a comma stands between two corners
abbrev pub coordinate : ℕ → ℕ → List ℕ
coordinate k x = cond (k == 0) (decimal x) (cond (k % 2 == 0) (codes ", " ++ decimal x) (codes " " ++ decimal x))

unfoldable pub coordinates : ℕ → List ℕ → List ℕ
coordinates k [] = []
coordinates k (x ∷ xs) = coordinate k x ++ coordinates (suc k) xs

-- the first corner stands again at the end
abbrev pub wkt : ℕ → List ℕ → List ℕ
wkt n row = decimal n ++ (codes " POLYGON((" ++ (coordinates 0 (row ++ take 2 row) ++ codes "))"))
