-- How a fraction is written: as a decimal where its places end, and else over a `/`.
use Rattle.std.specs.Prelude.{◌≡◌, ℕ, zero, suc, ◌+◌, ◌-◌, ◌*◌, ◌/◌, ◌%◌, ◌^◌, ◌<◌, cond, List, [], ◌∷◌, ◌++◌, length, codes, decimal, ◌==◌}
use Rattle.phrase.specs.Numbers.{common}

-- long division: at most k places of r / q
unfoldable pub places : ℕ → ℕ → ℕ → List ℕ
places zero r q = []
places (suc k) r q = cond (r == 0) [] ((48 + r * 10 / q) ∷ places k (r * 10 % q) q)

-- the number that digits write
abbrev pub worth : List ℕ → ℕ
worth [] = 0
worth (d ∷ ds) = (d - 48) * 10 ^ length ds + worth ds

-- where the places come to an end, they are r / q and no less
abbrev pub PlacesAreExact : Type 0
PlacesAreExact = (r q : ℕ) → r < q → 10 ^ 64 % q ≡ 0 → worth (places 64 r q) * q ≡ r * 10 ^ length (places 64 r q)

-- p / q as a decimal
abbrev pub places_text : ℕ → ℕ → List ℕ
places_text p q = decimal (p / q) ++ (codes "." ++ places 64 (p % q) q)

-- in lowest terms; q divides a power of ten, and below 2^64 it then divides the 64th
abbrev pub lowest_text : ℕ → ℕ → List ℕ
lowest_text p q =
    cond (q == 1) (decimal p) (cond (10 ^ 64 % q == 0) (places_text p q) (decimal p ++ (codes "/" ++ decimal q)))

-- n / d; what has no value is written as it stands
abbrev pub ratio_text : ℕ → ℕ → List ℕ
ratio_text n d = cond (d == 0) (decimal n ++ codes "/0") (lowest_text (n / common n d) (d / common n d))
