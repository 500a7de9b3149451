-- Whole heights beside a height with fractions. Assumes nothing: these are definitions.
use Rattle.std.specs.Prelude.{ℕ, ◌+◌, ◌*◌, ◌<◌, ◌≤◌}

-- n is the largest whole number that is not above y / w
abbrev pub Floors : (y w n : ℕ) → Type 0
Floors y w n = (w * n ≤ y) × (y < w * n + w)

-- n is the smallest whole number that is not below y / w
abbrev pub Ceils : (y w n : ℕ) → Type 0
Ceils y w n = (y ≤ w * n) × (w * n < y + w)
