-- Common multiples. Assumes nothing: these are definitions.
use Rattle.std.specs.Prelude.{◌≡◌, ℕ, ◌*◌, ◌%◌, ◌≤◌}

-- d is a multiple of 2, 4, 6 and so on up to 2 * n
unfoldable pub DividesAll : ℕ → ℕ → Type 0
DividesAll d n = (h : ℕ) → 1 ≤ h → h ≤ n → d % (2 * h) ≡ 0
