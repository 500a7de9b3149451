-- What is written is read back.
use Rattle.std.specs.Prelude.{◌≡◌, ℕ, ◌%◌, ◌^◌, ◌<◌, List, length, Ok}
use Rattle.std.specs.List.{AllByRecursion}
use Rattle.entries.specs.Grammar.{ground, meaning}
use Rattle.entries.specs.Wkt.{wkt}

-- one corner or more, and numbers of 64 bits
abbrev pub ReadsBack : Type 0
ReadsBack = (n : ℕ) (row : List ℕ) → n < 2 ^ 64 → AllByRecursion (λ x. x < 2 ^ 64) row → length row % 2 ≡ 0 → 0 < length row → meaning (wkt n row) ≡ Ok (ground n row)
