-- A line as it comes in.
use Rattle.std.specs.Prelude.{ℕ, ◌-◌, cond, List, length, take, ◌==◌, slice_index}

-- without its last byte, if that is b
abbrev pub without_last : ℕ → List ℕ → List ℕ
without_last b line = cond (slice_index line (length line - 1) == b) (take (length line - 1) line) line

-- without the newline at its end, if it has one
abbrev pub unended : List ℕ → List ℕ
unended line = without_last 10 line
