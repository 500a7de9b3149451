-- What number two words stand for. Assumes nothing: this is a definition.
use Rattle.std.specs.Prelude.{ℕ, ◌+◌, ◌*◌}
use Rattle.wide.specs.declared.number.Wide.{Wide}

-- 2^64 times the high word, and the low word
abbrev pub value : Wide → ℕ
value w = w.high * 18446744073709551616 + w.low
