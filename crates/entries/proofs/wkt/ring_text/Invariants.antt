use Rattle.std.proofs.Common.{◌≡◌, ◌++◌, drop, string_bytes}
use Rattle.entries.specs.Wkt.{coordinates}
use Rattle.entries.proofs.wkt.ring_text.Given as goal

abbrev pub invariant-loop-i : goal.invariant-loop-i
invariant-loop-i l = string_bytes l.out ++ coordinates l.i (drop l.i l.ring) ≡ coordinates 0 l.ring
