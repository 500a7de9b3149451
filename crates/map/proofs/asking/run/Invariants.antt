use Rattle.std.proofs.Common.{◌≡◌, ℕ, true, List, ◌++◌, length, is_ok, vec_items}
use Rattle.map.specs.Asking.{event_said}
use Rattle.map.proofs.Going.{Way, still}
use Rattle.map.proofs.asking.run.Given as goal

-- the way from the request leads here, and what it showed was added, unless there was no room
abbrev pub invariant-loop-done : goal.invariant-loop-done
invariant-loop-done l =
    (length l.memory ≡ 262144)
    × ((s : List ℕ) × (t : List ℕ) × (vec_items l.shown ≡ vec_items l.fn.shown ++ t) × (is_ok l.kept ≡ true → t ≡ s) × Way l.fn.memory (event_said l.fn.request) l.done l.memory s)

abbrev pub decreases-loop-done : goal.decreases-loop-done
decreases-loop-done l = still l.done l.memory
