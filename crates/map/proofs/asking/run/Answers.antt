use Rattle.std.proofs.Common.{◌≡◌, ℕ, true, List, [], ◌∷◌, ◌++◌, is_ok, Err, Result, vec_items, refl, sym, append_assoc, append-nil, rules}
use Rattle.map.specs.Asking.{EndSaid, End, RanThrough}
use Rattle.map.specs.declared.failing.AskError.{AskError}
use Rattle.map.specs.declared.failing.AskError.TheVariants.{OutOfMemory}
use Rattle.map.proofs.Going.{way_begins, way_goes_on, way_done, way_refused, way_named, way_ends, only_done, still_falls}
use Rattle.map.proofs.asking.run.Goals as goal

wanting : (r : Result (Unit {0}) AskError) (e : End) (s t : List ℕ) → r ≡ Err OutOfMemory → EndSaid r e s t
wanting r e s t h = rw h tt

pub loop-done-init : goal.loop-done-init
loop-done-init c = (search rules, ([], [], sym (append-nil _), (λ _. refl), way_begins _ _ _ _ c.stepped-done.ensures))

pub loop-done-smaller : goal.loop-done-smaller
loop-done-smaller c = rw c.in-Shows.is (still_falls c.in-Shows.number _ _ _ c.loop-done.invariant.0 c.stepped-done-in-Shows.ensures)

-- what was added is the number that was shown, as long as there was room for all
pub loop-done-preserved : goal.loop-done-preserved
loop-done-preserved c =
    let w = c.loop-done.invariant.1 in
    let n : ℕ = c.in-Shows.number in
    let more = c.keep-kept.ensures in
    let joined = append_assoc (vec_items c.args.shown.now) w.1 more.0 in (
      search rules,
      (
        w.0 ++ n ∷ [],
        w.1 ++ more.0,
        (cc (w.2, more.1)),
        (λ room.
            let both = more.2 room in
            let before = w.3 both.0 in
            let now = both.1 in
            (cc)),
        way_goes_on _ _ n _ _ _ _ (way_named _ _ _ _ _ _ c.in-Shows.is w.4) c.stepped-done-in-Shows.ensures,
      ),
    )

pub returns-in_err-kept : goal.returns-in_err-kept
unfolding RanThrough
returns-in_err-kept c =
    let w = c.loop-done.invariant.1 in
    let e = way_ends _ _ _ _ _ c.in_default.not-Shows w.4 in
    (w.0, e.0, w.1, e.1, w.2, wanting _ _ _ _ (search rules))

pub returns-in-Refused : goal.returns-in-Refused
unfolding RanThrough
returns-in-Refused c =
    let w = c.loop-done.invariant.1 in
    let kept : is_ok c.loop-done.kept ≡ true = search rules in
    (w.0, _, w.1, way_refused _ _ _ _ _ (way_named _ _ _ _ _ _ c.in-Refused.is w.4), w.2, (refl, w.3 kept))

pub returns-in_default-done : goal.returns-in_default-done
unfolding RanThrough
returns-in_default-done c =
    let w = c.loop-done.invariant.1 in
    let kept : is_ok c.loop-done.kept ≡ true = search rules in
    (w.0, _, w.1, way_done _ _ _ _ (way_named _ _ _ _ _ _ (only_done _ c.in_default.not-Shows c.in_default-done.not-Refused) w.4), w.2, (refl, w.3 kept))
