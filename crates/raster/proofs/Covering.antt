-- The window that shows a box best.
use Rattle.std.proofs.Common.{◌≡◌, ℕ, ◌-◌, ◌*◌, ◌<◌, ◌≤◌, max, false, ◌⊎◌, ap, inl, inr, ⊎_elim, arith}
use Rattle.std.proofs.lemmas.Bool.Decides.{nat_tests}
use Rattle.std.proofs.lemmas.Bool.{cases_lt}
use Rattle.std.proofs.lemmas.Nat.{mul-le}
use Rattle.ground.specs.Boxes.{raised, holds}
use Rattle.ground.specs.declared.bounding.Extent.{Extent}
use Rattle.raster.specs.declared.window.Window.{Window}
use Rattle.raster.specs.Fitting.{box_shown, Fitted}
use Rattle.raster.proofs.Counting.{steps_cover, fewer_fail, enough_steps}

-- a window that is less wide than a box does not hold it
pub too_narrow : (u : Window) (e : Extent) → u.step * u.columns < e.east - e.west → holds (box_shown u) e ≡ false
too_narrow u e h = grind (arith, nat_tests)

pub too_low : (u : Window) (e : Extent) → u.step * u.rows < e.north - e.south → holds (box_shown u) e ≡ false
too_low u e h = grind (arith, nat_tests)

-- the least step with which a box is covered by 78 columns and 36 rows
abbrev least_step : ℕ → ℕ → ℕ
least_step width height = max (max (raised width 78) (raised height 36)) 1

module _ (width height step : ℕ) (is : step ≡ least_step width height) where
  pub step_covers : (width ≤ 78 * step) × (height ≤ 36 * step) × (1 ≤ step)
  step_covers = (steps_cover width 78 (omega arith) step (omega arith), steps_cover height 36 (omega arith) step (omega arith), omega arith)

  -- with a smaller one it is not
  pub smaller_fails : (s : ℕ) → 1 ≤ s → s < step → (78 * s < width) ⊎ (36 * s < height)
  smaller_fails s some less =
      ⊎_elim
      (λ narrow. inl (fewer_fail width 78 (omega arith) s narrow))
      (λ wide. inr (fewer_fail height 36 (omega arith) s (omega arith)))
      (cases_lt s (raised width 78))

-- as the code makes it
pub fitted : (e : Extent) (v : Window) → v.x ≡ e.west → v.y ≡ e.south → v.step ≡ least_step (e.east - e.west) (e.north - e.south) → v.columns ≡ max (raised (e.east - e.west) v.step) 1 → v.rows ≡ max (raised (e.north - e.south) v.step) 1 → Fitted e v
fitted e v west south least columns rows =
    let width = e.east - e.west in
    let height = e.north - e.south in
    let covers = step_covers width height v.step least in
    let across : width ≤ v.step * v.columns = steps_cover width v.step covers.2 v.columns (omega arith) in
    let up : height ≤ v.step * v.rows = steps_cover height v.step covers.2 v.rows (omega arith) in
    record {
      corner = (west, south);
      within = grind (arith, nat_tests);
      some = (covers.2, omega arith, omega arith);
      few = (omega (arith, enough_steps width v.step covers.2 78 (omega (arith, covers))), omega (arith, enough_steps height v.step covers.2 36 (omega (arith, covers))));
      finest = λ u some less narrow low. ⊎_elim
          (λ wide. too_narrow u e (omega (arith, mul-le u.step u.columns u.step 78 (omega arith) narrow)))
          (λ high. too_low u e (omega (arith, mul-le u.step u.rows u.step 36 (omega arith) low)))
          (smaller_fails width height v.step least u.step some less);
      narrowest = λ u same some less. too_narrow u e (omega (arith, fewer_fail width v.step covers.2 u.columns (omega arith), ap (λ n. n * u.columns) same));
      lowest = λ u same some less. too_low u e (omega (arith, fewer_fail height v.step covers.2 u.rows (omega arith), ap (λ n. n * u.rows) same));
    }
