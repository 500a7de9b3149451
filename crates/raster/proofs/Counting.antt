-- How many steps a length takes: n / w, raised to a whole number.
use Rattle.std.proofs.Common.{ℕ, ◌+◌, ◌*◌, ◌/◌, ◌%◌, ◌<◌, ◌≤◌, ⊎_elim, arith}
use Rattle.std.proofs.lemmas.Bool.{cases_lt}
use Rattle.std.proofs.lemmas.Nat.{div-add-mod', mod_below, mul-le}
use Rattle.ground.specs.Boxes.{raised}

module _ (n w : ℕ) (some : 1 ≤ w) where
  -- so many steps, or more, cover the length
  pub steps_cover : (k : ℕ) → raised n w ≤ k → n ≤ w * k
  steps_cover k h =
      ⊎_elim
      (λ none. omega (arith, div-add-mod' n w, mul-le w (n / w) w k (omega arith) (omega arith)))
      (λ more. omega (arith, div-add-mod' n w, mod_below n w some, mul-le w (n / w + 1) w k (omega arith) (omega arith)))
      (cases_lt (n % w) 1)

  -- and fewer do not
  pub fewer_fail : (k : ℕ) → k < raised n w → w * k < n
  fewer_fail k h =
      ⊎_elim
      (λ none. omega (arith, div-add-mod' n w, mul-le w (k + 1) w (n / w) (omega arith) (omega arith)))
      (λ more. omega (arith, div-add-mod' n w, mul-le w k w (n / w) (omega arith) (omega arith)))
      (cases_lt (n % w) 1)

  -- so what covers it is not fewer
  pub enough_steps : (k : ℕ) → n ≤ w * k → raised n w ≤ k
  enough_steps k h = ⊎_elim (λ less. absurd (omega (arith, fewer_fail k less))) (λ enough. omega arith) (cases_lt k (raised n w))
