-- From what the machine ran through to the sign of a square.
use Rattle.std.proofs.Common.{◌≡◌, ℕ, List, [], ◌++◌, Ok, Err, Result, refl, ap, ◌∙◌}
use Rattle.std.specs.declared.alloc.AllocError.{AllocError}
use Rattle.map.specs.Asking.{RanThrough}
use Rattle.map.specs.House.{at_point}
use Rattle.map.specs.Promise.{said}
use Rattle.map.specs.declared.failing.AskError.{AskError}
use Rattle.map.specs.declared.failing.AskError.TheVariants.{Refused, OutOfMemory}
use Rattle.raster.specs.Signs.{sign_of}
use Rattle.terms.specs.declared.point.Point.{Point}
use Rattle.draw.specs.Showing.{SignTold}

module _ (p : Point) (m m₁ before after : List ℕ) where
  -- where nothing had been shown before, what is shown after is what the sign is of
  pub sign_told : (r : Result (Unit {0}) AskError) (s : ℕ) → (r ≡ Err OutOfMemory → ⊥) → before ≡ [] → RanThrough m (said (at_point p.a p.b p.w)) m₁ before after r → s ≡ sign_of after → SignTold p m m₁ (Ok s)
  unfolding RanThrough
  sign_told (Ok u) s h none (shown, e, t, went, added, same) is =
      let all : after ≡ shown = added ∙ ap (λ l. l ++ t) none ∙ same.1 in (shown, e, went, is ∙ ap sign_of all)
  sign_told (Err (Refused why)) s h none (shown, e, t, went, added, same) is =
      let all : after ≡ shown = added ∙ ap (λ l. l ++ t) none ∙ same.1 in (shown, e, went, is ∙ ap sign_of all)
  sign_told (Err OutOfMemory) s h none ran is = absurd (h refl)

  -- for want of memory there is no sign
  pub no_sign : (r : Result (Unit {0}) AskError) (x : AllocError) → RanThrough m (said (at_point p.a p.b p.w)) m₁ before after r → SignTold p m m₁ (Err x)
  unfolding RanThrough
  no_sign r x ran = (ran.0, ran.1, ran.3, tt)
