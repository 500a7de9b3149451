-- What a square shows. Assumes nothing: these are definitions.
use Rattle.std.specs.Prelude.{◌≡◌, ℕ, List, IfOk, Result}
use Rattle.std.specs.declared.alloc.AllocError.{AllocError}
use Rattle.map.specs.Asking.{End, Went}
use Rattle.map.specs.House.{at_point}
use Rattle.map.specs.Promise.{said}
use Rattle.raster.specs.Signs.{sign_of}
use Rattle.terms.specs.declared.point.Point.{Point}

-- The machine was asked for a point, and gone on with till it ended; the sign is that of the grounds that it showed. The sign alone may be missing, for want of memory.
abbrev pub SignTold : Point → (memory memory₁ : List ℕ) → Result ℕ AllocError → Type 0
SignTold p m m₁ r = (shown : List ℕ) × (e : End) × Went m (said (at_point p.a p.b p.w)) m₁ shown e × IfOk r (λ s. s ≡ sign_of shown)
