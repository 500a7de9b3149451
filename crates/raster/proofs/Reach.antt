-- How far out the squares of a window lie.
use Rattle.std.proofs.Common.{◌≡◌, ℕ, ◌+◌, ◌-◌, ◌^◌, ◌<◌, ◌≤◌, Bool, true, false, eqb, ltb, Ok, Err, Result, refl, ⊎_elim, arith}
use Rattle.std.proofs.lemmas.Bool.Decides.{nat_tests}
use Rattle.std.proofs.lemmas.Bool.{cases_lt}
use Rattle.std.proofs.lemmas.Nat.{mul-le}
use Rattle.plane.specs.Lists.{pick, or}
use Rattle.ground.specs.Boxes.{holds}
use Rattle.ground.specs.declared.bounding.Extent.{Extent}
use Rattle.raster.specs.declared.flaw.Flaw.TheVariants.{NoStep, NoSquares, TooManySquares, TooFar}
use Rattle.raster.specs.declared.window.Window.{Window}
use Rattle.raster.specs.Windows.{middle_of, near, has_square}
use Rattle.raster.specs.Fitting.{box_shown, Fitted}
use Rattle.raster.specs.Statements.{EverySquareIsAsked, FittedIsDrawn}
use Rattle.terms.specs.declared.point.Point.{Point}

-- from west to east the middles lie farther out, and so from south to north
pub out_east : (v : Window) (i j k : ℕ) → i ≤ k → (middle_of v i j).a ≤ (middle_of v k j).a
out_east v i j k h =
    omega (arith, mul-le v.step i v.step k (omega arith) h, mul-le v.step (i + 1) v.step (k + 1) (omega arith) (omega arith))

pub out_north : (v : Window) (i j : ℕ) → (middle_of v i j).b ≤ (middle_of v i 0).b
out_north v i j =
    omega (arith, mul-le v.step (v.rows - j) v.step (v.rows - 0) (omega arith) (omega arith), mul-le v.step (v.rows - (j + 1)) v.step (v.rows - 1) (omega arith) (omega arith))

near_both : (p : Point) → p.a < 2 ^ 40 → p.b < 2 ^ 40 → near p ≡ true
near_both p a b = grind (arith, nat_tests)

-- what is nearer than a point that is near
near_under : (p q : Point) → p.a ≤ q.a → p.b ≤ q.b → near q ≡ true → near p ≡ true
near_under p q a b h = grind (arith, nat_tests)

-- of four tests in a row that find flaws, or else the window
module _ {A E : Type 0} (v : A) (p q r s : E) where
  refused : {e : E} → ◌≡◌ {A = Result A E} (Err e) (Ok v) → ⊥
  refused h = let z : ◌≡◌ {A = ℕ} 0 1 = cc in omega arith

  pub last_passed : (a b c d : Bool) → pick a (Err p) (pick b (Err q) (pick c (Err r) (pick d (Ok v) (Err s)))) ≡ Ok v → d ≡ true
  last_passed true b c d h = absurd (refused h)
  last_passed false true c d h = absurd (refused h)
  last_passed false false true d h = absurd (refused h)
  last_passed false false false true h = refl
  last_passed false false false false h = absurd (refused h)

  pub all_passed : (a b c d : Bool) → a ≡ false → b ≡ false → c ≡ false → d ≡ true → pick a (Err p) (pick b (Err q) (pick c (Err r) (pick d (Ok v) (Err s)))) ≡ Ok v
  all_passed a b c d ha hb hc hd = simp (ha, hb, hc, hd)

pub every_square_is_asked : EverySquareIsAsked
every_square_is_asked v drawn i j within below =
    let out = out_east v i j (v.columns - 1) (omega arith) in
    let corner = last_passed v NoStep NoSquares TooManySquares TooFar (eqb v.step 0) (or (eqb v.columns 0) (eqb v.rows 0)) (or (ltb 256 v.columns) (ltb 256 v.rows)) _ drawn in
    let here : near (middle_of v i j) ≡ true = near_under (middle_of v i j) (middle_of v (v.columns - 1) 0) out (out_north v i j) corner in
    let square : has_square v i j ≡ true = grind (arith, nat_tests) in
    simp (square, here)

-- the squares of a window that is fitted to a box of grounds are no larger than the sea
fitted_step : (e : Extent) (v : Window) → e.east < 2 ^ 20 → e.north < 2 ^ 20 → Fitted e v → v.step ≤ 2 ^ 20
fitted_step e v east north fitted =
    let u : Window = record { x = e.west; y = e.south; step = 2 ^ 20; columns = 78; rows = 36 } in
    let all : holds (box_shown u) e ≡ true = grind (arith, nat_tests) in
    ⊎_elim
    (λ less. let none = fitted.finest u (omega arith) less (omega arith) (omega arith) in let z : ◌≡◌ {A = ℕ} 0 1 = cc in omega arith)
    (λ enough. enough)
    (cases_lt (2 ^ 20) v.step)

pub fitted_is_drawn : FittedIsDrawn
fitted_is_drawn e v west south east north fitted =
    let small = fitted_step e v east north fitted in
    let some = fitted.some in
    let few = fitted.few in
    let from = fitted.corner in
    let last = v.columns - 1 in
    let out : (middle_of v last 0).a < 2 ^ 40 = omega (arith, mul-le v.step last (2 ^ 20) 78 small (omega arith), mul-le v.step (last + 1) (2 ^ 20) 78 small (omega arith)) in
    let up : (middle_of v last 0).b < 2 ^ 40 = omega (arith, mul-le v.step (v.rows - 0) (2 ^ 20) 36 small (omega arith), mul-le v.step (v.rows - 1) (2 ^ 20) 36 small (omega arith)) in
    let sized : eqb v.step 0 ≡ false = grind (arith, nat_tests) in
    let squares : or (eqb v.columns 0) (eqb v.rows 0) ≡ false = grind (arith, nat_tests) in
    let many : or (ltb 256 v.columns) (ltb 256 v.rows) ≡ false = grind (arith, nat_tests) in
    all_passed v NoStep NoSquares TooManySquares TooFar _ _ _ _ sized squares many (near_both (middle_of v last 0) out up)
