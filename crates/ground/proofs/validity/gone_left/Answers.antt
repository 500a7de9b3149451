use Rattle.std.proofs.Common.{◌≡◌, ℕ, List, true, false, Option, Some, None, ok_or, MatchOption, MatchResult, arith, rules}
use Rattle.ground.specs.Refusals.{is_ground, goes_left, InRange, Refuses}
use Rattle.ground.specs.Rows.{shape_of}
use Rattle.ground.specs.Shapes.{edges, ring_clear, twice_area}
use Rattle.ground.specs.declared.refusal.NoGround.TheVariants.{Clockwise}
use Rattle.ground.proofs.Closing.{shape_many}
use Rattle.ground.proofs.Grounds.{refuses_right}
use Rattle.ground.proofs.validity.gone_left.Goals as goal

left_told : (row : List ℕ) → InRange row → ring_clear (edges (shape_of row)) ≡ true → (lead : Option ℕ) →
    MatchOption lead (goes_left (shape_of row) ≡ false) (λ n. (goes_left (shape_of row) ≡ true) × (n ≡ twice_area (shape_of row))) →
    MatchResult (ok_or lead Clockwise) (λ n. (is_ground row ≡ true) × (n ≡ twice_area (shape_of row))) (λ why. Refuses row why)
left_told row range clear None right = refuses_right row range clear right
left_told row range clear (Some n) left = search rules

pub area_to_the_left-requires : goal.area_to_the_left-requires
area_to_the_left-requires c = (omega (arith, shape_many c.args.row.now), c.requires.0.1)

pub returns : goal.returns
returns c =
    rw c.ok_or.ensures.value (left_told c.args.row.now c.requires.0 c.requires.1 c.area_to_the_left.result c.area_to_the_left.ensures)
