use Rattle.std.proofs.Common.{◌≡◌, ◌%◌, true, ◌&&◌, ltb, eqb, IfOk, string_bytes, sym, subst, arith}
use Rattle.std.proofs.lemmas.Bool.Decides.{nat_tests}
use Rattle.plane.specs.Lists.{pick}
use Rattle.raster.specs.Pictures.{spaces, aligned}
use Rattle.raster.specs.Windows.{side_up}
use Rattle.raster.proofs.Pieces.{laid_right}
use Rattle.raster.proofs.window.Window.margin.Goals as goal

pub returns-then-row-eq0 : goal.returns-then-row-eq0
returns-then-row-eq0 c =
    let row = c.args.row in
    let height = aligned (side_up c.args.self row) in
    let fifth : ltb 0 row && eqb (row % 5) 0 ≡ true = grind (arith, nat_tests) in
    let text : IfOk c.format.result (λ s. string_bytes s ≡ height) =
    subst (λ b. IfOk c.format.result (λ s. string_bytes s ≡ b)) (laid_right c.laid_out.ensures c.side_up-height.ensures.value) c.format.ensures.ok in
    subst (λ b. IfOk c.format.result (λ s. string_bytes s ≡ pick b height (spaces 7))) (sym fifth) text
