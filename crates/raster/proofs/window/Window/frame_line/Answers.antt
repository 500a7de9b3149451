use Rattle.std.proofs.Common.{◌≡◌, ◌++◌, IfOk, string_bytes, codes, refl, ◌∙◌, subst}
use Rattle.raster.proofs.Pieces.{repeated, laid_right}
use Rattle.raster.proofs.window.Window.frame_line.Goals as goal

pub returns : goal.returns
returns c =
    let height = laid_right c.laid_out.ensures refl in
    let side = c.in_ok-side.ensures.bytes ∙ repeated c.args.self.columns 45 in
    subst (λ l. IfOk c.format.result (λ s. string_bytes s ≡ l)) (λ i. height i ++ (codes " +" ++ (side i ++ codes "+\n"))) c.format.ensures.ok
