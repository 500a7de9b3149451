use Rattle.std.proofs.Common.{◌≡◌, ◌+◌, ◌-◌, max, ◌++◌, length, IfOk, string_bytes, codes, decimal, ap, ◌∙◌, subst}
use Rattle.raster.specs.Windows.{side_across}
use Rattle.raster.specs.Pictures.{spaces}
use Rattle.raster.proofs.Pieces.{repeated, text_length}
use Rattle.raster.proofs.window.Window.scale_line.Goals as goal

pub returns : goal.returns
returns c =
    let v = c.args.self in
    let west = c.in_ok-west.ensures.ok in
    let east = c.in_ok-east.ensures.ok ∙ ap decimal c.side_across.ensures.value in
    let wide = c.len.ensures ∙ text_length c.in_ok-west.west ∙ ap length west in
    let long = c.len-2.ensures ∙ text_length c.in_ok-east.east ∙ ap length east in
    let gap : c.max.result ≡ max (v.columns - (length (decimal v.x) + length (decimal (side_across v v.columns)))) 1 = cc in
    let between = c.in_ok-gap.ensures.bytes ∙ repeated c.max.result 32 ∙ ap spaces gap in
    subst (λ l. IfOk c.format.result (λ s. string_bytes s ≡ l)) (λ i. spaces 9 ++ (west i ++ (between i ++ (east i ++ codes "\n")))) c.format.ensures.ok
