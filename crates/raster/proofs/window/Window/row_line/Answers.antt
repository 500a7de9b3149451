use Rattle.std.proofs.Common.{vec_items, codes, refl, ap, ◌∙◌}
use Rattle.raster.specs.Pictures.{margin}
use Rattle.raster.proofs.Pieces.{behind, four_pieces}
use Rattle.raster.proofs.window.Window.row_line.Goals as goal

pub returns : goal.returns
returns c =
    let bar = behind c.in_ok-extend_from_slice.ensures.items (ap vec_items c.into_bytes-line.ensures.value ∙ c.in_ok-margin.ensures) refl in
    let signs = behind c.in_ok-extend_from_slice-2.ensures.items bar refl in
    behind c.in_ok-extend_from_slice-3.ensures.items signs refl
    ∙ four_pieces (margin c.args.self c.args.row) (codes " |") c.args.signs.now (codes "|\n")
