use Rattle.std.proofs.Common.{to_z-of_z, w64, SFits}
use Rattle.plane.proofs.Spans.{signed_spread, span_fits}
use Rattle.plane.proofs.area.small_area.Goals as goal

pub overflow_mul-result : goal.overflow_mul-result
overflow_mul-result c =
    let f : SFits w64 c.difference.result = record { sfits = c.difference.type_inv } in
    let g : SFits w64 c.difference-2.result = record { sfits = c.difference-2.type_inv } in
    simp to_z-of_z
    (span_fits c.difference.result c.difference-2.result c.args.a c.args.b c.args.c c.args.d c.difference.ensures c.difference-2.ensures
    c.requires.0 c.requires.1 c.requires.2 c.requires.3 c.requires.4)

pub returns : goal.returns
returns c =
    let f : SFits w64 c.difference.result = record { sfits = c.difference.type_inv } in
    let g : SFits w64 c.difference-2.result = record { sfits = c.difference-2.type_inv } in
    let h = span_fits c.difference.result c.difference-2.result c.args.a c.args.b c.args.c c.args.d c.difference.ensures c.difference-2.ensures
    c.requires.0 c.requires.1 c.requires.2 c.requires.3 c.requires.4 in
    simp to_z-of_z
    (signed_spread c.difference.result c.difference-2.result c.args.a c.args.b c.args.c c.args.d c.difference.ensures c.difference-2.ensures)
