use Rattle.std.proofs.Common.{refl, arith}
use Rattle.map.proofs.Insertions.{both_written}
use Rattle.map.proofs.putting.write_record.Goals as goal

pub returns : goal.returns
returns c = both_written _ _ _ _ c.args.row.now c.args.place c.copy_from_slice.ensures.after c.copy_from_slice-2.ensures.after refl (omega arith)
