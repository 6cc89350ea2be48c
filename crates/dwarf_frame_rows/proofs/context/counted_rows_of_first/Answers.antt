use Rattle.std.proofs.Common.{arith}
use Rattle.std.specs.FinMap.{gets}
use Rattle.dwarf_frame_rows.proofs.SavedRows.{rules-of-no-first}
use Rattle.dwarf_frame_rows.proofs.context.counted_rows_of_first.Goals as goal

pub returns-in-empty : goal.returns-in-empty
returns-in-empty g c = rw (rules-of-no-first c.args.rows.now c.in-empty.len_below) (grind (arith, gets))
