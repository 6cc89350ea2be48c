use Rattle.std.proofs.Common.{◌≡◌, ◌-◌}
use Rattle.framehop_pe.specs.Rows.{first_number, first_row, pdata_rows, row_contains}
use Rattle.framehop_pe.proofs.pdata.pdata_lookup.Given as goal

abbrev pub invariant-loop-row : goal.invariant-loop-row
invariant-loop-row l = first_number (pdata_rows l.bytes - l.row) l.row (row_contains l.bytes l.address) ≡ first_row l.bytes l.address
