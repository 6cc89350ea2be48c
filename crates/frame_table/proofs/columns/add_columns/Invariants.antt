use Rattle.std.proofs.Common.{◌≡◌, ◌&&◌, length}
use Rattle.frame_table.specs.Columns.{all_nops, columns_with}
use Rattle.frame_table.proofs.columns.add_columns.Given as goal

abbrev pub invariant-instructions : goal.invariant-instructions
invariant-instructions g l = record {
  columns : columns_with l.columns.keys l.instructions ≡ columns_with l.fn.columns.keys l.fn.instructions;
  nops : (l.nops && all_nops l.instructions) ≡ all_nops l.fn.instructions;
}

abbrev pub decreases-instructions : goal.decreases-instructions
decreases-instructions g l = length l.instructions
