use Rattle.std.proofs.Common.{◌≡◌, ◌++◌, take}
use Rattle.std.specs.List.{flat_map}
use Rattle.line_parts.specs.Parts.{cell_of}
use Rattle.frame_table.specs.TableViews.{table_view}
use Rattle.frame_table.specs.Tables.{column_name}
use Rattle.frame_table.proofs.tables.Table.push_names.Given as goal

abbrev pub invariant-loop-register : goal.invariant-loop-register
invariant-loop-register l = l.text.items ≡ l.fn.text.items ++ flat_map (λ register. cell_of 5 (column_name (table_view l.self) register)) (take l.register-index l.self.columns.items)
