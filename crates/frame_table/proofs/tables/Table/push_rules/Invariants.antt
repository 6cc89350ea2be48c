use Rattle.std.proofs.Common.{◌≡◌, ◌++◌, take}
use Rattle.std.specs.List.{flat_map}
use Rattle.dwarf_frame_rows.specs.Row.{row_of}
use Rattle.line_parts.specs.Parts.{cell_of}
use Rattle.frame_table.specs.TableViews.{table_view}
use Rattle.frame_table.specs.Tables.{rule_text_in}
use Rattle.frame_table.proofs.tables.Table.push_rules.Given as goal

abbrev pub invariant-loop-register : goal.invariant-loop-register
invariant-loop-register g l = l.text.items ≡ l.fn.text.items ++ flat_map (λ register. cell_of 5 (rule_text_in (table_view l.self) (row_of l.row) register)) (take l.register-index l.self.columns.items)
