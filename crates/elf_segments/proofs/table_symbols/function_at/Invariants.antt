use Rattle.std.proofs.Common.{◌≡◌, ◌-◌, ◌*◌, ◌/◌, ◌≤◌, length}
use Rattle.elf_files.specs.Tables.{entries}
use Rattle.elf_segments.specs.TableSymbols.{function_at, symbol_from}
use Rattle.elf_segments.proofs.table_symbols.function_at.Given as goal

abbrev pub invariant-symbols : goal.invariant-symbols
invariant-symbols l = record {
  within : l.left ≤ length l.table / 24;
  same : l.found ≡ function_at l.address (entries (λ index. symbol_from l.table (24 * index)) l.left (length l.table / 24 - l.left));
}

abbrev pub decreases-symbols : goal.decreases-symbols
decreases-symbols l = l.left
