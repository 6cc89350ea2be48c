-- What contracts see of dynamic sections, hash tables and symbols, whose bytes are read in place.
use Rattle.elf_segments.specs.Dynamic.{DynamicTable}
use Rattle.elf_segments.specs.DynamicSymbols.{SymbolBytes}
use Rattle.elf_segments.specs.HashTables.{GnuTable}
use Rattle.elf_segments.specs.declared.dynamic.DynamicSection.{DynamicSection}
use Rattle.elf_segments.specs.declared.hash_tables.GnuHash.{GnuHash}
use Rattle.elf_segments.specs.declared.symbols.DynamicSymbols.{DynamicSymbols}

-- a dynamic section
abbrev pub dynamic_seen : DynamicSection → DynamicTable
dynamic_seen section = record {
  file = section.file.bytes.now;
  header = section.file.header;
  bytes = section.bytes.now;
  moved = section.moved;
}

-- a hash table
abbrev pub gnu_seen : GnuHash → GnuTable
gnu_seen table = record { first = table.first; buckets = table.buckets.now; hashes = table.hashes.now }

-- symbols
abbrev pub symbols_seen : DynamicSymbols → SymbolBytes
symbols_seen symbols = record { table = symbols.table.now; strings = symbols.strings.now }
