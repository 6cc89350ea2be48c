-- What contracts see of symbol tables, whose bytes are read in place.
use Rattle.elf_segments.specs.DynamicSymbols.{SymbolBytes}
use Rattle.function_index.specs.declared.tables.SymbolBytes.{SymbolBytes as Table}

-- the entries and the strings
abbrev pub symbols_seen : Table → SymbolBytes
symbols_seen symbols = record { table = symbols.table.now; strings = symbols.strings.now }
