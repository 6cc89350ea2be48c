-- Symbols for dynamic linking, by the dynamic section of their file (System V gABI, "Dynamic Section", "Symbol Table").
use Rattle.std.specs.Prelude.{ℕ, ◌*◌, ◌==◌, Bool, false, if◌then◌else◌, List, Option, Some, None, option_and_then}
use Rattle.std.specs.Option.{option_map, option_or}
use Rattle.elf_files.specs.declared.header.Header.{Header}
use Rattle.elf_segments.specs.Bytes.{first_bytes}
use Rattle.elf_segments.specs.Dynamic.{DynamicTable, bytes_of, dynamic_bytes, value_of}
use Rattle.elf_segments.specs.HashTables.{count_by_gnu_hash, count_by_hash}
use Rattle.elf_segments.specs.declared.dynamic.Tag.TheVariants.{Hash, Strings, Symbols, StringsSize, SymbolSize, GnuHash}

-- Symbols: their entries of 24 bytes each (Elf64_Sym), and the strings in which their names are.
pub record SymbolBytes : Type 0 where
  pub table : List ℕ
  pub strings : List ℕ

-- how many symbols there are, by either hash table
abbrev pub symbol_count : DynamicTable → Option ℕ
symbol_count dynamic =
    option_or (option_and_then count_by_hash (bytes_of dynamic Hash)) (option_and_then count_by_gnu_hash (bytes_of dynamic GnuHash))

-- so many entries, at DT_SYMTAB
abbrev pub entries_of : DynamicTable → ℕ → Option (List ℕ)
entries_of dynamic count = option_and_then (first_bytes (24 * count)) (bytes_of dynamic Symbols)

-- the size of an entry is that of an Elf64_Sym
abbrev pub is_symbol_size : Option ℕ → Bool
is_symbol_size None = false
is_symbol_size (Some size) = size == 24

-- the entries, all of them
abbrev pub table_of : DynamicTable → Option (List ℕ)
table_of dynamic =
    if is_symbol_size (value_of dynamic SymbolSize) then option_and_then (entries_of dynamic) (symbol_count dynamic) else None

-- the strings: DT_STRSZ bytes at DT_STRTAB
abbrev pub strings_of : DynamicTable → Option (List ℕ)
strings_of dynamic =
    option_and_then (λ size. option_and_then (first_bytes size) (bytes_of dynamic Strings)) (value_of dynamic StringsSize)

-- the symbols with these entries
abbrev pub with_strings : DynamicTable → List ℕ → Option SymbolBytes
with_strings dynamic table = option_map (λ strings. record { table = table; strings = strings }) (strings_of dynamic)

-- the symbols by a dynamic section
abbrev pub symbols_of : DynamicTable → Option SymbolBytes
symbols_of dynamic = option_and_then (with_strings dynamic) (table_of dynamic)

-- those of a file with these bytes and this header, whose dynamic section has these bytes, and addresses so much above the file's
abbrev pub symbols_moved : List ℕ → Header → ℕ → List ℕ → Option SymbolBytes
symbols_moved file header moved bytes = symbols_of (record { file = file; header = header; bytes = bytes; moved = moved })

-- the symbols of a file for dynamic linking, by the addresses that its dynamic section states, or else as they are in the memory of a process
-- in which the file is loaded so much above the addresses that it states
abbrev pub dynamic_symbols : List ℕ → Header → ℕ → Option SymbolBytes
dynamic_symbols file header moved =
    option_and_then (λ bytes. option_or (symbols_moved file header 0 bytes) (symbols_moved file header moved bytes)) (dynamic_bytes file header)
