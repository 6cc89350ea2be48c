-- Functions by symbols for dynamic linking (System V gABI, "Symbol Table", "String Table").
use Rattle.std.specs.Prelude.{ℕ, ◌==◌, List, take, drop, Option, position, option_and_then}
use Rattle.std.specs.Option.{option_map}
use Rattle.elf_files.specs.Symbols.{NamedSymbol}
use Rattle.elf_files.specs.declared.header.Header.{Header}
use Rattle.elf_segments.specs.DynamicSymbols.{SymbolBytes, dynamic_symbols}
use Rattle.elf_segments.specs.TableSymbols.{all_symbols, function_at}
use Rattle.elf_segments.specs.declared.table_symbols.TableSymbol.{TableSymbol}

-- the name at an index of strings: the bytes from there on before the first 0
abbrev pub name_at : List ℕ → ℕ → Option (List ℕ)
name_at strings index =
    let bytes = drop index strings in option_map (λ size. take size bytes) (position (λ byte. byte == 0) bytes)

-- a symbol with this name
abbrev pub named : TableSymbol → List ℕ → NamedSymbol
named symbol name = record { name = name; kind = symbol.kind; section_index = symbol.section_index; value = symbol.value; size = symbol.size }

-- a symbol with its name, if it has one
abbrev pub with_name : List ℕ → TableSymbol → Option NamedSymbol
with_name strings symbol = option_map (named symbol) (name_at strings symbol.name_offset)

-- the function at an address by some symbols: of those that contain it one that begins last, and the first of these in the table
abbrev pub function_by : SymbolBytes → ℕ → Option NamedSymbol
function_by symbols address = option_and_then (with_name symbols.strings) (function_at address (all_symbols symbols.table))

-- the function at an address of a file, which is loaded so much above the addresses that it states
abbrev pub dynamic_function : List ℕ → Header → ℕ → ℕ → Option NamedSymbol
dynamic_function file header moved address =
    option_and_then (λ symbols. function_by symbols address) (dynamic_symbols file header moved)
