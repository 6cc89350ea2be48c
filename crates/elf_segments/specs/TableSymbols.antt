-- Symbols in their table, and functions (System V gABI, "Symbol Table": Elf64_Sym).
use Rattle.std.specs.Prelude.{ℕ, ◌+◌, ◌*◌, ◌/◌, ◌%◌, ◌==◌, ◌&&◌, Bool, not, nat_le, nat_lt, if◌then◌else◌, List, length, slice_index, Option, Some}
use Rattle.std.specs.List.{filter}
use Rattle.list_laws.specs.Greatest.{first_greatest, greater_of}
use Rattle.elf_files.specs.Bytes.{number_at}
use Rattle.elf_files.specs.Symbols.{is_function, symbol_kind}
use Rattle.elf_files.specs.Tables.{entries}
use Rattle.elf_segments.specs.declared.table_symbols.TableSymbol.{TableSymbol}

-- the symbol at an offset of a table
abbrev pub symbol_from : List ℕ → ℕ → TableSymbol
symbol_from bytes at = record {
  name_offset = number_at 4 bytes at;
  kind = symbol_kind (slice_index bytes (at + 4) % 16);
  section_index = number_at 2 bytes (at + 6);
  value = number_at 8 bytes (at + 8);
  size = number_at 8 bytes (at + 16);
}

-- all symbols of a table of 24 bytes each
abbrev pub all_symbols : List ℕ → List TableSymbol
all_symbols table = entries (λ index. symbol_from table (24 * index)) 0 (length table / 24)

-- a symbol is a function that is defined in the file (st_shndx isn't SHN_UNDEF) and contains an address
abbrev pub has_address : ℕ → TableSymbol → Bool
has_address address symbol =
    is_function symbol.kind && not (symbol.section_index == 0)
    && nat_le symbol.value address && nat_lt address (symbol.value + symbol.size)

-- the function at an address: of those that contain it one that begins last, and the first of these in the table
abbrev pub function_at : ℕ → List TableSymbol → Option TableSymbol
function_at address symbols = first_greatest (λ symbol. symbol.value) (filter (has_address address) symbols)

-- of a symbol and what was found among those after it, the function at an address
abbrev pub with_earlier : ℕ → TableSymbol → Option TableSymbol → Option TableSymbol
with_earlier address symbol found = if has_address address symbol then greater_of (λ entry. entry.value) (Some symbol) found else found
