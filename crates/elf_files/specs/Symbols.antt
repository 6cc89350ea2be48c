-- Symbols (System V gABI, "Symbol Table": Elf64_Sym), and the function at an address.
use Rattle.std.specs.Prelude.{ℕ, ◌+◌, ◌*◌, ◌/◌, ◌%◌, ◌==◌, ◌&&◌, Bool, true, false, not, nat_le, nat_lt, if◌then◌else◌, List, length, slice_index, Option, Some, None, Ok}
use Rattle.std.specs.List.{filter, find}
use Rattle.std.specs.Option.{option_or}
use Rattle.list_laws.specs.Greatest.{first_greatest}
use Rattle.elf_files.specs.declared.error.ElfError.TheVariants.{BadEntrySize}
use Rattle.elf_files.specs.declared.header.Header.{Header}
use Rattle.elf_files.specs.declared.section.Section.{Section}
use Rattle.elf_files.specs.declared.symbol.SymbolEntry.{SymbolEntry}
use Rattle.elf_files.specs.declared.symbol.SymbolKind.{SymbolKind}
use Rattle.elf_files.specs.declared.symbol.SymbolKind.TheVariants.{Function, IndirectFunction, Other}
use Rattle.elf_files.specs.Bytes.{ElfResult, ◌>>=◌, unless, number_at}
use Rattle.elf_files.specs.Sections.{all_sections, if_sections, is_dynamic_symbols, is_symbol_table, linked_strings, section_bytes}
use Rattle.elf_files.specs.Strings.{string_at}
use Rattle.elf_files.specs.Tables.{entries}

-- What a symbol is, by the low four bits of st_info (STT_FUNC, STT_GNU_IFUNC).
abbrev pub symbol_kind : ℕ → SymbolKind
symbol_kind number =
    if number == 2 then Function else
    if number == 10 then IndirectFunction else
    Other number

-- The symbol at an offset of a table.
abbrev pub symbol_from : List ℕ → ℕ → SymbolEntry
symbol_from bytes at = record {
  name_offset = number_at 4 bytes at;
  kind = symbol_kind (slice_index bytes (at + 4) % 16);
  section_index = number_at 2 bytes (at + 6);
  value = number_at 8 bytes (at + 8);
  size = number_at 8 bytes (at + 16);
}

-- All symbols of a table of 24 bytes each.
abbrev pub all_symbols : List ℕ → List SymbolEntry
all_symbols table = entries (λ index. symbol_from table (24 * index)) 0 (length table / 24)

-- A symbol is a function.
abbrev pub is_function : SymbolKind → Bool
is_function Function = true
is_function IndirectFunction = true
is_function (Other number) = false

-- A symbol is a function that is defined in the file (st_shndx isn't SHN_UNDEF) and contains an address.
abbrev pub has_address : ℕ → SymbolEntry → Bool
has_address address symbol =
    is_function symbol.kind && not (symbol.section_index == 0)
    && nat_le symbol.value address && nat_lt address (symbol.value + symbol.size)

-- The function at an address: of those that contain it one that begins last, and the first of these in the table.
abbrev pub function_at : ℕ → List SymbolEntry → Option SymbolEntry
function_at address symbols = first_greatest (λ symbol. symbol.value) (filter (has_address address) symbols)

-- A symbol with its name.
pub record NamedSymbol : Type 0 where
  pub name : List ℕ
  pub kind : SymbolKind
  pub section_index : ℕ
  pub value : ℕ
  pub size : ℕ

-- A symbol of a table with this name.
abbrev pub named : List ℕ → SymbolEntry → NamedSymbol
named name symbol = record { name = name; kind = symbol.kind; section_index = symbol.section_index; value = symbol.value; size = symbol.size }

-- A symbol of a table that is a section, with its name from the table's string table (sh_link), if there is one.
abbrev pub with_name : List ℕ → Header → Section → Option SymbolEntry → ElfResult (Option NamedSymbol)
with_name bytes header section None = Ok None
with_name bytes header section (Some symbol) =
    linked_strings bytes header section.offset section.link >>= (λ strings.
    string_at strings symbol.name_offset >>= (λ name.
    Ok (Some (named name symbol))))

-- The function at an address by a symbol table that is a section, if there is one.
abbrev pub function_in : List ℕ → Header → ℕ → Option Section → ElfResult (Option NamedSymbol)
function_in bytes header address None = Ok None
function_in bytes header address (Some section) =
    unless (section.entry_size == 24) (BadEntrySize section.offset)
    (section_bytes bytes section >>= (λ table. with_name bytes header section (function_at address (all_symbols table))))

-- The symbol table of some sections: the first of all symbols (.symtab), or else of those for dynamic linking (.dynsym).
abbrev pub symbol_table : List Section → Option Section
symbol_table sections =
    option_or (find (λ section. is_symbol_table section.kind) sections) (find (λ section. is_dynamic_symbols section.kind) sections)

-- The function at an address by the symbol table of a file.
abbrev pub symbol_for_address : List ℕ → Header → ℕ → ElfResult (Option NamedSymbol)
symbol_for_address bytes header address = if_sections bytes header (function_in bytes header address (symbol_table (all_sections bytes header)))
