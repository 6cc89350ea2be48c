-- Symbol tables of files (System V gABI, "Symbol Table").
use Rattle.std.specs.Prelude.{ℕ, ◌*◌, ◌==◌, Bool, true, false, not, nat_lt, if◌then◌else◌, List, Option, None, option_and_then}
use Rattle.std.specs.List.{find}
use Rattle.std.specs.Option.{option_map, option_or}
use Rattle.std.specs.Result.{result_ok}
use Rattle.elf_files.specs.Bytes.{is_within}
use Rattle.elf_files.specs.Sections.{all_sections, is_string_table, section_at, section_bytes}
use Rattle.elf_files.specs.declared.header.Header.{Header}
use Rattle.elf_files.specs.declared.section.Section.{Section}
use Rattle.elf_files.specs.declared.section.SectionKind.{SectionKind}
use Rattle.elf_files.specs.declared.section.SectionKind.TheVariants.{DynamicSymbols, SymbolTable}
use Rattle.elf_segments.specs.DynamicSymbols.{SymbolBytes, dynamic_symbols}
use Rattle.elf_segments.specs.Segments.{has_named_sections}

-- a section has symbols: all of them (SHT_SYMTAB), or those for dynamic linking (SHT_DYNSYM)
abbrev pub has_symbols : (dynamic : Bool) → SectionKind → Bool
has_symbols dynamic SymbolTable = not dynamic
has_symbols dynamic DynamicSymbols = dynamic
has_symbols dynamic _ = false

-- the first such section, if the table of sections is there
abbrev pub first_section : List ℕ → Header → (dynamic : Bool) → Option Section
first_section bytes header dynamic =
    if is_within bytes header.section_table (64 * header.section_count)
    then find (λ section. has_symbols dynamic section.kind) (all_sections bytes header) else None

-- the strings that a section has, if they can be read
abbrev pub strings_in : List ℕ → Section → Option (List ℕ)
strings_in bytes section = if is_string_table section.kind then result_ok (section_bytes bytes section) else None

-- the strings that a section names (sh_link)
abbrev pub linked_strings : List ℕ → Header → Section → Option (List ℕ)
linked_strings bytes header section =
    if nat_lt section.link header.section_count
    then option_and_then (strings_in bytes) (result_ok (section_at bytes header section.link)) else None

-- the entries of a section with symbols, of 24 bytes each (Elf64_Sym)
abbrev pub table_in : List ℕ → Section → Option (List ℕ)
table_in bytes section = if section.entry_size == 24 then result_ok (section_bytes bytes section) else None

-- the entries with these strings
abbrev pub with_strings : List ℕ → List ℕ → SymbolBytes
with_strings table strings = record { table = table; strings = strings }

-- the symbols of a section
abbrev pub symbols_in : List ℕ → Header → Section → Option SymbolBytes
symbols_in bytes header section =
    option_and_then (λ table. option_map (with_strings table) (linked_strings bytes header section)) (table_in bytes section)

-- the section with the symbols of a file, or else with those for dynamic linking
abbrev pub symbol_section : List ℕ → Header → Option Section
symbol_section bytes header = option_or (first_section bytes header false) (first_section bytes header true)

-- the symbols of a file by its sections
abbrev pub symbols_by_sections : List ℕ → Header → Option SymbolBytes
symbols_by_sections bytes header = option_and_then (symbols_in bytes header) (symbol_section bytes header)

-- the symbols for dynamic linking of a file without sections whose names can be read, by its segments
abbrev pub symbols_by_segments : List ℕ → Header → Option SymbolBytes
symbols_by_segments bytes header = if has_named_sections bytes header then None else dynamic_symbols bytes header 0

-- the symbols of a file: those of its sections, or if these can't be read, of its segments
abbrev pub symbols_of : List ℕ → Header → Option SymbolBytes
symbols_of bytes header = option_or (symbols_by_sections bytes header) (symbols_by_segments bytes header)
