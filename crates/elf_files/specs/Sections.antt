-- Sections (System V gABI, "Section Header": Elf64_Shdr, and "Special Sections" for their names).
use Rattle.std.specs.Prelude.{ℕ, ◌+◌, ◌*◌, ◌/◌, ◌%◌, ◌==◌, Bool, true, false, not, nat_lt, if◌then◌else◌, List, [], Option, None, Ok}
use Rattle.std.specs.List.{find}
use Rattle.elf_files.specs.declared.error.ElfError.TheVariants.{CompressedSection, NoSuchSection, NotStringTable, Truncated}
use Rattle.elf_files.specs.declared.header.Header.{Header}
use Rattle.elf_files.specs.declared.section.Section.{Section}
use Rattle.elf_files.specs.declared.section.SectionKind.{SectionKind}
use Rattle.elf_files.specs.declared.section.SectionKind.TheVariants.{Null, ProgramBits, SymbolTable, StringTable, Note, NoBits, DynamicSymbols, Other}
use Rattle.elf_files.specs.Bytes.{ElfResult, ◌>>=◌, unless, number_at, is_within, bytes_at}
use Rattle.elf_files.specs.Strings.{Strings, string_at, is_string_at}
use Rattle.elf_files.specs.Tables.{entries}

-- What a section is, by sh_type.
abbrev pub section_kind : ℕ → SectionKind
section_kind number =
    if number == 0 then Null else
    if number == 1 then ProgramBits else
    if number == 2 then SymbolTable else
    if number == 3 then StringTable else
    if number == 7 then Note else
    if number == 8 then NoBits else
    if number == 11 then DynamicSymbols else
    Other number

-- The section of the section header at an offset.
abbrev pub section_from : List ℕ → ℕ → Section
section_from bytes at = record {
  name_offset = number_at 4 bytes at;
  kind = section_kind (number_at 4 bytes (at + 4));
  flags = number_at 8 bytes (at + 8);
  address = number_at 8 bytes (at + 16);
  offset = number_at 8 bytes (at + 24);
  size = number_at 8 bytes (at + 32);
  link = number_at 4 bytes (at + 40);
  info = number_at 4 bytes (at + 44);
  alignment = number_at 8 bytes (at + 48);
  entry_size = number_at 8 bytes (at + 56);
}

-- The section with an index.
abbrev pub section_of : List ℕ → Header → ℕ → Section
section_of bytes header index = section_from bytes (header.section_table + 64 * index)

-- What comes next if the table of sections is whole.
abbrev pub if_sections : {A : Type 0} → List ℕ → Header → ElfResult A → ElfResult A
if_sections bytes header next = unless (is_within bytes header.section_table (64 * header.section_count)) (Truncated header.section_table) next

-- The section with an index, if the table is whole.
abbrev pub section_at : List ℕ → Header → ℕ → ElfResult Section
section_at bytes header index = if_sections bytes header (Ok (section_of bytes header index))

-- All sections.
abbrev pub all_sections : List ℕ → Header → List Section
all_sections bytes header = entries (section_of bytes header) 0 header.section_count

-- The first section that passes a test, if the table is whole.
abbrev pub first_section : List ℕ → Header → (Section → Bool) → ElfResult (Option Section)
first_section bytes header test = if_sections bytes header (Ok (find test (all_sections bytes header)))

-- A section has no bytes in the file (SHT_NOBITS).
abbrev pub has_no_bits : SectionKind → Bool
has_no_bits NoBits = true
has_no_bits _ = false

-- Its bytes are compressed (SHF_COMPRESSED).
abbrev pub is_compressed : Section → Bool
is_compressed section = (section.flags / 0x800 % 2) == 1

-- The bytes of a section: sh_size of them from sh_offset on.
abbrev pub section_bytes : List ℕ → Section → ElfResult (List ℕ)
section_bytes bytes section =
    if has_no_bits section.kind then Ok [] else
    unless (not (is_compressed section)) (CompressedSection section.offset)
    (bytes_at bytes section.offset section.size)

-- A section has notes (SHT_NOTE).
abbrev pub is_note_section : SectionKind → Bool
is_note_section Note = true
is_note_section _ = false

-- It has symbols (SHT_SYMTAB).
abbrev pub is_symbol_table : SectionKind → Bool
is_symbol_table SymbolTable = true
is_symbol_table _ = false

-- It has symbols for dynamic linking (SHT_DYNSYM).
abbrev pub is_dynamic_symbols : SectionKind → Bool
is_dynamic_symbols DynamicSymbols = true
is_dynamic_symbols _ = false

-- ---- names

-- A section is a string table (SHT_STRTAB).
abbrev pub is_string_table : SectionKind → Bool
is_string_table StringTable = true
is_string_table _ = false

-- The string table that is a section.
abbrev pub strings_of : List ℕ → Section → ℕ → ElfResult Strings
strings_of bytes section place =
    unless (is_string_table section.kind) (NotStringTable place)
    (section_bytes bytes section >>= (λ found. Ok (record { bytes = found; offset = section.offset })))

-- The string table with an index, which what is at a place of the file has.
abbrev pub linked_strings : List ℕ → Header → ℕ → ℕ → ElfResult Strings
linked_strings bytes header place index =
    unless (nat_lt index header.section_count) (NoSuchSection place)
    (section_at bytes header index >>= (λ section. strings_of bytes section place))

-- The names of sections (e_shstrndx, at offset 62).
abbrev pub section_names : List ℕ → Header → ElfResult Strings
section_names bytes header = linked_strings bytes header 62 header.names_index

-- The name of a section.
abbrev pub section_name : List ℕ → Header → Section → ElfResult (List ℕ)
section_name bytes header section = section_names bytes header >>= (λ names. string_at names section.name_offset)

-- The first section with a name. In a file without sections there is none.
abbrev pub section_named : List ℕ → Header → List ℕ → ElfResult (Option Section)
section_named bytes header name =
    if header.section_count == 0 then Ok None else
    section_names bytes header >>= (λ names. first_section bytes header (λ section. is_string_at names section.name_offset name))
