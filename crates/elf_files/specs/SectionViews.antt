-- What contracts see of tables and strings that are read in place.
use Rattle.std.specs.Prelude.{ℕ, ◌≡◌, ◌+◌, ◌*◌, true, false, List}
use Rattle.elf_files.specs.declared.error.ElfError.{ElfError}
use Rattle.elf_files.specs.declared.error.ElfError.TheVariants.{Truncated}
use Rattle.elf_files.specs.declared.header.Header.{Header}
use Rattle.elf_files.specs.declared.section.Section.{Section}
use Rattle.elf_files.specs.declared.section_table.SectionTable.{SectionTable}
use Rattle.elf_files.specs.declared.strings.StringTable.{StringTable}
use Rattle.elf_files.specs.Bytes.{is_within}
use Rattle.elf_files.specs.Sections.{section_from}
use Rattle.elf_files.specs.Strings.{Strings}
use Rattle.elf_files.specs.Tables.{entries}

-- A string table.
abbrev pub strings_seen : StringTable → Strings
strings_seen strings = record { bytes = strings.bytes.now; offset = strings.offset }

-- The section with an index of a table.
abbrev pub section_in : SectionTable → ℕ → Section
section_in table index = section_from table.bytes.now (table.offset + 64 * index)

-- All sections of a table.
abbrev pub sections_in : SectionTable → List Section
sections_in table = entries (section_in table) 0 table.count

-- A table is that of a file, and whole.
pub record IsTableOf (bytes : List ℕ) (header : Header) (table : SectionTable) : Type 0 where
  pub same_bytes : table.bytes.now ≡ bytes
  pub offset : table.offset ≡ header.section_table
  pub count : table.count ≡ header.section_count
  pub whole : is_within bytes header.section_table (64 * header.section_count) ≡ true

-- The table of a file isn't whole, and this is the error.
pub record IsTableCut (bytes : List ℕ) (header : Header) (error : ElfError) : Type 0 where
  pub is : error ≡ Truncated header.section_table
  pub cut : is_within bytes header.section_table (64 * header.section_count) ≡ false
