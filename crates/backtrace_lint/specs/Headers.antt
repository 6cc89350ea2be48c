-- The `.eh_frame_hdr` of an ELF file (LSB 5.0, 10.6.2), and the rows of its table.
use Rattle.std.specs.Prelude.{ℕ, zero, suc, ◌^◌, ◌==◌, false, if◌then◌else◌, List, [], ◌∷◌, codes, Option, Some, None, unwrap_or, Result, Ok, Err}
use Rattle.dwarf_constants.specs.declared.error.Error.{Error}
use Rattle.dwarf_readers.specs.Stretch.{◌>>=◌, whole}
use Rattle.dwarf_frame_rows.specs.EncodedPointer.{direct_address}
use Rattle.dwarf_frame_rows.specs.declared.base_addresses.BaseAddresses.{BaseAddresses}
use Rattle.dwarf_frame_rows.specs.declared.pointer.Pointer.{Pointer}
use Rattle.dwarf_call_frames.specs.Header.{Header, header_at}
use Rattle.dwarf_call_frames.specs.HeaderTable.{HeaderTable, header_table, nth_row}
use Rattle.elf_files.specs.Bytes as elf
use Rattle.elf_files.specs.Bytes.{ElfResult}
use Rattle.elf_files.specs.Header.{header_of}
use Rattle.elf_files.specs.Sections.{section_bytes, section_named}
use Rattle.elf_files.specs.declared.header.Header.{Header as ElfHeader}
use Rattle.elf_files.specs.declared.section.Section.{Section}
use Rattle.frame_table_files.specs.FileSections.{with_bits}
use Rattle.frame_table_files.specs.declared.section_name.SectionName.{SectionName}
use Rattle.frame_table_files.specs.declared.section_name.SectionName.TheVariants.{EhFrame, DebugFrame}
use Rattle.backtrace_lint.specs.declared.header_tables.HeaderFault.{HeaderFault}
use Rattle.backtrace_lint.specs.declared.header_tables.HeaderFault.TheVariants.{Unread, OtherSection, NoTable, UnreadRow}
use Rattle.backtrace_lint.specs.declared.header_tables.HeaderRow.{HeaderRow}

-- ---- the section of a file

-- the section: its address and its bytes
pub record HeaderSection : Type 0 where
  pub address : ℕ
  pub bytes : List ℕ

-- its name
abbrev pub header_name : List ℕ
header_name = codes ".eh_frame_hdr"

-- the section, if it was found with bytes in the file
abbrev pub header_if_found : List ℕ → Option Section → ElfResult (Option HeaderSection)
header_if_found bytes None = Ok None
header_if_found bytes (Some section) = elf.◌>>=◌ (section_bytes bytes section) (λ found. Ok (Some (record { address = section.address; bytes = found })))

-- the first section of a file with the name, if it has bytes
abbrev pub header_in : List ℕ → ElfHeader → ElfResult (Option HeaderSection)
header_in bytes header = elf.◌>>=◌ (section_named bytes header header_name) (λ found. header_if_found bytes (with_bits found))

-- the same of the file with these bytes
abbrev pub header_section_of : List ℕ → ElfResult (Option HeaderSection)
header_section_of bytes = elf.◌>>=◌ (header_of bytes) (header_in bytes)

-- the header of a section of call frames: `.debug_frame` has none
abbrev pub header_for : SectionName → List ℕ → ElfResult (Option HeaderSection)
header_for EhFrame bytes = header_section_of bytes
header_for DebugFrame bytes = Ok None

-- what pointers are relative to, with a header at an address: in the header, DW_EH_PE_datarel is relative to its own start
abbrev pub with_header : (address : ℕ) → BaseAddresses → BaseAddresses
with_header address bases = record {
  eh_frame_hdr = record { section = Some address; text = bases.eh_frame.text; data_base = Some address };
  eh_frame = bases.eh_frame;
}

-- ---- rows

-- a row that isn't indirect
abbrev pub direct_row : Pointer × Pointer → Result (Option HeaderRow) Error
direct_row row = do
  start ← direct_address row.0
  fde ← direct_address row.1
  Ok (Some (record { start = start; fde = fde }))

-- .. if there is one
abbrev pub direct_if_there : Option (Pointer × Pointer) → Result (Option HeaderRow) Error
direct_if_there None = Ok None
direct_if_there (Some row) = direct_row row

-- the row of a table with an index, if there is one
abbrev pub row_read : (limit index : ℕ) → HeaderTable → Result (Option HeaderRow) Error
row_read limit index t = nth_row limit index t >>= direct_if_there

-- rows after one more, unless one of them can't be read
abbrev pub with_row : HeaderRow → Result (List HeaderRow) HeaderFault → Result (List HeaderRow) HeaderFault
with_row row (Ok rows) = Ok (row ∷ rows)
with_row row (Err fault) = Err fault

-- the row at an index as it was read, and then others
abbrev pub rows_after : (index : ℕ) → Result (Option HeaderRow) Error → Result (List HeaderRow) HeaderFault → Result (List HeaderRow) HeaderFault
rows_after index (Ok (Some row)) others = with_row row others
rows_after index (Ok None) others = Ok []
rows_after index (Err error) others = Err (UnreadRow index error)

-- n rows of a table, from an index on, or the first that can't be read
abbrev pub rows_within : (limit n index : ℕ) → HeaderTable → Result (List HeaderRow) HeaderFault
rows_within limit zero index t = Ok []
rows_within limit (suc n) index t = rows_after index (row_read limit index t) (rows_within limit n (suc index) t)

-- the rows of a table
abbrev pub rows_of_table : (limit : ℕ) → HeaderTable → Result (List HeaderRow) HeaderFault
rows_of_table limit t = rows_within limit t.count 0 t

-- ---- headers

-- the address of `.eh_frame`
abbrev pub section_start : BaseAddresses → ℕ
section_start bases = unwrap_or bases.eh_frame.section 0

-- the rows of a header, if it has some
abbrev pub rows_if_some : (limit : ℕ) → BaseAddresses → Header → Result (List HeaderRow) HeaderFault
rows_if_some limit bases header = if header.count == 0 then Err NoTable else rows_of_table limit (header_table bases.eh_frame_hdr header)

-- .. if the header says that `.eh_frame` is where it is
abbrev pub rows_if_there : (limit : ℕ) → BaseAddresses → Header → (said : Result ℕ Error) → Result (List HeaderRow) HeaderFault
rows_if_there limit bases header (Ok start) =
    if start == section_start bases then rows_if_some limit bases header else Err (OtherSection start)
rows_if_there limit bases header (Err error) = Err (Unread error)

-- .. and the header can be read
abbrev pub rows_if_read : BaseAddresses → Result Header Error → Result (List HeaderRow) HeaderFault
rows_if_read bases (Ok header) = rows_if_there (2 ^ 64) bases header (direct_address header.eh_frame_ptr)
rows_if_read bases (Err error) = Err (Unread error)

-- the header with these bytes: the low byte of a number comes first, and addresses have 8 bytes
abbrev pub parsed_header : BaseAddresses → (bytes : List ℕ) → Result Header Error
parsed_header bases bytes = header_at bases.eh_frame_hdr 8 (whole false bytes)

-- the rows of the header with these bytes, or why they can't be compared with the FDEs of its section
abbrev pub header_rows : BaseAddresses → (bytes : List ℕ) → Result (List HeaderRow) HeaderFault
header_rows bases bytes = rows_if_read bases (parsed_header bases bytes)
