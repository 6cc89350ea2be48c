-- Headers as linkers write them: version 1, a pointer to `.eh_frame` of four bytes that is relative to itself, the number of rows in
-- four bytes, and rows of two pointers of four bytes that are relative to the header (LSB 5.0, 10.6.2).
use Rattle.std.specs.Prelude.{◌≡◌, ◌<◌, ◌≤◌, ℕ, ◌+◌, ◌*◌, ◌%◌, ◌^◌, Bool, false, List, [], length, take, drop, slice_index, Some, Result, Ok, IsTrue}
use Rattle.std.specs.Int.{w32, w64, cast_signed, cast_unsigned}
use Rattle.dwarf_constants.specs.declared.error.Error.{Error}
use Rattle.dwarf_endianity.specs.Answers.{Gives}
use Rattle.dwarf_endianity.specs.ByteOrder.{number_of}
use Rattle.dwarf_readers.specs.Stretch.{behind, whole}
use Rattle.dwarf_frame_rows.specs.declared.base_addresses.BaseAddresses.{BaseAddresses}
use Rattle.dwarf_frame_rows.specs.declared.pointer.Pointer.{Pointer}
use Rattle.dwarf_frame_rows.specs.declared.pointer.Pointer.TheVariants.{Direct}
use Rattle.dwarf_call_frames.specs.Halving.{TableRow}
use Rattle.dwarf_call_frames.specs.Header.{Header, header_at, offset_of_pointer}
use Rattle.dwarf_call_frames.specs.HeaderEntries.{named_offset}
use Rattle.dwarf_call_frames.specs.HeaderTable.{rows_between}
use Rattle.dwarf_call_frames.specs.declared.linked.LinkedHeader.{LinkedHeader}

-- the header of these bytes, by what is kept of it: the table is after the first 12 bytes
abbrev pub linked_header : List ℕ → LinkedHeader → Header
linked_header bytes kept = record {
  section_offset = 0;
  address_size = 8;
  eh_frame_ptr = Direct kept.section_start;
  table_encoding = 0x3b;
  count = kept.count;
  rows = behind 12 (whole false bytes);
}

-- There are rows, and bytes for them. Four bytes have their number.
pub record HasRows (bytes : List ℕ) (kept : LinkedHeader) : Type 0 where
  pub some : 0 < kept.count
  pub few : kept.count < 2 ^ 32
  pub room : 12 + 8 * kept.count ≤ length bytes

-- This is kept of the header of these bytes, whose pointers are relative to these addresses.
pub record IsKeptOf (bases : BaseAddresses) (bytes : List ℕ) (kept : LinkedHeader) : Type 0 where
  pub header : header_at bases.eh_frame_hdr 8 (whole false bytes) ≡ Ok (linked_header bytes kept)
  pub base : bases.eh_frame_hdr.data_base ≡ Some kept.base
  pub rows : HasRows bytes kept

-- the offset of an address from the start of `.eh_frame`
abbrev pub offset_from : LinkedHeader → (address : ℕ) → Result ℕ Error
offset_from kept address = offset_of_pointer (2 ^ 64) (linked_header [] kept) (Direct address)

-- If this is kept of the header of these bytes, a call gave the offset of the FDE that the table names for an address.
abbrev pub GivesNamed : LinkedHeader → (bytes : List ℕ) → (address : ℕ) → Result ℕ Error → Type 0
GivesNamed kept bytes address result =
    (bases : BaseAddresses) → IsKeptOf bases bytes kept
    → Gives (λ offset. offset) result (named_offset (2 ^ 64) bases (linked_header bytes kept) address)

-- If it is true, the bytes begin with version 1 and these encodings.
pub record BeginsLinked (bytes : List ℕ) (test : Bool) : Type 0 where
  pub version : IsTrue test → slice_index bytes 0 ≡ 1
  pub pointer : IsTrue test → slice_index bytes 1 ≡ 0x1b
  pub count : IsTrue test → slice_index bytes 2 ≡ 0x03
  pub table : IsTrue test → slice_index bytes 3 ≡ 0x3b

-- the pointer in the first four bytes, relative to a base
abbrev pub linked_pointer : (base : ℕ) → List ℕ → ℕ
linked_pointer base bytes = (base + cast_unsigned w64 (cast_signed w32 (number_of false (take 4 bytes)))) % 2 ^ 64

-- the pointer to the FDE in the row with this index
abbrev pub target_in : LinkedHeader → (table : List ℕ) → ℕ → Pointer
target_in kept table index = Direct (linked_pointer kept.base (drop (8 * index + 4) table))

-- the row with this index
abbrev pub linked_row : LinkedHeader → (table : List ℕ) → ℕ → TableRow
linked_row kept table index =
    record { start = Ok (linked_pointer kept.base (drop (8 * index) table)); target = Ok (target_in kept table index) }

-- the rows of the table
abbrev pub linked_rows : LinkedHeader → (table : List ℕ) → List TableRow
linked_rows kept table = rows_between (linked_row kept table) 0 kept.count
