-- The table of a header: rows of two pointers, to the start of an FDE's code and to the FDE itself (LSB 5.0, 10.6.2). Rows are
-- read one after the other, or, if their pointers have one size, by index.
use Rattle.std.specs.Prelude.{◌≡◌, ℕ, zero, suc, ◌-◌, ◌*◌, ◌==◌, ◌||◌, List, [], ◌∷◌, Option, Some, None, Result, Ok, Err, OnErr, if◌then◌else◌}
use Rattle.dwarf_constants.specs.Pointer.{format_of}
use Rattle.dwarf_constants.specs.declared.constants.TheConstants.{DW_EH_PE_uleb128, DW_EH_PE_udata2, DW_EH_PE_udata4, DW_EH_PE_udata8, DW_EH_PE_sleb128, DW_EH_PE_sdata2, DW_EH_PE_sdata4, DW_EH_PE_sdata8}
use Rattle.dwarf_constants.specs.declared.error.Error.{Error}
use Rattle.dwarf_constants.specs.declared.error.Error.TheVariants.{UnknownPointerEncoding, VariableLengthSearchTable}
use Rattle.dwarf_endianity.specs.Offset.{offset_below}
use Rattle.dwarf_readers.specs.Operands.{Parse}
use Rattle.dwarf_readers.specs.Stretch.{Reads, Stretch, ◌>>=◌, behind_at}
use Rattle.dwarf_frame_rows.specs.EncodedPointer.{Origins, direct_address, left_by_pointer, pointer_at}
use Rattle.dwarf_frame_rows.specs.declared.base_addresses.SectionBaseAddresses.{SectionBaseAddresses}
use Rattle.dwarf_frame_rows.specs.declared.pointer.Pointer.{Pointer}
use Rattle.dwarf_call_frames.specs.Header.{Header, origins_of_header}
use Rattle.dwarf_call_frames.specs.Halving.{GivesHalving, Halving, TableRow, halving}

-- a table, or what is left of it: what its pointers may be relative to, their encoding, the number of rows, and the bytes from
-- the first on
pub record HeaderTable : Type 0 where
  pub origins : Origins
  pub encoding : ℕ
  pub count : ℕ
  pub bytes : Stretch

-- the table of a header, by these base addresses
abbrev pub header_table : SectionBaseAddresses → Header → HeaderTable
header_table bases header = record {
  origins = origins_of_header bases header.section_offset header.address_size;
  encoding = header.table_encoding;
  count = header.count;
  bytes = header.rows;
}

-- a header, if its table has rows
abbrev pub header_with_table : Header → Option Header
header_with_table header = if header.count == 0 then None else Some header

-- ---- one row after the other

-- a row, and what is left after it
abbrev pub row_at : Origins → ℕ → Stretch → Result ((Pointer × Pointer) × Stretch) Error
row_at origins encoding s = do
  start ← pointer_at origins encoding s
  target ← pointer_at origins encoding start.1
  Ok ((start.0, target.0), target.1)

-- what is left after a row that can't be read, by its first pointer
abbrev pub left_by_start : Origins → ℕ → Stretch → Result (Pointer × Stretch) Error → Stretch
left_by_start origins encoding s (Ok start) = left_by_pointer origins encoding start.1
left_by_start origins encoding s (Err e) = left_by_pointer origins encoding s

-- what is left after a row that can't be read
abbrev pub left_by_row : Origins → ℕ → Stretch → Stretch
left_by_row origins encoding s = left_by_start origins encoding s (pointer_at origins encoding s)

-- The code read a part of a row, as a definition reads it by the table's encoding, and left the rest.
abbrev pub ReadsInTable : {R X : Type 0} → (R → Stretch) → (Origins → ℕ → Parse X) → HeaderTable → R → Result X Error → R → Type 0
ReadsInTable stretch parse t old result new = Reads result (parse t.origins t.encoding (stretch old)) (stretch new)

-- If a part of a row can't be read, what is left is as a definition says by the table's encoding.
abbrev pub LeavesInTable : {R X : Type 0} → (R → Stretch) → (Origins → ℕ → Stretch → Stretch) → HeaderTable → R → Result X Error → R
    → Type 0
LeavesInTable stretch left t old result new = OnErr result (stretch new ≡ left t.origins t.encoding (stretch old))

-- what is left after a row, whether it can be read or not
abbrev pub after_row : Origins → ℕ → Stretch → Result ((Pointer × Pointer) × Stretch) Error → Stretch
after_row origins encoding s (Ok row) = row.1
after_row origins encoding s (Err e) = left_by_row origins encoding s

-- the first row of a table, if there is one
abbrev pub first_table_row : HeaderTable → Result (Option (Pointer × Pointer)) Error
first_table_row t = if t.count == 0 then Ok None else (do
  row ← row_at t.origins t.encoding t.bytes
  Ok (Some row.0))

-- the table without its first row, whether that can be read or not
abbrev pub without_first : HeaderTable → HeaderTable
without_first t =
    if t.count == 0 then t
    else record t { count = t.count - 1; bytes = after_row t.origins t.encoding t.bytes (row_at t.origins t.encoding t.bytes) }

-- a row without what is left after it
abbrev pub row_alone : Result ((Pointer × Pointer) × Stretch) Error → Result (Pointer × Pointer) Error
row_alone read = do
  row ← read
  Ok row.0

-- n rows, or the error of each that can't be read
abbrev pub table_rows_from : Origins → ℕ → ℕ → Stretch → List (Result (Pointer × Pointer) Error)
table_rows_from origins encoding zero s = []
table_rows_from origins encoding (suc n) s =
    let read = row_at origins encoding s in
    row_alone read ∷ table_rows_from origins encoding n (after_row origins encoding s read)

-- the rows of a table
unfoldable pub rows_of : HeaderTable → List (Result (Pointer × Pointer) Error)
rows_of t = table_rows_from t.origins t.encoding t.count t.bytes

-- ---- rows by index

-- the size of the table's pointers in bytes, if they have one
abbrev pub pointer_size : ℕ → Result ℕ Error
pointer_size encoding =
    let format = format_of encoding in
    if format == DW_EH_PE_uleb128.0 || format == DW_EH_PE_sleb128.0 then Err VariableLengthSearchTable
    else if format == DW_EH_PE_udata2.0 || format == DW_EH_PE_sdata2.0 then Ok 2
    else if format == DW_EH_PE_udata4.0 || format == DW_EH_PE_sdata4.0 then Ok 4
    else if format == DW_EH_PE_udata8.0 || format == DW_EH_PE_sdata8.0 then Ok 8
    else Err (UnknownPointerEncoding (record { 0 = encoding }))

-- what is left after n rows whose pointers have this size
abbrev pub after_rows : ℕ → ℕ → ℕ → Stretch → Result Stretch Error
after_rows limit size n s = do
  offset ← offset_below limit (n * (2 * size))
  behind_at offset s

-- the table without its first n rows
abbrev pub without_rows : ℕ → ℕ → HeaderTable → Result HeaderTable Error
without_rows limit n t = do
  size ← pointer_size t.encoding
  rest ← after_rows limit size n t.bytes
  Ok (record t { count = t.count - n; bytes = rest })

-- the row with index n, if there is one
abbrev pub nth_row : ℕ → ℕ → HeaderTable → Result (Option (Pointer × Pointer)) Error
nth_row limit n t = do
  rest ← without_rows limit n t
  first_table_row rest

-- what `nth` leaves: the rows after the one that it reads, or the table as it was if the rows before that aren't there
abbrev pub left_by_nth : HeaderTable → Result HeaderTable Error → HeaderTable
left_by_nth t (Ok rest) = without_first rest
left_by_nth t (Err e) = t

-- the start of an FDE's code in the row with this index; indirect pointers aren't supported
abbrev pub start_at : ℕ → ℕ → HeaderTable → ℕ → Result ℕ Error
start_at limit size t index = do
  s ← after_rows limit size index t.bytes
  start ← pointer_at t.origins t.encoding s
  direct_address start.0

-- the pointer to the FDE in the row with this index
abbrev pub target_at : ℕ → ℕ → HeaderTable → ℕ → Result Pointer Error
target_at limit size t index = do
  s ← after_rows limit size index t.bytes
  rest ← behind_at size s
  target ← pointer_at t.origins t.encoding rest
  Ok target.0

-- the row with this index
abbrev pub row_at_index : ℕ → ℕ → HeaderTable → ℕ → TableRow
row_at_index limit size t index = record { start = start_at limit size t index; target = target_at limit size t index }

-- n rows, from the one with this index on
abbrev pub rows_between : (ℕ → TableRow) → ℕ → ℕ → List TableRow
rows_between row first zero = []
rows_between row first (suc n) = row first ∷ rows_between row (suc first) n

-- the rows of a table by index
abbrev pub rows_by_index : ℕ → ℕ → HeaderTable → List TableRow
rows_by_index limit size t = rows_between (row_at_index limit size t) 0 t.count

-- how the rows of a table are halved for an address, if pointers have this size
abbrev pub halving_in : ℕ → ℕ → ℕ → HeaderTable → Halving
halving_in limit size address t = halving address (rows_by_index limit size t)

-- A lookup returned the pointer that the halving reaches, and counted the starts that it read.
abbrev pub GivesHalvingIn : ℕ → ℕ → ℕ → HeaderTable → Result Pointer Error → ℕ → ℕ → Type 0
GivesHalvingIn limit size address t answer before after = GivesHalving (halving_in limit size address t) answer before after

-- the pointer to the FDE for an address, if the pointers have one size
abbrev pub header_row : ℕ → ℕ → HeaderTable → Result Pointer Error
header_row limit address t = do
  size ← pointer_size t.encoding
  (halving_in limit size address t).reached

-- how many starts the lookup reads, if pointers have this size
abbrev pub reads_with : ℕ → ℕ → HeaderTable → Result ℕ Error → ℕ
reads_with limit address t (Ok size) = (halving_in limit size address t).reads
reads_with limit address t (Err e) = 0

-- how many starts the lookup reads
abbrev pub starts_read : ℕ → ℕ → HeaderTable → ℕ
starts_read limit address t = reads_with limit address t (pointer_size t.encoding)
