-- No lookup by a header says that memory ran out.
use Rattle.std.proofs.Common.{◌≡◌, ℕ, zero, suc, ◌/◌, Bool, true, false, cond, List, [], ◌∷◌, length, take, drop, Result, Ok, Err, ap}
use Rattle.std.specs.Prelude.{◌==◌, ◌||◌, ◌*◌, nat_lt}
use Rattle.dwarf_constants.specs.Pointer.{format_of}
use Rattle.dwarf_constants.specs.declared.constants.TheConstants.{DW_EH_PE_uleb128, DW_EH_PE_udata2, DW_EH_PE_udata4, DW_EH_PE_udata8, DW_EH_PE_sleb128, DW_EH_PE_sdata2, DW_EH_PE_sdata4, DW_EH_PE_sdata8}
use Rattle.dwarf_constants.specs.declared.error.Error.{Error}
use Rattle.dwarf_constants.specs.declared.error.Error.TheVariants.{OutOfMemory, UnknownPointerEncoding}
use Rattle.dwarf_readers.specs.Memory.{NeverWantsMemory}
use Rattle.dwarf_readers.specs.Stretch.{Stretch}
use Rattle.dwarf_readers.proofs.Laws.{behind_memory, memory_err, memory_if, memory_ok, memory_test, memory_then, offset_memory}
use Rattle.dwarf_frame_rows.specs.FrameSection.{FrameSection}
use Rattle.dwarf_frame_rows.specs.declared.base_addresses.BaseAddresses.{BaseAddresses}
use Rattle.dwarf_frame_rows.specs.declared.pointer.Pointer.{Pointer}
use Rattle.dwarf_frame_rows.proofs.Laws.{direct_memory, pointer_memory}
use Rattle.dwarf_frame_entries.proofs.Laws.{fde_memory}
use Rattle.dwarf_call_frames.specs.Halving.{Halving, TableRow, after_start, ended_at, first_start, first_target, halving, halving_within}
use Rattle.dwarf_call_frames.specs.Header.{Header, offset_of_pointer}
use Rattle.dwarf_call_frames.specs.HeaderEntries.{fde_by_header, named_offset}
use Rattle.dwarf_call_frames.specs.HeaderTable.{HeaderTable, after_rows, header_row, header_table, pointer_size, row_at_index, rows_between, start_at, target_at}

-- ---- one row

unknown-otherwise : (encoding : ℕ) → UnknownPointerEncoding (record { 0 = encoding }) ≡ OutOfMemory → ⊥
unknown-otherwise encoding h = cc

size-memory : (encoding : ℕ) → NeverWantsMemory (pointer_size encoding)
size-memory encoding =
    let format : ℕ = format_of encoding in
    memory_if (format == DW_EH_PE_uleb128.0 || format == DW_EH_PE_sleb128.0) (memory_err (λ h. cc))
    (memory_if (format == DW_EH_PE_udata2.0 || format == DW_EH_PE_sdata2.0) memory_ok
    (memory_if (format == DW_EH_PE_udata4.0 || format == DW_EH_PE_sdata4.0) memory_ok
    (memory_if (format == DW_EH_PE_udata8.0 || format == DW_EH_PE_sdata8.0) memory_ok
    (memory_err (unknown-otherwise encoding)))))

rows-memory : (limit size n : ℕ) (s : Stretch) → NeverWantsMemory (after_rows limit size n s)
rows-memory limit size n s = memory_then (offset_memory limit (n * (2 * size))) (λ offset. behind_memory offset s)

start-memory : (limit size : ℕ) (t : HeaderTable) (index : ℕ) → NeverWantsMemory (start_at limit size t index)
start-memory limit size t index =
    memory_then (rows-memory limit size index t.bytes) (λ s. memory_then (pointer_memory t.origins t.encoding s) (λ start. direct_memory start.0))

target-memory : (limit size : ℕ) (t : HeaderTable) (index : ℕ) → NeverWantsMemory (target_at limit size t index)
target-memory limit size t index =
    memory_then (rows-memory limit size index t.bytes) (λ s.
    memory_then (behind_memory size s) (λ rest.
    memory_then (pointer_memory t.origins t.encoding rest) (λ target. memory_ok)))

-- ---- halving

-- no read of a row wants memory
record IsRead (row : TableRow) : Type 0 where
  start : NeverWantsMemory row.start
  target : NeverWantsMemory row.target

data AreRead : List TableRow → Type 0 where
  no_rows : AreRead []
  one_more : (row : TableRow) (rows : List TableRow) → IsRead row → AreRead rows → AreRead (row ∷ rows)

read-between : (row : ℕ → TableRow) → ((index : ℕ) → IsRead (row index)) → (first n : ℕ) → AreRead (rows_between row first n)
read-between row each first zero = no_rows
read-between row each first (suc n) = one_more (row first) (rows_between row (suc first) n) (each first) (read-between row each (suc first) n)

read-take : (n : ℕ) (rows : List TableRow) → AreRead rows → AreRead (take n rows)
read-take zero rows all = no_rows
read-take (suc n) [] all = no_rows
read-take (suc n) (row ∷ rows) (one_more _ _ here others) = one_more row (take n rows) here (read-take n rows others)

read-drop : (n : ℕ) (rows : List TableRow) → AreRead rows → AreRead (drop n rows)
read-drop zero rows all = all
read-drop (suc n) [] all = no_rows
read-drop (suc n) (row ∷ rows) (one_more _ _ here others) = read-drop n rows others

first-start-memory : (rows : List TableRow) → AreRead rows → NeverWantsMemory (first_start rows)
first-start-memory [] all = memory_err (λ h. cc)
first-start-memory (row ∷ rows) (one_more _ _ here others) = here.start

first-target-memory : (rows : List TableRow) → AreRead rows → NeverWantsMemory (first_target rows)
first-target-memory [] all = memory_err (λ h. cc)
first-target-memory (row ∷ rows) (one_more _ _ here others) = here.target

either-reached : (test : Bool) (a b : Halving) → NeverWantsMemory a.reached → NeverWantsMemory b.reached → NeverWantsMemory (cond test a b).reached
either-reached true a b p q = p
either-reached false a b p q = q

after-reached : (start : Result ℕ Error) (next : ℕ → Halving) → NeverWantsMemory start → ((pivot : ℕ) → NeverWantsMemory (next pivot).reached) → NeverWantsMemory (after_start start next).reached
after-reached (Ok pivot) next h others = others pivot
after-reached (Err e) next h others = memory_err (λ is. h.never (ap (λ (x : Error). Err x) is))

halves-memory : (n address : ℕ) (rows : List TableRow) → AreRead rows → NeverWantsMemory (halving_within n address rows).reached
halves-memory zero address rows all = first-target-memory rows all
halves-memory (suc n) address rows all =
    let half : ℕ = length rows / 2 in
    let back = read-drop half rows all in
    either-reached (half == 0) (ended_at rows) _ (first-target-memory rows all)
    (after-reached (first_start (drop half rows)) _ (first-start-memory (drop half rows) back) (λ pivot.
    either-reached (pivot == address) (ended_at (drop half rows)) _ (first-target-memory (drop half rows) back)
    (either-reached (nat_lt pivot address) (halving_within n address (drop half rows)) (halving_within n address (take half rows))
    (halves-memory n address (drop half rows) back) (halves-memory n address (take half rows) (read-take half rows all)))))

halving-memory : (address : ℕ) (rows : List TableRow) → AreRead rows → NeverWantsMemory (halving address rows).reached
unfolding halving
halving-memory address rows all = halves-memory (length rows) address rows all

-- ---- lookups

row-memory : (limit address : ℕ) (t : HeaderTable) → NeverWantsMemory (header_row limit address t)
row-memory limit address t =
    memory_then (size-memory t.encoding) (λ size.
    let row : ℕ → TableRow = row_at_index limit size t in
    halving-memory address (rows_between row 0 t.count)
    (read-between row (λ index. record { start = start-memory limit size t index; target = target-memory limit size t index }) 0 t.count))

offset-memory : (limit : ℕ) (header : Header) (pointer : Pointer) → NeverWantsMemory (offset_of_pointer limit header pointer)
offset-memory limit header pointer =
    memory_then (direct_memory pointer) (λ address.
    memory_then (direct_memory header.eh_frame_ptr) (λ start.
    memory_then (memory_test _ _ (λ h. cc)) (λ _. offset_memory limit _)))

named-memory : (limit : ℕ) (bases : BaseAddresses) (header : Header) (address : ℕ) → NeverWantsMemory (named_offset limit bases header address)
named-memory limit bases header address =
    memory_then (row-memory limit address (header_table bases.eh_frame_hdr header)) (offset-memory limit header)

pub header_lookup_memory : (section : FrameSection) (bases : BaseAddresses) (header : Header) (address : ℕ) → NeverWantsMemory (fde_by_header section bases header address)
header_lookup_memory section bases header address =
    memory_then (named-memory section.limit bases header address) (λ offset.
    memory_then (fde_memory section offset) (λ fde.
    memory_then (memory_test _ _ (λ h. cc)) (λ _. memory_ok)))
