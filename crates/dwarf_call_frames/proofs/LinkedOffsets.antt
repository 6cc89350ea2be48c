-- What a header that linkers write names, by its rows.
use Rattle.std.proofs.Common.{◌≡◌, ℕ, zero, suc, ◌+◌, ◌*◌, ◌<◌, ◌≤◌, ◌^◌, true, false, List, ◌∷◌, length, drop, Result, Ok, refl, ap, ◌∙◌, arith, drop-drop, length-drop}
use Rattle.std.specs.Prelude.{nat_lt}
use Rattle.std.proofs.lemmas.Bool.Decides.{nat_tests}
use Rattle.dwarf_constants.specs.declared.error.Error.{Error}
use Rattle.dwarf_readers.specs.Stretch.{Stretch, ◌>>=◌, behind, behind_at}
use Rattle.dwarf_frame_rows.specs.EncodedPointer.{direct_address, pointer_at}
use Rattle.dwarf_frame_rows.specs.declared.base_addresses.BaseAddresses.{BaseAddresses}
use Rattle.dwarf_frame_rows.specs.declared.pointer.Pointer.{Pointer}
use Rattle.dwarf_frame_rows.specs.declared.pointer.Pointer.TheVariants.{Direct}
use Rattle.dwarf_call_frames.specs.Halving.{TableRow, halving}
use Rattle.dwarf_call_frames.specs.Header.{offset_of_pointer}
use Rattle.dwarf_call_frames.specs.HeaderEntries.{named_offset}
use Rattle.dwarf_call_frames.specs.HeaderTable.{HeaderTable, after_rows, header_table, row_at_index, rows_between, start_at, target_at}
use Rattle.dwarf_call_frames.specs.Linked.{IsKeptOf, linked_header, linked_pointer, linked_row, linked_rows, target_in}
use Rattle.dwarf_call_frames.specs.declared.linked.LinkedHeader.{LinkedHeader}
use Rattle.dwarf_call_frames.proofs.LinkedHeaders.{pointer-read}

-- rows that are the same one by one
rows-same : (row other : ℕ → TableRow) (first n total : ℕ) → ((i : ℕ) → i < total → row i ≡ other i) → first + n ≤ total → rows_between row first n ≡ rows_between other first n
rows-same row other first zero total same within = refl
rows-same row other first (suc n) total same within =
    rw (same first (omega arith)) (ap (λ rows. other first ∷ rows) (rows-same row other (suc first) n total same (omega arith)))

module _ (bases : BaseAddresses) (bytes : List ℕ) (kept : LinkedHeader) (is : IsKeptOf bases bytes kept) where
  abbrev table : HeaderTable
  table = header_table bases.eh_frame_hdr (linked_header bytes kept)

  abbrev row-bytes : ℕ → List ℕ
  row-bytes index = drop (8 * index) (drop 12 bytes)

  module _ (index : ℕ) (within : index < kept.count) where
    room : 8 ≤ length (row-bytes index)
    room = omega (arith, is.rows.room, length-drop 12 bytes, length-drop (8 * index) (drop 12 bytes))

    behind-rows : after_rows (2 ^ 64) 4 index table.bytes ≡ Ok (behind (8 * index) table.bytes)
    behind-rows =
        let size : index * 8 ≡ 8 * index = omega arith in
        let low : nat_lt (8 * index) (2 ^ 64) ≡ true = grind (arith, nat_tests, is.rows.few) in
        let there : nat_lt (length (drop 12 bytes)) (8 * index) ≡ false = grind (arith, nat_tests, is.rows.room, length-drop 12 bytes) in
        rw (size, low, there) refl

    start-is : start_at (2 ^ 64) 4 table index ≡ Ok (linked_pointer kept.base (row-bytes index))
    start-is =
        ap (λ (r : Result Stretch Error). r >>= λ s. pointer_at table.origins 0x3b s >>= λ p. direct_address p.0) behind-rows
        ∙ ap (λ (r : Result (Pointer × Stretch) Error). r >>= λ p. direct_address p.0) (pointer-read table.origins kept.base (behind (8 * index) table.bytes) is.base refl refl (omega (arith, room)))

    target-is : target_at (2 ^ 64) 4 table index ≡ Ok (target_in kept (drop 12 bytes) index)
    target-is =
        let there : nat_lt (length (row-bytes index)) 4 ≡ false = grind (arith, nat_tests, room) in
        let next : behind_at 4 (behind (8 * index) table.bytes) ≡ Ok (behind 4 (behind (8 * index) table.bytes)) = rw there refl in
        let on : drop 4 (row-bytes index) ≡ drop (8 * index + 4) (drop 12 bytes) = drop-drop 4 (8 * index) (drop 12 bytes) in
        let fits : 4 ≤ length (drop 4 (row-bytes index)) = omega (arith, room, length-drop 4 (row-bytes index)) in
        ap (λ (r : Result Stretch Error). r >>= λ s. behind_at 4 s >>= λ rest. pointer_at table.origins 0x3b rest >>= λ p. Ok p.0) behind-rows
        ∙ ap (λ (r : Result Stretch Error). r >>= λ rest. pointer_at table.origins 0x3b rest >>= λ p. Ok p.0) next
        ∙ ap (λ (r : Result (Pointer × Stretch) Error). r >>= λ p. Ok p.0) (pointer-read table.origins kept.base (behind 4 (behind (8 * index) table.bytes)) is.base refl refl fits)
        ∙ ap (λ (b : List ℕ). Ok (Direct (linked_pointer kept.base b))) on

    row-is : row_at_index (2 ^ 64) 4 table index ≡ linked_row kept (drop 12 bytes) index
    row-is = rw (start-is, target-is) refl

  rows-are : rows_between (row_at_index (2 ^ 64) 4 table) 0 kept.count ≡ linked_rows kept (drop 12 bytes)
  rows-are = rows-same (row_at_index (2 ^ 64) 4 table) (linked_row kept (drop 12 bytes)) 0 kept.count kept.count row-is (omega arith)

  -- the row that halving reaches names the offset
  pub offset-named : (address index : ℕ) → (halving address (linked_rows kept (drop 12 bytes))).reached ≡ Ok (target_in kept (drop 12 bytes) index)
      → named_offset (2 ^ 64) bases (linked_header bytes kept) address ≡ offset_of_pointer (2 ^ 64) (linked_header bytes kept) (target_in kept (drop 12 bytes) index)
  offset-named address index reached =
      ap (λ (rows : List TableRow). (halving address rows).reached >>= λ p. offset_of_pointer (2 ^ 64) (linked_header bytes kept) p) rows-are
      ∙ ap (λ (r : Result Pointer Error). r >>= λ p. offset_of_pointer (2 ^ 64) (linked_header bytes kept) p) reached
