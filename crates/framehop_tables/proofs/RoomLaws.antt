-- The rows and FDEs of an index are those of its section.
use Rattle.std.proofs.Common.{◌≡◌, ℕ, ◌+◌, List, [], ◌∷◌, length, map, Result, refl, sym, ap, ◌∙◌}
use Rattle.std.specs.List.{All, sum_by}
use Rattle.std.proofs.lemmas.List.Elements.{All-filter, All-head, All-tail}
use Rattle.std.proofs.lemmas.List.Sorted.{sum_by-IsPermutation}
use Rattle.std.proofs.lemmas.List.Sums.{sum_by-cons}
use Rattle.dwarf_constants.specs.declared.error.Error.{Error}
use Rattle.dwarf_frame_entries.specs.Entries.{Fde, fde_from_offset}
use Rattle.dwarf_frame_entries.specs.EntryPrograms.{fde_rows}
use Rattle.dwarf_frame_entries.specs.SectionFdes.{StandsAtItsOffset, whole_fdes}
use Rattle.dwarf_frame_entries.proofs.Laws.{fdes_there}
use Rattle.framehop_index.specs.declared.cfi_index.IndexedFde.{IndexedFde}
use Rattle.framehop_index.specs.CfiIndex.{Indexes, index_entry}
use Rattle.framehop_index.specs.EntryFor.{fits_index, indexed_fdes}
use Rattle.framehop_tables.specs.Covered.{Tabulated}
use Rattle.framehop_tables.specs.RuleTables.{room_of}
use Rattle.framehop_tables.specs.Tabulations.{room_within, row_count}

module _ {Rule : Type 0} (t : Tabulated Rule) where
  room_at : IndexedFde → ℕ
  room_at kept = row_count t (fde_from_offset t.section kept.offset) + 1

  room_fde : Fde → ℕ
  room_fde fde = length (fde_rows t.limits t.section t.vendor fde).rows + 1

  room-sum : (kept : List IndexedFde) → room_within t kept ≡ sum_by room_at kept
  unfolding room_at
  room-sum [] = refl
  room-sum (fde ∷ others) = ap (λ (n : ℕ). row_count t (fde_from_offset t.section fde.offset) + 1 + n) (room-sum others) ∙ sym (sum_by-cons room_at fde others)

  room-fdes : (fdes : List Fde) → All (StandsAtItsOffset t.section) fdes → sum_by room_at (map (index_entry t.base) fdes) ≡ sum_by room_fde fdes
  unfolding room_at room_fde
  room-fdes [] there = refl
  room-fdes (fde ∷ fdes) there =
      let here = All-head (StandsAtItsOffset t.section) fde fdes there in
      let others = room-fdes fdes (All-tail (StandsAtItsOffset t.section) fde fdes there) in
      sum_by-cons room_at (index_entry t.base fde) (map (index_entry t.base) fdes)
      ∙ ap (λ (entry : Result Fde Error). row_count t entry + 1 + sum_by room_at (map (index_entry t.base) fdes)) here
      ∙ ap (λ (n : ℕ). room_fde fde + n) others
      ∙ sym (sum_by-cons room_fde fde fdes)

  -- so much room an index needs
  pub room-indexed : (kept : List IndexedFde) (others : ℕ) → Indexes kept others t.base t.section → room_within t kept ≡ room_of t
  unfolding room_fde
  room-indexed kept others is =
      room-sum kept
      ∙ sum_by-IsPermutation room_at (map (index_entry t.base) (indexed_fdes t.base t.section)) kept is.moved
      ∙ room-fdes (indexed_fdes t.base t.section) (All-filter (fits_index t.base) (StandsAtItsOffset t.section) (whole_fdes t.section) (fdes_there t.section))
