-- The entry that an index finds is what stands at its offset.
use Rattle.std.proofs.Common.{◌≡◌, ℕ, ◌+◌, List, Option, Some, None, Result, Ok, Err, refl, ap, subst, ◌∙◌}
use Rattle.std.specs.Prelude.{nat_le, option_map}
use Rattle.std.specs.List.{filter}
use Rattle.std.specs.Result.{result_ok}
use Rattle.std.proofs.lemmas.List.Elements.{All-filter}
use Rattle.dwarf_constants.specs.declared.error.Error.{Error}
use Rattle.dwarf_frame_rows.specs.FrameSection.{FrameSection}
use Rattle.dwarf_endianity.specs.Answers.{Gives}
use Rattle.dwarf_frame_entries.specs.Entries.{Fde, fde_from_offset}
use Rattle.dwarf_frame_entries.specs.SectionFdes.{StandsAtItsOffset, whole_fdes, nearest_fde}
use Rattle.dwarf_frame_entries.proofs.Laws.{fdes_there}
use Rattle.list_laws.specs.Greatest.{is_greatest}
use Rattle.list_laws.proofs.Laws.{by_case}
use Rattle.framehop_index.specs.EntryFor.{fits_index, has_index, indexed_entry, indexed_fdes}
use Rattle.framehop_index.proofs.EntryIndex.{find-has}

-- the indexed entry is what stands at its offset
pub indexed-there : (section : FrameSection) (base relative : ℕ) (g : Fde) → indexed_entry base relative section ≡ Some g → fde_from_offset section g.head.offset ≡ Ok g
unfolding indexed_entry
indexed-there section base relative g h =
    by_case (has_index section)
    (λ is. let found : nearest_fde (base + relative) (indexed_fdes base section) ≡ Some g = rw is at h in
    let within : List Fde = filter (λ fde. nat_le fde.initial_address (base + relative)) (indexed_fdes base section) in
    find-has (StandsAtItsOffset section) (is_greatest (λ fde. fde.initial_address) within) within g
    (All-filter (λ fde. nat_le fde.initial_address (base + relative)) (StandsAtItsOffset section) (indexed_fdes base section)
    (All-filter (fits_index base) (StandsAtItsOffset section) (whole_fdes section) (fdes_there section))) found)
    (λ is. let none : ◌≡◌ {A = Option Fde} None (Some g) = rw is at h in cc)

-- what is read at the offset that was found is that entry
pub read-there : (section : FrameSection) (base relative offset : ℕ) (read : Result Fde Error) → Some offset ≡ option_map (λ fde. fde.head.offset) (indexed_entry base relative section)
    → Gives (λ fde. fde) read (fde_from_offset section offset) → result_ok read ≡ indexed_entry base relative section
read-there section base relative offset read found gives = by (indexed_entry base relative section) refl found
  where
    same : (r : Result Fde Error) (g : Fde) → Gives (λ fde. fde) r (Ok g) → result_ok r ≡ Some g
    same (Ok x) g h = cc
    same (Err e) g h = cc

    by : (o : Option Fde) → indexed_entry base relative section ≡ o → Some offset ≡ option_map (λ fde. fde.head.offset) o → result_ok read ≡ o
    by None e h = cc
    by (Some g) e h =
        let place : offset ≡ g.head.offset = cc in
        same read g (subst (λ r. Gives (λ fde. fde) read r) (ap (fde_from_offset section) place ∙ indexed-there section base relative g e) gives)
