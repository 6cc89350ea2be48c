-- What an index of a section's FDEs is made of.
use Rattle.std.specs.Prelude.{◌≡◌, ◌≢◌, ℕ, ◌-◌, List, length, map, true, Option, Some, None, option_map, Result, Ok, Err, nat_le, if◌then◌else◌}
use Rattle.std.specs.List.{filter}
use Rattle.std.specs.List.Sorted.{IsPermutation}
use Rattle.list_laws.specs.Last.{last_of}
use Rattle.dwarf_constants.specs.declared.error.Error.{Error}
use Rattle.dwarf_frame_rows.specs.FrameSection.{FrameSection}
use Rattle.dwarf_frame_entries.specs.Entries.{Fde}
use Rattle.framehop_index.specs.EntryFor.{fits_index, has_index, index_error, indexed_entry, indexed_fdes, left_out}
use Rattle.framehop_index.specs.declared.cfi_index.IndexedFde.{IndexedFde}
use Rattle.framehop_errors.specs.declared.cfi_index.DwarfCfiIndexError.{DwarfCfiIndexError}
use Rattle.framehop_errors.specs.declared.cfi_index.DwarfCfiIndexError.TheVariants.{OutOfMemory}

-- The result of making something of a section for its index: the section has one, and this holds of what was made; or the error is
-- why the section has none, unless memory ran out.
abbrev pub IsMadeOf : {X : Type 0} → Result X DwarfCfiIndexError → (X → ℕ → FrameSection → Type 0) → (base : ℕ) → FrameSection → Type 0
IsMadeOf (Ok made) Is base section = Is made base section × (index_error section ≡ None)
IsMadeOf (Err error) Is base section = error ≢ OutOfMemory → index_error section ≡ Some error

-- what an index keeps of an FDE: its start relative to the base, and its offset in the section
abbrev pub index_entry : (base : ℕ) → Fde → IndexedFde
index_entry base fde = record { start = fde.initial_address - base; offset = fde.head.offset }

-- .. if it can hold it
abbrev pub entry_held : (base : ℕ) → Fde → Option IndexedFde
entry_held base fde = if fits_index base fde then Some (index_entry base fde) else None

-- .. and if it can be read
abbrev pub entry_kept : (base : ℕ) → Result Fde Error → Option IndexedFde
entry_kept base (Ok fde) = entry_held base fde
entry_kept base (Err e) = None

-- these are what an index keeps of the FDEs of a section, in their order, and so many it leaves out
abbrev pub KeepsAll : List IndexedFde → (others : ℕ) → (base : ℕ) → FrameSection → Type 0
KeepsAll kept others base section = (kept ≡ map (index_entry base) (indexed_fdes base section)) × (others ≡ left_out base section)

-- the offset in the section of the last that starts at or below an address, of those that an index keeps
abbrev pub offset_by_index : List IndexedFde → (relative : ℕ) → Option ℕ
offset_by_index kept relative = option_map (λ fde. fde.offset) (last_of (filter (λ fde. nat_le fde.start relative) kept))

-- These are kept by an index of the section, and so many FDEs are left out: the section has an index, for each address they give the
-- offset of its FDE, and they are what is kept of the FDEs that the index holds, in some order.
pub record Indexes (kept : List IndexedFde) (others : ℕ) (base : ℕ) (section : FrameSection) : Type 0 where
  pub has : has_index section ≡ true
  pub finds : (relative : ℕ) → offset_by_index kept relative ≡ option_map (λ fde. fde.head.offset) (indexed_entry base relative section)
  pub count : length kept ≡ length (indexed_fdes base section)
  pub moved : IsPermutation (map (index_entry base) (indexed_fdes base section)) kept
  pub leaves : others ≡ left_out base section
