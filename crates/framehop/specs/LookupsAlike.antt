-- What each lookup leads to if the header of a section is truthful, and the attempts and the steps by each.
use Rattle.std.specs.Prelude.{◌≡◌, ℕ, ◌+◌, ◌^◌, ◌<◌, Bool, true, Some, None, Ok, Err}
use Rattle.dwarf_constants.specs.declared.common.Vendor.{Vendor}
use Rattle.dwarf_constants.specs.declared.error.Error.TheVariants.{NoUnwindInfoForAddress}
use Rattle.dwarf_frame_rows.specs.Effects.{Limits}
use Rattle.dwarf_frame_rows.specs.Row.{Row}
use Rattle.dwarf_frame_rows.specs.declared.base_addresses.BaseAddresses.{BaseAddresses}
use Rattle.dwarf_frame_entries.specs.AddressLookups.{fde_for_address_skipping}
use Rattle.dwarf_frame_entries.specs.Entries.{Fde, contains, fde_from_offset}
use Rattle.dwarf_frame_entries.specs.EntryPrograms.{fde_row}
use Rattle.framehop_rows.specs.RowMeanings.{RowMeanings}
use Rattle.framehop_unwinder.specs.Attempt.{Attempt, Meanings, Says, SaysNothing}
use Rattle.framehop.specs.Attempts.{attempt}
use Rattle.framehop_loads.specs.StepLimits.{StepLimits}
use Rattle.framehop.specs.Coverage.{Uncovered, covered_by_fde}
use Rattle.framehop_index.specs.Lookups.{found_by_index}
use Rattle.framehop.specs.SameSteps.{StepsAlike}
use Rattle.framehop.specs.TruthfulLookups.{AreTruthfulFor, AttemptsAlike, HeadedSection, IsFdeFor, headed_section, headed_data, indexed_data, nearest_at, offset_headed, scanned_data}
use Rattle.framehop_loads.specs.UnwindData.{UnwindData}

-- ---- addresses relative to the base of a section whose header is truthful; `bases` are the header's for the section

-- An FDE contains the address.
pub record AddressWithin : Type 0 where
  pub h : HeadedSection
  pub bases : BaseAddresses
  pub relative : ℕ
  pub fde : Fde
  pub truthful : AreTruthfulFor h bases
  pub found : IsFdeFor h relative fde

-- The address is at or above the lowest start, and this FDE is the nearest.
pub record AddressFrom : Type 0 where
  pub h : HeadedSection
  pub bases : BaseAddresses
  pub relative : ℕ
  pub fde : Fde
  pub truthful : AreTruthfulFor h bases
  pub nearest : nearest_at h relative ≡ Some fde

-- The address is below all starts, and has 64 bits.
pub record AddressBelow : Type 0 where
  pub h : HeadedSection
  pub bases : BaseAddresses
  pub relative : ℕ
  pub truthful : AreTruthfulFor h bases
  pub fits : h.base + relative < 2 ^ 64
  pub below : nearest_at h relative ≡ None

-- ---- what lookups lead to

-- Each lookup leads to this FDE: the header and the index by its offset, the scan by itself.
pub record AllLeadTo (h : HeadedSection) (relative : ℕ) (fde : Fde) : Type 0 where
  pub by_header : offset_headed h relative ≡ Some fde.head.offset
  pub by_index : found_by_index (headed_section h) h.base relative ≡ Some fde.head.offset
  pub at_offset : fde_from_offset (headed_section h) fde.head.offset ≡ Ok fde
  pub by_scan : fde_for_address_skipping (headed_section h) (h.base + relative) ≡ Ok fde

-- The header leads to an FDE that starts above the address.
pub record LeadsAbove (h : HeadedSection) (relative : ℕ) : Type 0 where
  pub fde : Fde
  pub above : h.base + relative < fde.initial_address
  pub leads : offset_headed h relative ≡ Some fde.head.offset
  pub at_offset : fde_from_offset (headed_section h) fde.head.offset ≡ Ok fde

-- The lookups of an address below all FDEs: a header with rows leads to an FDE above the address, an index to none, and after reading
-- the section it is known that no FDE that can be read contains the address.
pub record LookupsBelowAll (a : AddressBelow) : Type 0 where
  pub by_header : 0 < a.truthful.truthful.says.count → LeadsAbove a.h a.relative
  pub by_index : found_by_index (headed_section a.h) a.h.base a.relative ≡ None
  pub by_scan : fde_for_address_skipping (headed_section a.h) (a.h.base + a.relative) ≡ Err NoUnwindInfoForAddress

-- ---- attempts

-- If a row of the nearest FDE holds at the address, the FDE contains the address.
abbrev pub HoldsOnlyWithin : Limits → Vendor → AddressFrom → Type 0
HoldsOnlyWithin limits vendor a =
    let address = a.h.base + a.relative in
    (row : Row ℕ) → fde_row limits (headed_section a.h) vendor a.fde address ≡ Ok row → contains address a.fde ≡ true

-- From the lowest start on the attempt by an index is that by the header; and so is that by a scan, unless a row of the nearest FDE holds
-- past the end of the FDE's code.
pub record AttemptsFrom {Rule Registers : Type 0} (m : RowMeanings Rule Registers) (limits : StepLimits) (a : AddressFrom) : Type 0 where
  pub by_index : AttemptsAlike m limits a.relative (indexed_data a.bases a.h) (headed_data a.h)
  pub by_scan : HoldsOnlyWithin limits.rows m.vendor a → AttemptsAlike m limits a.relative (scanned_data a.bases a.h) (headed_data a.h)

-- Whatever the header leads to, no row of it covers the address.
abbrev pub LeavesUncovered : Limits → Vendor → AddressBelow → Type 0
LeavesUncovered limits vendor a =
    (offset : ℕ) → offset_headed a.h a.relative ≡ Some offset
    → covered_by_fde limits vendor (headed_section a.h) a.h.base a.relative offset ≡ Uncovered

-- this is what a module's data says of a relative address, in a first and in a later frame
abbrev pub AttemptIs : {Rule Registers : Type 0} → RowMeanings Rule Registers → StepLimits → (relative : ℕ) → UnwindData
    → Attempt Rule Registers → Type 0
AttemptIs m limits relative given said = (first : Bool) → attempt m limits given relative first ≡ said

-- Below the lowest start: a header with rows leaves the address uncovered, so the attempt is the rule for code that no row covers, and so
-- is that by a scan; an index says nothing.
pub record AttemptsBelow {Rule Registers : Type 0} (m : RowMeanings Rule Registers) (limits : StepLimits) (a : AddressBelow) : Type 0 where
  pub uncovered : 0 < a.truthful.truthful.says.count → LeavesUncovered limits.rows m.vendor a
  pub by_header : 0 < a.truthful.truthful.says.count → AttemptIs m limits a.relative (headed_data a.h) (Says m.uncovered)
  pub by_index : AttemptIs m limits a.relative (indexed_data a.bases a.h) SaysNothing
  pub by_scan : AttemptIs m limits a.relative (scanned_data a.bases a.h) (Says m.uncovered)

-- ---- steps

-- Where an FDE contains the address, the steps there by an index and by a scan are those by the header, whatever other modules there are.
pub record AllStepAlike {Rule Registers : Type 0} (m : Meanings UnwindData Rule Registers) (a : AddressWithin) : Type 0 where
  pub by_index : StepsAlike m a.relative (indexed_data a.bases a.h) (headed_data a.h)
  pub by_scan : StepsAlike m a.relative (scanned_data a.bases a.h) (headed_data a.h)
