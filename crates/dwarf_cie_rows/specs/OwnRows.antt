-- What is known of the own instructions of CIEs (DWARF 5, 6.4.3), by what they leave of the CFA and of two registers.
use Rattle.std.specs.Prelude.{◌≡◌, ℕ, Option, Some, None, Ok, Err, IfSome, IsTrue}
use Rattle.dwarf_constants.specs.declared.common.Vendor.{Vendor}
use Rattle.dwarf_constants.specs.declared.error.Error.{Error}
use Rattle.dwarf_frame_rows.specs.Effects.{Limits}
use Rattle.dwarf_frame_rows.specs.FrameSection.{FrameSection}
use Rattle.dwarf_frame_instructions.specs.declared.effects.Factors.{Factors}
use Rattle.dwarf_frame_instructions.specs.Programs.{EntryProgram, Instructions, executed_by_cie}
use Rattle.dwarf_frame_entries.specs.Entries.{Cie, Fde, cie_from_offset}
use Rattle.dwarf_frame_entries.specs.EntryPrograms.{cie_instructions, factors_of}
use Rattle.dwarf_frame_entries.specs.Kept.{EachKept}
use Rattle.dwarf_frame_parts.specs.declared.left.LeftByCie.{LeftByCie}
use Rattle.dwarf_frame_parts.specs.declared.simple_row.Columns.{Columns}
use Rattle.dwarf_frame_parts.specs.Execution.{AreLeftBy}
use Rattle.dwarf_frame_parts.specs.PartsStates.{HasRoomForParts}
use Rattle.dwarf_cie_rows.specs.declared.own_rows.KnownRows.{KnownRows}
use Rattle.dwarf_cie_rows.specs.declared.own_rows.OwnRow.{OwnRow}
use Rattle.dwarf_cie_rows.specs.declared.own_rows.OwnRow.TheVariants.{Left, Fails, InContext}

-- The CIE of an FDE is what is at its own offset in the section.
abbrev pub HasCieThere : FrameSection → Fde → Type 0
HasCieThere section fde = cie_from_offset section fde.cie.head.offset ≡ Ok fde.cie

-- what a CIE's own instructions leave, if it is known without a context
abbrev pub left_in : OwnRow → Option LeftByCie
left_in (Left left) = Some left
left_in Fails = None
left_in InContext = None

module _ (columns : Columns) where
  -- The CIE's own instructions of a program leave this.
  abbrev pub AreLeftIn : EntryProgram ℕ → LeftByCie → Type 0
  AreLeftIn program left = AreLeftBy columns program.factors program.initial_instructions left

  -- .. and a program is executed without a context from there
  abbrev pub HasRoomFor : Limits → EntryProgram ℕ → LeftByCie → Type 0
  HasRoomFor limits program left = HasRoomForParts limits × AreLeftIn program left

  module _ (limits : Limits) where
    -- What is known of a CIE's own instructions, by its factors, is so.
    abbrev pub IsOwnBy : Factors → Instructions ℕ → OwnRow → Type 0
    IsOwnBy factors instructions (Left left) = HasRoomForParts limits × AreLeftBy columns factors instructions left
    IsOwnBy factors instructions Fails = (e : Error) × (executed_by_cie limits factors instructions ≡ Err e)
    IsOwnBy factors instructions InContext = Unit {0}

    module _ (section : FrameSection) (vendor : Vendor) where
      -- .. of a CIE of a section
      abbrev pub IsOwn : Cie → OwnRow → Type 0
      IsOwn cie own = IsOwnBy (factors_of cie) (cie_instructions section vendor cie) own

      -- .. of that of an FDE
      abbrev pub IsOwnOf : Fde → OwnRow → Type 0
      IsOwnOf fde own = IsOwn fde.cie own

      -- .. of that at an offset
      abbrev pub IsOwnAt : (offset : ℕ) → OwnRow → Type 0
      IsOwnAt offset own = (cie : Cie) → cie_from_offset section offset ≡ Ok cie → IsOwn cie own

      -- What is known of a section's CIEs and of a context's room is so.
      pub record HoldsBy (known : KnownRows) : Type 0 where
        pub room : IsTrue known.has_room → HasRoomForParts limits
        pub last : IfSome known.last (λ last. IsOwnAt last.offset last.own)
        pub all : EachKept IsOwnAt known.all
