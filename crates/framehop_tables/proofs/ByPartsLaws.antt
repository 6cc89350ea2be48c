-- What is known of the own instructions of CIEs, in the rows of FDEs.
use Rattle.std.proofs.Common.{◌≡◌, ℕ, [], Err, refl, subst}
use Rattle.std.specs.Prelude.{IfSome}
use Rattle.dwarf_constants.specs.declared.common.Vendor.{Vendor}
use Rattle.dwarf_constants.specs.declared.error.Error.{Error}
use Rattle.dwarf_frame_rows.specs.Effects.{Limits}
use Rattle.dwarf_frame_rows.specs.FrameSection.{FrameSection}
use Rattle.dwarf_frame_instructions.specs.Programs.{EntryProgram, effects_of_cie, rows_of_program}
use Rattle.dwarf_frame_entries.specs.Entries.{Fde}
use Rattle.dwarf_frame_entries.specs.EntryPrograms.{fde_program, fde_rows}
use Rattle.dwarf_frame_parts.specs.declared.simple_row.Columns.{Columns}
use Rattle.dwarf_cie_rows.specs.OwnRows.{HasRoomFor, IsOwnOf, left_in}
use Rattle.dwarf_cie_rows.specs.declared.own_rows.OwnRow.{OwnRow}
use Rattle.dwarf_cie_rows.specs.declared.own_rows.OwnRow.TheVariants.{Left, Fails, InContext}

-- a program has no rows if its CIE's own instructions fail
pub no-rows : (limits : Limits) (program : EntryProgram ℕ) (e : Error) → effects_of_cie limits program ≡ Err e → (rows_of_program limits program).rows ≡ []
no-rows limits program e fails = rw fails refl

module _ (columns : Columns) (limits : Limits) (section : FrameSection) (vendor : Vendor) where
  -- an FDE has no rows if the own instructions of its CIE fail
  pub fails-rows : (fde : Fde) (own : OwnRow) → own ≡ Fails → IsOwnOf columns limits section vendor fde own → (fde_rows limits section vendor fde).rows ≡ []
  fails-rows fde own it is = let fails = subst (IsOwnOf columns limits section vendor fde) it is in no-rows limits (fde_program section vendor fde) fails.0 fails.1

  -- what is left is left in an FDE's program
  pub left-known : (fde : Fde) (own : OwnRow) → IsOwnOf columns limits section vendor fde own → IfSome (left_in own) (HasRoomFor columns limits (fde_program section vendor fde))
  left-known fde (Left left) is = is
  left-known fde Fails is = tt
  left-known fde InContext is = tt
