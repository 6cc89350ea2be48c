-- The instructions of entries, and the rows of an FDE (DWARF 5, 6.4.1 to 6.4.3).
use Rattle.std.specs.Prelude.{◌≡◌, ℕ, true, length, Option, Some, None, option_map, Result}
use Rattle.dwarf_constants.specs.declared.common.Vendor.{Vendor}
use Rattle.dwarf_constants.specs.declared.error.Error.{Error}
use Rattle.dwarf_frame_rows.specs.Effects.{Limits}
use Rattle.dwarf_frame_rows.specs.Row.{Row}
use Rattle.dwarf_frame_instructions.specs.declared.effects.Factors.{Factors}
use Rattle.dwarf_frame_instructions.specs.Instructions.{Conventions, instructions_of}
use Rattle.dwarf_frame_instructions.specs.Programs.{Instructions, EntryProgram, IsComplete, RowList, row_for, rows_at, rows_of_program}
use Rattle.dwarf_frame_rows.specs.FrameSection.{FrameSection, origins_in}
use Rattle.dwarf_frame_entries.specs.Entries.{Cie, Fde, address_encoding, contains, end_address}

-- what decides how the instructions of a CIE and of its FDEs are read: the operand of DW_CFA_set_loc is encoded as the addresses
-- of FDEs, and may be relative to the start of the FDE's function
abbrev pub conventions_in : FrameSection → Vendor → Cie → Option ℕ → Conventions
conventions_in section vendor cie function = record {
  encoding = option_map (λ e. e.0) (address_encoding cie);
  origins = origins_in section.within cie.address_size function;
  vendor = vendor;
  limit = section.limit;
}

-- the instructions of a CIE
abbrev pub cie_instructions : FrameSection → Vendor → Cie → Instructions ℕ
cie_instructions section vendor cie = instructions_of (conventions_in section vendor cie None) cie.instructions

-- the instructions of an FDE itself
abbrev pub fde_instructions : FrameSection → Vendor → Fde → Instructions ℕ
fde_instructions section vendor fde =
    instructions_of (conventions_in section vendor fde.cie (Some fde.initial_address)) fde.instructions

-- the alignment factors that operands are multiplied by, and the size of an address
abbrev pub factors_of : Cie → Factors
factors_of cie = record {
  code_alignment_factor = cie.code_alignment_factor;
  data_alignment_factor = cie.data_alignment_factor;
  address_size = cie.address_size;
}

-- the program of an FDE: the range of its code, its CIE's instructions, and its own
abbrev pub fde_program : FrameSection → Vendor → Fde → EntryProgram ℕ
fde_program section vendor fde = record {
  factors = factors_of fde.cie;
  initial_address = fde.initial_address;
  end_address = end_address fde;
  initial_instructions = cie_instructions section vendor fde.cie;
  instructions = fde_instructions section vendor fde;
}

-- the rows of an FDE
abbrev pub fde_rows : Limits → FrameSection → Vendor → Fde → RowList ℕ
fde_rows limits section vendor fde = rows_of_program limits (fde_program section vendor fde)

-- the row of an FDE for an address
abbrev pub fde_row : Limits → FrameSection → Vendor → Fde → ℕ → Result (Row ℕ) Error
fde_row limits section vendor fde address = row_for limits (fde_program section vendor fde) address

-- If no error ends an FDE's rows, each address of its code is in exactly one of them.
abbrev pub RowsCoverCode : Limits → FrameSection → Vendor → Fde → Type 0
RowsCoverCode limits section vendor fde =
    let program = fde_program section vendor fde in
    IsComplete limits program → (address : ℕ) → contains address fde ≡ true → length (rows_at limits program address) ≡ 1
