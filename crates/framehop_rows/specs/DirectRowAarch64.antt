-- The caller that a row gives by itself, if no unwind rule says the row (DWARF 5, 6.4.1), on aarch64.
use Rattle.std.specs.Prelude.{ℕ, Bool, not, ◌&&◌, Option, Some, None, option_and_then, Result, Ok, Err, nat_le, if◌then◌else◌}
use Rattle.dwarf_readers.specs.Stretch.{Stretch}
use Rattle.framehop_registers.specs.Callback.{Words}
use Rattle.framehop_registers.specs.RegistersAarch64.{lr_of, sp_of, fp_of}
use Rattle.framehop_registers.specs.declared.aarch64.unwindregs.UnwindRegsAarch64.{UnwindRegsAarch64}
use Rattle.framehop_rules.specs.Outcome.{Caller}
use Rattle.framehop_rows.specs.Columns.{Sources, cfa_by, column_by}
use Rattle.framehop_rows.specs.RowAnswerAarch64.{register_value, caller_with}
use Rattle.framehop_rows.specs.RowSources.{direct_sources}
use Rattle.framehop_errors.specs.declared.dwarf.DwarfUnwinderError.{DwarfUnwinderError}
use Rattle.framehop_errors.specs.declared.dwarf.DwarfUnwinderError.TheVariants.{CouldNotRecoverCfa, CouldNotRecoverFramePointer, CouldNotRecoverReturnAddress, StackPointerMovedBackwards}
use Rattle.dwarf_frame_parts.specs.declared.parts.Parts.{Parts}

-- a register of the caller: what its rule gives, or else, in a first frame, its value in the frame
abbrev pub restored : Bool → (own : ℕ) → Option ℕ → Option ℕ
restored first own (Some value) = Some value
restored first own None = if first then Some own else None

-- the caller by its link register
abbrev pub direct_by_lr : UnwindRegsAarch64 → (cfa fp : ℕ) → Option ℕ → Result (Caller UnwindRegsAarch64) DwarfUnwinderError
direct_by_lr registers cfa fp None = Err CouldNotRecoverReturnAddress
direct_by_lr registers cfa fp (Some lr) = Ok (caller_with registers lr cfa fp)

-- the caller by its frame pointer, and then its link register
abbrev pub direct_by_fp : UnwindRegsAarch64 → (cfa : ℕ) → (lr fp : Option ℕ) → Result (Caller UnwindRegsAarch64) DwarfUnwinderError
direct_by_fp registers cfa lr None = Err CouldNotRecoverFramePointer
direct_by_fp registers cfa lr (Some fp) = direct_by_lr registers cfa fp lr

-- the caller by its CFA, which is above the stack pointer of a later frame
abbrev pub direct_by_cfa : Sources → Bool → UnwindRegsAarch64 → Words → Parts ℕ → Option ℕ
    → Result (Caller UnwindRegsAarch64) DwarfUnwinderError
direct_by_cfa sources first registers words parts None = Err CouldNotRecoverCfa
direct_by_cfa sources first registers words parts (Some cfa) =
    if not first && nat_le cfa (sp_of registers) then Err StackPointerMovedBackwards
    else direct_by_fp registers cfa
    (restored first (lr_of registers) (option_and_then (column_by sources words cfa (lr_of registers)) parts.ra))
    (restored first (fp_of registers) (option_and_then (column_by sources words cfa (fp_of registers)) parts.fp))

-- the caller by what the row is evaluated by
abbrev pub direct_by : Sources → Bool → UnwindRegsAarch64 → Words → Parts ℕ → Result (Caller UnwindRegsAarch64) DwarfUnwinderError
direct_by sources first registers words parts = direct_by_cfa sources first registers words parts (cfa_by sources parts.cfa)

-- the caller that a row of a section gives in a first or a later frame, or the first error
abbrev pub direct_answer : (limit : Option ℕ) → (address_size : ℕ) → Bool → UnwindRegsAarch64 → Words → Stretch → Parts ℕ
    → Result (Caller UnwindRegsAarch64) DwarfUnwinderError
direct_answer limit address_size first registers words section parts =
    direct_by (direct_sources limit address_size section (register_value registers)) first registers words parts
