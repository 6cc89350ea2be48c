-- The caller that a row gives by itself, if no unwind rule says the row (DWARF 5, 6.4.1), on x86_64.
use Rattle.std.specs.Prelude.{ℕ, Bool, not, ◌&&◌, Option, Some, None, option_and_then, unwrap_or, Result, Ok, Err, ◌==◌, nat_lt, if◌then◌else◌}
use Rattle.std.specs.Option.{option_or}
use Rattle.framehop_registers.specs.Callback.{Words}
use Rattle.framehop_rules.specs.Outcome.{Caller}
use Rattle.framehop_registers.specs.Registers.{ip_of, sp_of, bp_of}
use Rattle.framehop_rules.specs.RuleMeaning.{caller_registers}
use Rattle.framehop_registers.specs.declared.x86_64.unwindregs.UnwindRegsX86_64.{UnwindRegsX86_64}
use Rattle.dwarf_readers.specs.Stretch.{Stretch}
use Rattle.dwarf_frame_rows.specs.declared.rules.RegisterRule.{RegisterRule}
use Rattle.framehop_errors.specs.declared.dwarf.DwarfUnwinderError.{DwarfUnwinderError}
use Rattle.framehop_errors.specs.declared.dwarf.DwarfUnwinderError.TheVariants.{CouldNotRecoverCfa, CouldNotRecoverReturnAddress, DidNotAdvance, StackPointerMovedBackwards}
use Rattle.framehop_rows.specs.Columns.{Sources, cfa_by, column_by}
use Rattle.framehop_rows.specs.RowAnswer.{register_value}
use Rattle.framehop_rows.specs.RowSources.{direct_sources, word_below_cfa}
use Rattle.dwarf_frame_parts.specs.declared.parts.Parts.{Parts}

-- what a row of a section is evaluated by in a frame
abbrev pub frame_sources : (limit : Option ℕ) → (address_size : ℕ) → Stretch → UnwindRegsX86_64 → Sources
frame_sources limit address_size section registers = direct_sources limit address_size section (register_value registers)

-- the return address: what its register rule gives, or else the word below the CFA
abbrev pub direct_return_address : Sources → UnwindRegsX86_64 → Words → ℕ → Option (RegisterRule ℕ) → Option ℕ
direct_return_address sources registers words cfa ra =
    option_or (option_and_then (column_by sources words cfa (ip_of registers)) ra) (word_below_cfa words cfa)

-- the caller's RBP: what its register rule gives, or else this frame's
abbrev pub direct_bp : Sources → UnwindRegsX86_64 → Words → ℕ → Option (RegisterRule ℕ) → ℕ
direct_bp sources registers words cfa bp =
    unwrap_or (option_and_then (column_by sources words cfa (bp_of registers)) bp) (bp_of registers)

-- why a step fails, if it does: it changes neither the stack pointer nor the code address, or it is that of a later frame and lowers
-- the stack pointer
abbrev pub direct_refusal : Bool → UnwindRegsX86_64 → ℕ → ℕ → Option DwarfUnwinderError
direct_refusal first registers cfa to =
    if (cfa == sp_of registers) && (to == ip_of registers) then Some DidNotAdvance
    else if not first && nat_lt cfa (sp_of registers) then Some StackPointerMovedBackwards
    else None

-- the caller, unless the step fails
abbrev pub caller_unless : Option DwarfUnwinderError → Caller UnwindRegsX86_64
    → Result (Caller UnwindRegsX86_64) DwarfUnwinderError
caller_unless None caller = Ok caller
caller_unless (Some refusal) caller = Err refusal

-- the caller by its return address: the stack pointer is the CFA, and all else but RBP stays
abbrev pub direct_by_return_address : Sources → Bool → UnwindRegsX86_64 → Words → Parts ℕ → ℕ → Option ℕ
    → Result (Caller UnwindRegsX86_64) DwarfUnwinderError
direct_by_return_address sources first registers words parts cfa None = Err CouldNotRecoverReturnAddress
direct_by_return_address sources first registers words parts cfa (Some to) =
    caller_unless (direct_refusal first registers cfa to) (record {
      return_address = to;
      registers = caller_registers registers to cfa (direct_bp sources registers words cfa parts.fp);
    })

-- the caller by its CFA
abbrev pub direct_by_cfa : Sources → Bool → UnwindRegsX86_64 → Words → Parts ℕ → Option ℕ
    → Result (Caller UnwindRegsX86_64) DwarfUnwinderError
direct_by_cfa sources first registers words parts None = Err CouldNotRecoverCfa
direct_by_cfa sources first registers words parts (Some cfa) =
    direct_by_return_address sources first registers words parts cfa (direct_return_address sources registers words cfa parts.ra)

-- the caller by what the row is evaluated by
abbrev pub direct_by : Sources → Bool → UnwindRegsX86_64 → Words → Parts ℕ → Result (Caller UnwindRegsX86_64) DwarfUnwinderError
direct_by sources first registers words parts = direct_by_cfa sources first registers words parts (cfa_by sources parts.cfa)

-- the caller that a row of a section gives in a first or a later frame, or the first error
abbrev pub direct_answer : (limit : Option ℕ) → (address_size : ℕ) → Bool → UnwindRegsX86_64 → Words → Stretch → Parts ℕ
    → Result (Caller UnwindRegsX86_64) DwarfUnwinderError
direct_answer limit address_size first registers words section parts =
    direct_by (frame_sources limit address_size section registers) first registers words parts
