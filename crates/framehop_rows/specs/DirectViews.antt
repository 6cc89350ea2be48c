-- Words of private functions' contracts alone: the caller that the code makes of a row on x86_64.
use Rattle.std.specs.Prelude.{ℕ, Option, Result, Ok, Err}
use Rattle.dwarf_constants.specs.declared.common.Encoding.{Encoding}
use Rattle.dwarf_readers.specs.Stretch.{Stretch}
use Rattle.dwarf_frame_rows.specs.declared.rules.RegisterRule.{RegisterRule}
use Rattle.framehop_registers.specs.Callback.{Words}
use Rattle.framehop_rules.specs.Outcome.{Caller}
use Rattle.framehop_rules.specs.RuleMeaning.{caller_registers}
use Rattle.framehop_registers.specs.declared.x86_64.unwindregs.UnwindRegsX86_64.{UnwindRegsX86_64}
use Rattle.framehop_errors.specs.declared.dwarf.DwarfUnwinderError.{DwarfUnwinderError}
use Rattle.framehop_rows.specs.DirectRow.{frame_sources, direct_return_address}
use Rattle.framehop_rows.specs.declared.x86_64.dwarf.DirectCaller.{DirectCaller}

-- the caller's return address and registers, by those of the frame
abbrev pub caller_shown : UnwindRegsX86_64 → Result DirectCaller DwarfUnwinderError
    → Result (Caller UnwindRegsX86_64) DwarfUnwinderError
caller_shown registers (Ok caller) = Ok (record {
  return_address = caller.return_address;
  registers = caller_registers registers caller.return_address caller.sp caller.bp;
})
caller_shown registers (Err failure) = Err failure

-- its return address, in a section, by the most values of an expression, if there is a limit
abbrev pub return_address_in : (limit : Option ℕ) → Encoding → Stretch → UnwindRegsX86_64 → (cfa : ℕ) → Option (RegisterRule ℕ)
    → Words → Option ℕ
return_address_in limit encoding section registers cfa column words =
    direct_return_address (frame_sources limit encoding.address_size section registers) registers words cfa column
