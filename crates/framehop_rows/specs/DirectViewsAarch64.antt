-- Words of private functions' contracts alone: the caller that the code makes of a row on aarch64.
use Rattle.std.specs.Prelude.{Result, Ok, Err}
use Rattle.framehop_registers.specs.RegistersAarch64.{lr_of}
use Rattle.framehop_registers.specs.declared.aarch64.unwindregs.UnwindRegsAarch64.{UnwindRegsAarch64}
use Rattle.framehop_rules.specs.Outcome.{Caller}
use Rattle.framehop_errors.specs.declared.dwarf.DwarfUnwinderError.{DwarfUnwinderError}

-- the caller with these registers: its return address is its link register
abbrev pub caller_shown : Result UnwindRegsAarch64 DwarfUnwinderError → Result (Caller UnwindRegsAarch64) DwarfUnwinderError
caller_shown (Ok registers) = Ok (record { return_address = lr_of registers; registers = registers })
caller_shown (Err failure) = Err failure
