-- What is known of the frame that a row led to.
use Rattle.std.specs.Prelude.{◌≡◌, ℕ, Bool, false, Some, Ok}
use Rattle.framehop_registers.specs.Callback.{Words}
use Rattle.framehop_registers.specs.Registers.{HasAllRegisters}
use Rattle.framehop_registers.specs.RegistersAarch64.{mask_of, stripped_address}
use Rattle.framehop_registers.specs.declared.aarch64.unwindregs.UnwindRegsAarch64.{UnwindRegsAarch64}
use Rattle.framehop_registers.specs.declared.x86_64.unwindregs.UnwindRegsX86_64.{UnwindRegsX86_64}
use Rattle.framehop_rules.specs.Outcome.{Caller}
use Rattle.framehop_whole_rows.specs.Callers.{WholeCaller, caller_of}
use Rattle.framehop_whole_steps.specs.Attempts.{caller_at, frame_at}
use Rattle.framehop_whole_steps.specs.Carrying.{Carrying, aarch64, x86_64}
use Rattle.framehop_whole_steps.specs.FoundRows.{FoundRow}
use Rattle.framehop_whole_steps.specs.Known.{known_of}
use Rattle.framehop_whole_steps.specs.declared.registers.WholeRegs.{WholeRegs}

-- A row of a first or a later frame gives this caller, by all registers of the frame that are known, and the step leads to this one.
pub record LeadsTo {Registers : Type 0} (c : Carrying Registers) (first : Bool) (found : FoundRow) (registers : WholeRegs Registers) (words : Words)
    (whole : WholeCaller) (caller : Caller (WholeRegs Registers)) : Type 0 where
  pub gives : caller_of (frame_at c (known_of c first registers) registers.regs words found) ≡ Ok (Some whole)
  pub leads : caller_at c first found registers words ≡ Some caller

-- A frame is at the return address of a caller that a row gave, and exactly the registers are known that the row gave, with these values.
pub record KnowsCaller {Registers : Type 0} (c : Carrying Registers) (caller : Caller (WholeRegs Registers)) (whole : WholeCaller) : Type 0 where
  pub return_address : caller.return_address ≡ whole.return_address
  pub registers : (number : ℕ) → known_of c false caller.registers number ≡ whole.registers number

-- after a step by a row exactly what the row gave is known, on x86_64
abbrev pub KnowsCallersX86_64 : Type 0
KnowsCallersX86_64 =
    (first : Bool) (found : FoundRow) (registers : WholeRegs UnwindRegsX86_64) (words : Words) (whole : WholeCaller)
    (caller : Caller (WholeRegs UnwindRegsX86_64))
    → HasAllRegisters registers.regs → LeadsTo x86_64 first found registers words whole caller → KnowsCaller x86_64 caller whole

-- .. on aarch64, if the return address has no bit that a code address can't have
abbrev pub KnowsCallersAarch64 : Type 0
KnowsCallersAarch64 =
    (first : Bool) (found : FoundRow) (registers : WholeRegs UnwindRegsAarch64) (words : Words) (whole : WholeCaller)
    (caller : Caller (WholeRegs UnwindRegsAarch64))
    → stripped_address (mask_of registers.regs) whole.return_address ≡ whole.return_address
    → LeadsTo aarch64 first found registers words whole caller → KnowsCaller aarch64 caller whole
