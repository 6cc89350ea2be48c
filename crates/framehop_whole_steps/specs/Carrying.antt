-- What is known of a frame by the registers that rules carry, on each architecture.
use Rattle.std.specs.Prelude.{ℕ, ◌==◌, Bool, Option, Some, None, if◌then◌else◌}
use Rattle.framehop_expressions.specs.declared.architecture.Architecture.{Architecture}
use Rattle.framehop_expressions.specs.declared.architecture.Architecture.TheVariants.{X86_64, Aarch64}
use Rattle.framehop_registers.specs.Registers as amd64
use Rattle.framehop_registers.specs.RegistersAarch64 as arm
use Rattle.framehop_registers.specs.declared.aarch64.unwindregs.PtrAuthMask.{PtrAuthMask}
use Rattle.framehop_registers.specs.declared.aarch64.unwindregs.UnwindRegsAarch64.{UnwindRegsAarch64}
use Rattle.framehop_registers.specs.declared.x86_64.unwindregs.UnwindRegsX86_64.{UnwindRegsX86_64}
use Rattle.framehop_rules.specs.RuleMeaning as amd64_rule
use Rattle.framehop_rules.specs.RuleMeaningAarch64 as arm_rule

-- An architecture with the registers that its rules carry: the bits of a code address that aren't its authentication code; the value of a
-- register by its DWARF number in a first or a later frame, if these say it; the registers of a caller with this return address, stack
-- pointer and frame pointer; and the number of the frame pointer.
pub record Carrying (Registers : Type 0) : Type 0 where
  pub architecture : Architecture
  pub mask : Registers → PtrAuthMask
  pub carried : Bool → Registers → ℕ → Option ℕ
  pub with_frame : Registers → (to sp fp : ℕ) → Registers
  pub frame_pointer : ℕ

-- a frame pointer is taken to be known unless it is 0, which is no frame's, and stands for one that isn't known
abbrev pub known_pointer : ℕ → Option ℕ
known_pointer value = if value == 0 then None else Some value

-- RIP, RSP and RBP
abbrev pub carried_x86_64 : Bool → UnwindRegsX86_64 → ℕ → Option ℕ
carried_x86_64 first registers number =
    if number == 16 then Some (amd64.ip_of registers)
    else if number == 7 then Some (amd64.sp_of registers)
    else if number == 6 then known_pointer (amd64.bp_of registers)
    else None

abbrev pub x86_64 : Carrying UnwindRegsX86_64
x86_64 = record {
  architecture = X86_64;
  mask = λ registers. arm.no_strip;
  carried = carried_x86_64;
  with_frame = amd64_rule.caller_registers;
  frame_pointer = 6;
}

-- x30 of a first frame: the call has written that of a later one
abbrev pub known_link : Bool → ℕ → Option ℕ
known_link first value = if first then Some value else None

-- the program counter of a later frame, the return address, which is carried as x30
abbrev pub known_counter : Bool → ℕ → Option ℕ
known_counter first value = if first then None else Some value

-- SP, x29, and x30 or the program counter
abbrev pub carried_aarch64 : Bool → UnwindRegsAarch64 → ℕ → Option ℕ
carried_aarch64 first registers number =
    if number == 31 then Some (arm.sp_of registers)
    else if number == 29 then known_pointer (arm.fp_of registers)
    else if number == 30 then known_link first (arm.lr_of registers)
    else if number == 32 then known_counter first (arm.lr_of registers)
    else None

abbrev pub aarch64 : Carrying UnwindRegsAarch64
aarch64 = record {
  architecture = Aarch64;
  mask = arm.mask_of;
  carried = carried_aarch64;
  with_frame = λ registers to sp fp. arm_rule.caller_registers registers (to, sp, fp);
  frame_pointer = 29;
}
