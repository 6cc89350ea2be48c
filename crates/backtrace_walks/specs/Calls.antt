-- Calls to nowhere. At an address without code nothing has run since the call, so the return address is where a call leaves it: in the word
-- at the stack pointer on x86_64 (System V ABI, AMD64, "The Stack Frame": at entry %rsp points to the return address), and in x30 on
-- aarch64 (AAPCS64, "Subroutine calls").
use Rattle.std.specs.Prelude.{ℕ, ◌+◌, ◌^◌, nat_lt, if◌then◌else◌, Option, Some, None, option_map}
use Rattle.framehop_registers.specs.Callback.{Words}
use Rattle.framehop_registers.specs.Registers.{sp_of, with_ip, with_register}
use Rattle.framehop_registers.specs.RegistersAarch64 as aarch64
use Rattle.framehop_registers.specs.declared.aarch64.unwindregs.UnwindRegsAarch64.{UnwindRegsAarch64}
use Rattle.framehop_registers.specs.declared.x86_64.unwindregs.Reg.TheVariants.{RSP}
use Rattle.framehop_registers.specs.declared.x86_64.unwindregs.UnwindRegsX86_64.{UnwindRegsX86_64}
use Rattle.framehop_whole_steps.specs.declared.registers.WholeRegs.{WholeRegs}
use Rattle.backtrace_walks.specs.declared.calls.CallSite.{CallSite}

-- Where a call was made whose function has done nothing yet, by the registers and the words of the stack.
abbrev pub Calling : Type 0 → Type 0
Calling Registers = Words → Registers → Option (CallSite Registers)

-- the registers once the call on x86_64 has returned: the return address is popped, and all else is as it was
abbrev pub returned_x86_64 : WholeRegs UnwindRegsX86_64 → ℕ → WholeRegs UnwindRegsX86_64
returned_x86_64 registers to =
    record { regs = with_register (with_ip registers.regs to) RSP (sp_of registers.regs + 8); others = registers.others }

abbrev pub called_x86_64 : Calling (WholeRegs UnwindRegsX86_64)
called_x86_64 words registers =
    if nat_lt (sp_of registers.regs + 8) (2 ^ 64)
    then option_map (λ to. record { return_address = to; registers = returned_x86_64 registers to }) (words (sp_of registers.regs))
    else None

abbrev pub called_aarch64 : Calling (WholeRegs UnwindRegsAarch64)
called_aarch64 words registers = Some (record { return_address = aarch64.lr_of registers.regs; registers = registers })
