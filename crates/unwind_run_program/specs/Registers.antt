-- Registers as documents have them: how those that are stated are the registers of an architecture, and how these are written.
use Rattle.std.specs.Prelude.{ℕ, List, ◌++◌, Some, codes}
use Rattle.json_program.specs.Lines.{hexadecimal}
use Rattle.framehop_registers.specs.Registers.{new_registers, ip_of, sp_of, bp_of}
use Rattle.framehop_registers.specs.RegistersAarch64 as aarch64
use Rattle.framehop_registers.specs.declared.aarch64.unwindregs.PtrAuthMask.{PtrAuthMask}
use Rattle.framehop_registers.specs.declared.aarch64.unwindregs.UnwindRegsAarch64.{UnwindRegsAarch64}
use Rattle.framehop_registers.specs.declared.x86_64.unwindregs.UnwindRegsX86_64.{UnwindRegsX86_64}
use Rattle.framehop_whole_steps.specs.declared.registers.WholeRegs.{WholeRegs}
use Rattle.unwind_run_document.specs.declared.registers.StatedRegisters.{StatedRegisters}

-- How documents have the registers of an architecture: the registers that are stated, and the text of registers.
pub record RegisterForms (Registers : Type 0) : Type 0 where
  pub stated : StatedRegisters → Registers
  pub text : Registers → List ℕ

-- ---- x86_64

-- RIP, RSP and RBP as they are stated
abbrev pub stated_x86_64 : StatedRegisters → UnwindRegsX86_64
stated_x86_64 registers = new_registers registers.code registers.sp registers.fp

-- each register after its name
abbrev pub text_x86_64 : UnwindRegsX86_64 → List ℕ
text_x86_64 registers =
    codes " ip " ++ hexadecimal (ip_of registers) ++ codes " sp " ++ hexadecimal (sp_of registers)
    ++ codes " bp " ++ hexadecimal (bp_of registers)

-- both of them
abbrev pub forms_x86_64 : RegisterForms UnwindRegsX86_64
forms_x86_64 = record { stated = stated_x86_64; text = text_x86_64 }

-- ---- aarch64

-- the link register is stripped by the mask
abbrev pub stated_aarch64 : StatedRegisters → UnwindRegsAarch64
stated_aarch64 registers =
    let mask : PtrAuthMask = record { 0 = registers.mask } in
    aarch64.new_registers mask (aarch64.stripped_address mask registers.code) registers.sp registers.fp

-- each register after its name
abbrev pub text_aarch64 : UnwindRegsAarch64 → List ℕ
text_aarch64 registers =
    codes " lr " ++ hexadecimal (aarch64.lr_of registers) ++ codes " sp " ++ hexadecimal (aarch64.sp_of registers)
    ++ codes " fp " ++ hexadecimal (aarch64.fp_of registers)

-- both of them
abbrev pub forms_aarch64 : RegisterForms UnwindRegsAarch64
forms_aarch64 = record { stated = stated_aarch64; text = text_aarch64 }

-- ---- with the registers that are known beside those that steps by rules carry

-- the others are those that are stated
abbrev pub stated_whole : {Registers : Type 0} → RegisterForms Registers → StatedRegisters → WholeRegs Registers
stated_whole forms registers = record { regs = forms.stated registers; others = Some registers.others }

-- the others aren't written
abbrev pub whole_forms : {Registers : Type 0} → RegisterForms Registers → RegisterForms (WholeRegs Registers)
whole_forms forms = record { stated = stated_whole forms; text = λ registers. forms.text registers.regs }
