-- Registers as callers have them, and as steps have them.
use Rattle.framehop_registers.specs.RegistersAarch64.{fp_of, lr_of, mask_of, new_registers, sp_of, stripped_address}
use Rattle.framehop_registers.specs.declared.aarch64.unwindregs.PtrAuthMask.{PtrAuthMask}
use Rattle.framehop_registers.specs.declared.aarch64.unwindregs.UnwindRegsAarch64.{UnwindRegsAarch64}
use Rattle.framehop_registers.specs.declared.x86_64.unwindregs.UnwindRegsX86_64.{UnwindRegsX86_64}
use Rattle.framehop_calls.specs.declared.registers.RegistersAarch64.{RegistersAarch64}
use Rattle.framehop_calls.specs.declared.registers.RegistersX86_64.{RegistersX86_64}

-- on x86_64: the same
abbrev pub to_x86_64 : RegistersX86_64 → UnwindRegsX86_64
to_x86_64 registers = record { ip = registers.ip; regs = registers.general }

-- and back
abbrev pub from_x86_64 : UnwindRegsX86_64 → RegistersX86_64
from_x86_64 regs = record { ip = regs.ip; general = regs.regs }

-- on aarch64: the link register is stripped by the mask
abbrev pub to_aarch64 : RegistersAarch64 → UnwindRegsAarch64
to_aarch64 registers =
    let mask : PtrAuthMask = record { 0 = registers.lr_mask } in
    new_registers mask (stripped_address mask registers.lr) registers.sp registers.fp

-- and back: the same
abbrev pub from_aarch64 : UnwindRegsAarch64 → RegistersAarch64
from_aarch64 regs = record { lr_mask = (mask_of regs).0; lr = lr_of regs; sp = sp_of regs; fp = fp_of regs }
