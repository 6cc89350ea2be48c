-- The registers of aarch64, as a step of a stack walk carries them: the link register, the stack pointer and the frame
-- pointer, of 64 bits each, and which bits of a code address are not its authentication code.
use Rattle.std.specs.Prelude.{ℕ, ◌≤◌, ◌<◌, ◌-◌, ◌+◌, ◌^◌, bit_and}
use Rattle.framehop_registers.specs.declared.aarch64.unwindregs.PtrAuthMask.{PtrAuthMask}
use Rattle.framehop_registers.specs.declared.aarch64.unwindregs.UnwindRegsAarch64.{UnwindRegsAarch64}

-- The lowest bits of a number of 64 bits.
abbrev pub low_bits : ℕ → ℕ
low_bits count = 2 ^ count - 1

-- The highest bit of a number that is 1 is the bit of this place, counted from 0.
pub record IsHighestBit (number place : ℕ) : Type 0 where
  pub reached : 2 ^ place ≤ number
  pub not_passed : number < 2 ^ (place + 1)

-- The mask that strips nothing.
abbrev pub no_strip : PtrAuthMask
no_strip = record { 0 = low_bits 64 }

-- A code address without its authentication code: the bits of the mask.
abbrev pub stripped_address : PtrAuthMask → ℕ → ℕ
stripped_address mask pointer = bit_and pointer mask.0

-- The mask of code addresses.
abbrev pub mask_of : UnwindRegsAarch64 → PtrAuthMask
mask_of registers = registers.lr_mask

-- The link register, x30.
abbrev pub lr_of : UnwindRegsAarch64 → ℕ
lr_of registers = registers.lr

-- The stack pointer.
abbrev pub sp_of : UnwindRegsAarch64 → ℕ
sp_of registers = registers.sp

-- The frame pointer, x29.
abbrev pub fp_of : UnwindRegsAarch64 → ℕ
fp_of registers = registers.fp

-- The registers with another link register, which keeps the bits of the mask alone.
abbrev pub with_lr : UnwindRegsAarch64 → ℕ → UnwindRegsAarch64
with_lr registers lr = record registers { lr = stripped_address registers.lr_mask lr }

-- The registers with another stack pointer.
abbrev pub with_sp : UnwindRegsAarch64 → ℕ → UnwindRegsAarch64
with_sp registers sp = record registers { sp = sp }

-- The registers with another frame pointer.
abbrev pub with_fp : UnwindRegsAarch64 → ℕ → UnwindRegsAarch64
with_fp registers fp = record registers { fp = fp }

-- The registers with these values.
abbrev pub new_registers : PtrAuthMask → ℕ → ℕ → ℕ → UnwindRegsAarch64
new_registers mask lr sp fp = record { lr_mask = mask; lr = lr; sp = sp; fp = fp }
