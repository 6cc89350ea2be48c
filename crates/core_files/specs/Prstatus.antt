-- NT_PRSTATUS: a thread and its registers (Linux, include/uapi/linux/elfcore.h, `struct elf_prstatus`).
--
--   0 pr_info (12 bytes)   12 pr_cursig   16 pr_sigpend   24 pr_sighold   32 pr_pid   36 pr_ppid   40 pr_pgrp   44 pr_sid
--   48 pr_utime   64 pr_stime   80 pr_cutime   96 pr_cstime (16 bytes each)   112 pr_reg   and pr_fpvalid, of 4 bytes, padded to 8
use Rattle.std.specs.Prelude.{ℕ, ◌+◌, ◌*◌, ◌==◌, if◌then◌else◌, List, length, Result, Ok, Err}
use Rattle.core_files.specs.declared.error.DescriptorError.{DescriptorError}
use Rattle.core_files.specs.declared.error.DescriptorError.TheVariants.{PrstatusSize}
use Rattle.core_files.specs.declared.registers.UserRegsX86_64.{UserRegsX86_64}
use Rattle.core_files.specs.declared.registers.UserRegsAarch64.{UserRegsAarch64}
use Rattle.core_files.specs.declared.registers.ThreadRegisters.{ThreadRegisters}
use Rattle.core_files.specs.declared.registers.ThreadRegisters.TheVariants.{X86_64, Aarch64}
use Rattle.core_files.specs.declared.prstatus.Prstatus.{Prstatus}
use Rattle.core_files.specs.Bytes.{u16_at, u32_at, u64_at, each_from}

-- The size of the structure with so many registers.
abbrev pub prstatus_size : ℕ → ℕ
prstatus_size count = 120 + 8 * count

-- pr_pid.
abbrev pub pr_pid : List ℕ → ℕ
pr_pid descriptor = u32_at descriptor 32

-- pr_cursig, a short.
abbrev pub pr_cursig : List ℕ → ℕ
pr_cursig descriptor = u16_at descriptor 12

-- A register of pr_reg, by its number.
abbrev pub pr_reg : List ℕ → ℕ → ℕ
pr_reg descriptor number = u64_at descriptor (112 + 8 * number)

-- x86_64: `struct user_regs_struct` (arch/x86/include/asm/user_64.h).
abbrev pub user_regs_x86_64 : List ℕ → UserRegsX86_64
user_regs_x86_64 descriptor = record {
  r15 = pr_reg descriptor 0;
  r14 = pr_reg descriptor 1;
  r13 = pr_reg descriptor 2;
  r12 = pr_reg descriptor 3;
  rbp = pr_reg descriptor 4;
  rbx = pr_reg descriptor 5;
  r11 = pr_reg descriptor 6;
  r10 = pr_reg descriptor 7;
  r9 = pr_reg descriptor 8;
  r8 = pr_reg descriptor 9;
  rax = pr_reg descriptor 10;
  rcx = pr_reg descriptor 11;
  rdx = pr_reg descriptor 12;
  rsi = pr_reg descriptor 13;
  rdi = pr_reg descriptor 14;
  orig_rax = pr_reg descriptor 15;
  rip = pr_reg descriptor 16;
  cs = pr_reg descriptor 17;
  eflags = pr_reg descriptor 18;
  rsp = pr_reg descriptor 19;
  ss = pr_reg descriptor 20;
  fs_base = pr_reg descriptor 21;
  gs_base = pr_reg descriptor 22;
  ds = pr_reg descriptor 23;
  es = pr_reg descriptor 24;
  fs = pr_reg descriptor 25;
  gs = pr_reg descriptor 26;
}

-- aarch64: `struct user_pt_regs` (arch/arm64/include/uapi/asm/ptrace.h).
abbrev pub user_regs_aarch64 : List ℕ → UserRegsAarch64
user_regs_aarch64 descriptor = record {
  regs = each_from (pr_reg descriptor) 0 31;
  sp = pr_reg descriptor 31;
  pc = pr_reg descriptor 32;
  pstate = pr_reg descriptor 33;
}

-- The status of a thread with these registers.
abbrev pub status : List ℕ → ThreadRegisters → Prstatus
status descriptor registers = record { pid = pr_pid descriptor; signal = pr_cursig descriptor; registers = registers }

-- What a descriptor is on x86_64: its size is that of the structure there.
abbrev pub prstatus_x86_64 : List ℕ → Result Prstatus DescriptorError
prstatus_x86_64 descriptor =
    if length descriptor == prstatus_size 27 then Ok (status descriptor (X86_64 (user_regs_x86_64 descriptor))) else Err PrstatusSize

-- What it is on aarch64, likewise.
abbrev pub prstatus_aarch64 : List ℕ → Result Prstatus DescriptorError
prstatus_aarch64 descriptor =
    if length descriptor == prstatus_size 34 then Ok (status descriptor (Aarch64 (user_regs_aarch64 descriptor))) else Err PrstatusSize
