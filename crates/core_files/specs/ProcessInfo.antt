-- NT_PRPSINFO: what a process runs (Linux, include/linux/elfcore.h, `struct elf_prpsinfo`), 136 bytes on x86_64 and aarch64.
--
--   0 pr_state, pr_sname, pr_zomb, pr_nice (a byte each)   8 pr_flag (8 bytes)   16 pr_uid   20 pr_gid   24 pr_pid   28 pr_ppid
--   32 pr_pgrp   36 pr_sid (4 bytes each)   40 pr_fname (16 bytes)   56 pr_psargs (80 bytes)
use Rattle.std.specs.Prelude.{ℕ, ◌-◌, ◌==◌, if◌then◌else◌, List, length, take, drop, slice_index_or, Option, Some, None}
use Rattle.core_files.specs.Bytes.{u32_at}
use Rattle.core_files.specs.MappedFiles.{name_length}

-- A process: its id, the name of its program, and its command line.
pub record ProcessSaid : Type 0 where
  pub id : ℕ
  pub name : List ℕ
  pub arguments : List ℕ

-- The bytes before the first 0, or all.
abbrev pub before_zero : List ℕ → List ℕ
before_zero bytes = elim (name_length bytes) [ Some count ↦ take count bytes | None ↦ bytes ]

-- The text in so many bytes at an offset.
abbrev pub text_at : List ℕ → ℕ → ℕ → List ℕ
text_at descriptor at size = before_zero (take size (drop at descriptor))

-- A text without a space at its end: Linux writes one for the 0 of each argument, the last too (fs/binfmt_elf.c, `fill_psinfo`).
abbrev pub without_last_space : List ℕ → List ℕ
without_last_space text = if slice_index_or text (length text - 1) 0 == 32 then take (length text - 1) text else text

-- The process of a descriptor.
abbrev pub process_info : List ℕ → Option ProcessSaid
process_info descriptor =
    if length descriptor == 136
    then Some (record {
      id = u32_at descriptor 24;
      name = text_at descriptor 40 16;
      arguments = without_last_space (text_at descriptor 56 80);
    })
    else None
