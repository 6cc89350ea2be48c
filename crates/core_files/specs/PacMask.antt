-- NT_ARM_PAC_MASK: which bits of an address hold a pointer authentication code (Linux, arch/arm64/include/uapi/asm/ptrace.h,
-- `struct user_pac_mask`): data_mask and insn_mask, 8 bytes each.
use Rattle.std.specs.Prelude.{ℕ, ◌==◌, if◌then◌else◌, List, length, Ok, Err}
use Rattle.core_files.specs.declared.error.DescriptorError.TheVariants.{PacMaskSize}
use Rattle.core_files.specs.declared.pac_mask.PointerAuthenticationMasks.{PointerAuthenticationMasks}
use Rattle.core_files.specs.Bytes.{u64_at}
use Rattle.core_files.specs.Refusals.{Read}

-- What a descriptor of 16 bytes is.
abbrev pub pac_masks : List ℕ → Read PointerAuthenticationMasks
pac_masks descriptor =
    if length descriptor == 16 then Ok (record { data_mask = u64_at descriptor 0; instruction_mask = u64_at descriptor 8 }) else Err PacMaskSize
