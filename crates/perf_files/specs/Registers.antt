-- The registers of a sample (Linux, include/uapi/linux/perf_event.h, PERF_SAMPLE_REGS_USER; arch/x86/include/uapi/asm/perf_regs.h,
-- arch/arm64/include/uapi/asm/perf_regs.h).
use Rattle.std.specs.Prelude.{ℕ, ◌*◌, ◌%◌, ◌^◌, ◌==◌, if◌then◌else◌, [], Option, Some, None, option_and_then, slice_get, count_ones}
use Rattle.perf_files.specs.declared.field.Field.{Field}
use Rattle.perf_files.specs.declared.registers.RegisterAbi.{RegisterAbi}
use Rattle.perf_files.specs.declared.registers.RegisterAbi.TheVariants as abi
use Rattle.perf_files.specs.declared.registers.SavedRegisters.{SavedRegisters}
use Rattle.perf_files.specs.declared.registers.WalkStart.{WalkStart}
use Rattle.perf_files.specs.Bytes.{has_bit}
use Rattle.perf_files.specs.Fields.{Take, ◌>>=◌, given, bytes_field, number_field}
use Rattle.perf_files.specs.Words.{words_in}

-- What code a number says (enum perf_sample_regs_abi).
abbrev pub abi_of : ℕ → RegisterAbi
abi_of number =
    if number == 0 then abi.None else
    if number == 1 then abi.Bits32 else
    if number == 2 then abi.Bits64 else
    abi.Other number

-- No registers.
abbrev pub no_registers : ℕ → SavedRegisters
no_registers mask = record { abi = abi.None; mask = mask; words = [] }

-- Registers: the number of their code and, if there is code, one word for each bit of the mask.
unfoldable pub registers_field : ℕ → Field → Take SavedRegisters
registers_field mask field = number_field 8 field >>= (λ number.
    if number == 0 then given (no_registers mask) else
    bytes_field (8 * count_ones mask) field >>= (λ bytes. given (record { abi = abi_of number; mask = mask; words = words_in bytes })))

-- The register with a number: its word comes after those of the lower bits.
abbrev pub register_of : SavedRegisters → ℕ → Option ℕ
register_of registers number =
    if has_bit registers.mask (2 ^ number) then slice_get registers.words (count_ones (registers.mask % (2 ^ number))) else None

-- What is made of registers of 64 bits.
abbrev pub of_64_bits : {A : Type 0} → RegisterAbi → Option A → Option A
of_64_bits abi.Bits64 made = made
of_64_bits _ made = None

-- Where a walk begins, by the numbers of instruction and stack pointer, and by two other registers.
abbrev pub start_by : SavedRegisters → ℕ → ℕ → Option ℕ → Option ℕ → Option WalkStart
start_by registers ip sp frame link =
    of_64_bits registers.abi (
    option_and_then (λ instruction. option_and_then (λ stack.
    Some (record { instruction_pointer = instruction; stack_pointer = stack; frame_pointer = frame; link_register = link }))
    (register_of registers sp)) (register_of registers ip))

-- x86_64: rbp is 6, rsp 7, rip 8.
abbrev pub start_x86_64 : SavedRegisters → Option WalkStart
start_x86_64 registers = start_by registers 8 7 (register_of registers 6) None

-- aarch64: x29 is 29, x30 30, sp 31, pc 32.
abbrev pub start_aarch64 : SavedRegisters → Option WalkStart
start_aarch64 registers = start_by registers 32 31 (register_of registers 29) (register_of registers 30)
