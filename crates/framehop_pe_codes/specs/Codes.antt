-- Unwind codes, version 1, as bytes (Microsoft, "x64 exception handling", struct UNWIND_CODE).
use Rattle.std.specs.Prelude.{ℕ, zero, suc, ◌+◌, ◌*◌, ◌/◌, ◌%◌, ◌==◌, ◌&&◌, Bool, true, false, nat_lt, if◌then◌else◌, List, [], ◌∷◌, length, drop, slice_index, slice_index_or, Option, Some, None}
use Rattle.std.specs.Option.{option_map, option_and_then}
use Rattle.framehop_registers.specs.declared.x86_64.unwindregs.Reg.{Reg}
use Rattle.framehop_registers.specs.declared.x86_64.unwindregs.Reg.TheVariants.{RAX, RDX, RCX, RBX, RSI, RDI, RBP, RSP, R8, R9, R10, R11, R12, R13, R14, R15}
use Rattle.framehop_pe_codes.specs.declared.operation.UnwindCode.{UnwindCode}
use Rattle.framehop_pe_codes.specs.declared.operation.UnwindOperation.{UnwindOperation}
use Rattle.framehop_pe_codes.specs.declared.operation.UnwindOperation.TheVariants.{Push, Allocate, SetFrame, Save, SaveVector, MachineFrame}

-- The registers in the order of their numbers in instructions and unwind codes.
abbrev pub registers_by_number : List Reg
registers_by_number = RAX ∷ RCX ∷ RDX ∷ RBX ∷ RSP ∷ RBP ∷ RSI ∷ RDI ∷ R8 ∷ R9 ∷ R10 ∷ R11 ∷ R12 ∷ R13 ∷ R14 ∷ R15 ∷ []

-- The register with a number.
abbrev pub register_numbered : ℕ → Reg
register_numbered number = slice_index_or registers_by_number number RAX

-- The number of 32 bits in the four bytes at an offset, lowest byte first.
abbrev pub u32_at : List ℕ → ℕ → ℕ
u32_at bytes at =
    slice_index bytes at + 256 * slice_index bytes (at + 1) + 65536 * slice_index bytes (at + 2) + 16777216 * slice_index bytes (at + 3)

-- An operand of two bytes, where they are there.
abbrev pub short_operand : List ℕ → Option ℕ
short_operand bytes = if nat_lt (length bytes) 2 then None else Some (slice_index bytes 0 + 256 * slice_index bytes 1)

-- An operand of four bytes.
abbrev pub long_operand : List ℕ → Option ℕ
long_operand bytes = if nat_lt (length bytes) 4 then None else Some (u32_at bytes 0)

-- An operation, and how many bytes its operand has.
abbrev pub SizedOperation : Type 0
SizedOperation = UnwindOperation × ℕ

-- An operation with an operand of two bytes.
abbrev pub with_short : (ℕ → UnwindOperation) → List ℕ → Option SizedOperation
with_short operation operand = option_map (λ n. (operation n, 2)) (short_operand operand)

-- An operation with an operand of four bytes.
abbrev pub with_long : (ℕ → UnwindOperation) → List ℕ → Option SizedOperation
with_long operation operand = option_map (λ n. (operation n, 4)) (long_operand operand)

-- The operation of a number and its info, with the operand in the bytes after them. By their numbers these are 0 UWOP_PUSH_NONVOL,
-- 1 UWOP_ALLOC_LARGE, 2 UWOP_ALLOC_SMALL, 3 UWOP_SET_FPREG, 4 and 5 UWOP_SAVE_NONVOL and UWOP_SAVE_NONVOL_FAR, 8 and 9
-- UWOP_SAVE_XMM128 and UWOP_SAVE_XMM128_FAR, and 10 UWOP_PUSH_MACHFRAME. A code may set a frame only if it is framed: its unwind info
-- names a frame register, and so does the first of the chain.
abbrev pub operation_of : ℕ → ℕ → Bool → List ℕ → Option SizedOperation
operation_of number info is_framed operand =
    if number == 0 then Some (Push (register_numbered info), 0) else
    if number == 1 && info == 0 then with_short (λ n. Allocate (8 * n)) operand else
    if number == 1 && info == 1 then with_long (λ n. Allocate n) operand else
    if number == 2 then Some (Allocate (8 * info + 8), 0) else
    if number == 3 && is_framed then Some (SetFrame, 0) else
    if number == 4 then with_short (λ n. Save (register_numbered info) (8 * n)) operand else
    if number == 5 then with_long (λ n. Save (register_numbered info) n) operand else
    if number == 8 then with_short (λ n. SaveVector) operand else
    if number == 9 then with_long (λ n. SaveVector) operand else
    if number == 10 && info == 0 then Some (MachineFrame false, 0) else
    if number == 10 && info == 1 then Some (MachineFrame true, 0) else
    None

-- The code of an operation at an offset in the prolog, and how many bytes the code has.
abbrev pub code_at : ℕ → SizedOperation → UnwindCode × ℕ
code_at prolog_offset found = (record { prolog_offset = prolog_offset; operation = found.0 }, 2 + found.1)

-- The first code of some bytes, and how many bytes it has.
unfoldable pub code_of : Bool → List ℕ → Option (UnwindCode × ℕ)
code_of is_framed bytes =
    if nat_lt (length bytes) 2 then None else
    option_map (code_at (slice_index bytes 0)) (operation_of (slice_index bytes 1 % 16) (slice_index bytes 1 / 16) is_framed (drop 2 bytes))

-- The codes that some bytes are, at most so many.
abbrev pub codes_within : ℕ → Bool → List ℕ → Option (List UnwindCode)
codes_within n is_framed [] = Some []
codes_within zero is_framed (byte ∷ bytes) = None
codes_within (suc n) is_framed (byte ∷ bytes) =
    option_and_then (λ (found : UnwindCode × ℕ).
    option_map (λ codes. found.0 ∷ codes) (codes_within n is_framed (drop found.1 (byte ∷ bytes)))) (code_of is_framed (byte ∷ bytes))

-- The codes that some bytes are, one after the other.
unfoldable pub codes_of : Bool → List ℕ → Option (List UnwindCode)
codes_of is_framed bytes = codes_within (length bytes) is_framed bytes
