-- What is left of an epilog at an address, as bytes (Microsoft, "x64 exception handling", "Epilog code"): an instruction that sets
-- the stack pointer, which may be missing; pops; and a return or a jump out of the function.
use Rattle.std.specs.Prelude.{ℕ, zero, suc, ◌+◌, ◌-◌, ◌/◌, ◌%◌, ◌==◌, ◌&&◌, Bool, true, false, nat_lt, nat_le, if◌then◌else◌, List, [], ◌∷◌, length, drop, slice_index, Option, Some, None}
use Rattle.std.specs.Option.{option_map, option_and_then, option_or}
use Rattle.framehop_registers.specs.declared.x86_64.unwindregs.Reg.{Reg}
use Rattle.framehop_registers.specs.declared.x86_64.unwindregs.Reg.TheVariants.{RAX, RDX, RCX, RBX, RSI, RDI, RBP, RSP, R8, R9, R10, R11, R12, R13, R14, R15}
use Rattle.framehop_pe_codes.specs.Codes.{register_numbered, u32_at}
use Rattle.framehop_pe_codes.specs.EpilogEnds.{begins_with, is_end, signed_below}
use Rattle.framehop_pe_codes.specs.declared.ends.EpilogEnds.{EpilogEnds}
use Rattle.framehop_pe_codes.specs.declared.epilog.SpAdjustment.{SpAdjustment}
use Rattle.framehop_pe_codes.specs.declared.epilog.SpAdjustment.TheVariants.{Stays, Add, Lea}

-- The number of a register in instructions.
abbrev pub number_of : Reg → ℕ
number_of RAX = 0
number_of RCX = 1
number_of RDX = 2
number_of RBX = 3
number_of RSP = 4
number_of RBP = 5
number_of RSI = 6
number_of RDI = 7
number_of R8 = 8
number_of R9 = 9
number_of R10 = 10
number_of R11 = 11
number_of R12 = 12
number_of R13 = 13
number_of R14 = 14
number_of R15 = 15

-- An instruction that sets the stack pointer, and how many bytes it has.
abbrev pub SizedAdjustment : Type 0
SizedAdjustment = SpAdjustment × ℕ

-- 48 83 c4 ib: add rsp with an immediate of one byte that isn't negative.
abbrev pub short_add : List ℕ → Option SizedAdjustment
short_add bytes =
    if begins_with (0x48 ∷ 0x83 ∷ 0xc4 ∷ []) bytes && (nat_le 4 (length bytes) && nat_lt (slice_index bytes 3) 128)
    then Some (Add (slice_index bytes 3), 4) else None

-- 48 81 c4 id: the same with four bytes.
abbrev pub long_add : List ℕ → Option SizedAdjustment
long_add bytes =
    if begins_with (0x48 ∷ 0x81 ∷ 0xc4 ∷ []) bytes && (nat_le 7 (length bytes) && nat_lt (u32_at bytes 3) 2147483648)
    then Some (Add (u32_at bytes 3), 7) else None

-- The beginning of lea rsp, [register + displacement]: 48, or 49 for R8 and up; 8d; the mode byte; and 24 after it where the low bits
-- of the register are 4.
abbrev pub lea_spelling : ℕ → ℕ → List ℕ
lea_spelling mode register = (0x48 + register / 8) ∷ 0x8d ∷ (mode + register % 8) ∷ (if register % 8 == 4 then 0x24 ∷ [] else [])

-- How many bytes it has.
abbrev pub lea_size : ℕ → ℕ
lea_size register = if register % 8 == 4 then 4 else 3

-- The lea with a signed displacement of one byte.
abbrev pub short_lea : ℕ → List ℕ → Option SizedAdjustment
short_lea register bytes =
    if begins_with (lea_spelling 0x60 register) bytes && nat_le (lea_size register + 1) (length bytes)
    then Some (Lea (signed_below 256 (slice_index bytes (lea_size register))), lea_size register + 1) else None

-- The lea with a signed displacement of four bytes.
abbrev pub long_lea : ℕ → List ℕ → Option SizedAdjustment
long_lea register bytes =
    if begins_with (lea_spelling 0xa0 register) bytes && nat_le (lea_size register + 4) (length bytes)
    then Some (Lea (signed_below 4294967296 (u32_at bytes (lea_size register))), lea_size register + 4) else None

-- A lea from the frame register, if the function has one.
abbrev pub lea : Option Reg → List ℕ → Option SizedAdjustment
lea None bytes = None
lea (Some register) bytes = option_or (short_lea (number_of register) bytes) (long_lea (number_of register) bytes)

-- The adjustment that some bytes begin with: an add, a lea from the frame register, or none.
unfoldable pub adjustment_of : Option Reg → List ℕ → SizedAdjustment
adjustment_of frame_register bytes =
    elim (option_or (short_add bytes) (option_or (long_add bytes) (lea frame_register bytes))) [ Some found ↦ found | None ↦ (Stays, 0) ]

-- 58 + r.
abbrev pub is_pop : ℕ → Bool
is_pop byte = nat_le 0x58 byte && nat_lt byte 0x60

-- The pop that some bytes begin with, and how many bytes it has: 58 + r, and 41 58 + r for R8 and up.
unfoldable pub pop_of : List ℕ → Option (Reg × ℕ)
pop_of bytes =
    if is_pop (slice_index bytes 0) then Some (register_numbered (slice_index bytes 0 - 0x58), 1) else
    if (slice_index bytes 0 == 0x41) && is_pop (slice_index bytes 1) then Some (register_numbered (slice_index bytes 1 - 0x50), 2) else
    None

-- The bytes of the pop of a register.
abbrev pub pop_bytes : Reg → List ℕ
pop_bytes register =
    let number = number_of register in
    if nat_lt number 8 then (0x58 + number) ∷ [] else 0x41 ∷ (0x50 + number) ∷ []

-- Pops up to what ends them, at most so many.
abbrev pub pops_within : (List ℕ → Bool) → ℕ → List ℕ → Option (List Reg)
pops_within ends zero bytes = if ends bytes then Some [] else None
pops_within ends (suc n) bytes =
    if ends bytes then Some [] else
    option_and_then (λ (found : Reg × ℕ). option_map (λ registers. found.0 ∷ registers) (pops_within ends n (drop found.1 bytes))) (pop_of bytes)

-- The registers that are popped up to what ends them, if nothing else stands before it.
unfoldable pub pops_until : (List ℕ → Bool) → List ℕ → Option (List Reg)
pops_until ends bytes = pops_within ends (length bytes) bytes

-- No bytes are left.
abbrev pub is_empty : List ℕ → Bool
is_empty [] = true
is_empty (byte ∷ bytes) = false

-- The registers that are popped, if the bytes are pops.
abbrev pub pops_of : List ℕ → Option (List Reg)
pops_of bytes = pops_until is_empty bytes

-- What is left of an epilog: how it sets the stack pointer, and the registers that it pops.
pub record EpilogLeft : Type 0 where
  pub adjustment : SpAdjustment
  pub pops : List Reg

-- What some bytes are of an epilog, if they are.
abbrev pub epilog_of : EpilogEnds → Option Reg → List ℕ → Option EpilogLeft
epilog_of ends frame_register bytes =
    let adjustment = adjustment_of frame_register bytes in
    option_map (λ pops. record { adjustment = adjustment.0; pops = pops }) (pops_until (is_end ends) (drop adjustment.1 bytes))
