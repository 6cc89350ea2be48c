-- Loads and stores relative to the stack pointer or x29, by their words.
--
-- Arm Architecture Reference Manual for A-profile architecture, C4.1 (loads and stores: register pair, register), C6.2 (LDP, LDR
-- (immediate), LDUR, STP, STR (immediate), STUR), C7.2 (LDP, STP, LDR, STR of vectors).
use Rattle.std.specs.Prelude.{ℕ, ◌==◌, ◌&&◌, ◌||◌, ◌*◌, ◌%◌, ℤ, pos, ◌*ℤ◌, Bool, if◌then◌else◌, Option, Some, None, option_and_then}
use Rattle.framehop_ways.specs.Words.{bits, signed}
use Rattle.framehop_ways.specs.declared.instruction.Base.{Base}
use Rattle.framehop_ways.specs.declared.instruction.Base.TheVariants.{StackPointer, FramePointer}
use Rattle.framehop_ways.specs.declared.instruction.Access.{Access}
use Rattle.framehop_ways.specs.declared.instruction.Instruction.{Instruction}
use Rattle.framehop_ways.specs.declared.instruction.Instruction.TheVariants.{Load, Store}

-- The base with a number.
abbrev pub base_of : ℕ → Option Base
base_of number = if number == 31 then Some StackPointer else (if number == 29 then Some FramePointer else None)

-- The number of a general register that is loaded or stored; none, 31, if bit 26, V, tells a vector register.
abbrev pub general_number : ℕ → ℕ → ℕ
general_number word number = if bits word 26 1 == 0 then number else 31

-- An access by its mode: 1 if the bytes are added to the base afterwards, 3 if before, else for the access alone.
abbrev pub access_at : ℕ → Base → ℤ → ℕ → ℕ → Access
access_at mode base bytes first second = record {
  base = base;
  offset = if mode == 1 then pos 0 else bytes;
  raise = if mode % 2 == 1 then bytes else pos 0;
  first = first;
  second = second;
}

-- Bit 22, L, tells a load.
abbrev pub load_or_store : ℕ → Access → Instruction
load_or_store word access = if bits word 22 1 == 1 then Load access else Store access

-- The size of each register of a pair, by opc, in bits 30 and 31: general ones of 8 bytes, vectors of 4, 8 and 16.
abbrev pub pair_scale : ℕ → Option ℕ
pair_scale word =
    if bits word 26 1 == 0 then (if bits word 30 2 == 2 then Some 8 else None) else
    if bits word 30 2 == 0 then Some 4 else
    if bits word 30 2 == 1 then Some 8 else
    if bits word 30 2 == 2 then Some 16 else None

-- A pair: bits 25 and 27 to 29 are 0 and 101; the mode, in bits 23 and 24, isn't 0; imm7 is in bits 15 to 21.
abbrev pub is_pair : ℕ → Bool
is_pair word = (bits word 27 3 == 5) && (bits word 25 1 == 0)

abbrev pub pair_of : ℕ → Base → Option Instruction
pair_of word base =
    if bits word 23 2 == 0 then None else
    option_and_then (λ scale. Some (load_or_store word (access_at (bits word 23 2) base (pos scale *ℤ signed (bits word 15 7) 64)
    (general_number word (bits word 0 5)) (general_number word (bits word 10 5))))) (pair_scale word)

-- One register: bits 25 and 27 to 29 are 0 and 111. With bit 24 set imm12 is in bits 10 to 21, in words for general registers of 8 bytes.
abbrev pub is_single : ℕ → Bool
is_single word = (bits word 27 3 == 7) && (bits word 25 1 == 0)

-- A general register of 8 bytes, by size, in bits 30 and 31, and bit 23.
abbrev pub is_whole : ℕ → Bool
is_whole word = (bits word 26 1 == 0) && (bits word 30 2 == 3) && (bits word 23 1 == 0)

abbrev pub unsigned_access : ℕ → Base → Access
unsigned_access word base = access_at 0 base (pos (8 * bits word 10 12)) (bits word 0 5) 31

-- Else bit 21 is clear, the mode, in bits 10 and 11, isn't 2, and imm9 is in bits 12 to 20.
abbrev pub signed_access : ℕ → Base → Access
signed_access word base = access_at (bits word 10 2) base (signed (bits word 12 9) 256) (general_number word (bits word 0 5)) 31

abbrev pub single_of : ℕ → Base → Option Instruction
single_of word base =
    if is_whole word && (bits word 24 1 == 1) then Some (load_or_store word (unsigned_access word base)) else
    if (bits word 24 1 == 1) || (bits word 21 1 == 1) || (bits word 10 2 == 2) then None else
    if is_whole word || (bits word 26 1 == 1) then Some (load_or_store word (signed_access word base)) else None

-- The access that a word spells, relative to a base that it has in bits 5 to 9, Rn.
abbrev pub access_of : ℕ → Option Instruction
access_of word =
    option_and_then (λ base. if is_pair word then pair_of word base else (if is_single word then single_of word base else None))
    (base_of (bits word 5 5))
