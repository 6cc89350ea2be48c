-- Moves of the stack pointer and x29 by a number, and what signs the return address, by their words.
--
-- Arm Architecture Reference Manual for A-profile architecture, C6.2 (ADD (immediate), SUB (immediate), AUTIA, AUTIB, PACIA, PACIB, XPACLRI).
use Rattle.std.specs.Prelude.{ℕ, ◌==◌, ◌&&◌, ◌||◌, ◌*◌, ℤ, pos, ◌-ℤ◌, Bool, if◌then◌else◌, Option, Some, None, option_and_then}
use Rattle.framehop_ways.specs.Words.{bits}
use Rattle.framehop_ways.specs.Accesses.{base_of}
use Rattle.framehop_ways.specs.declared.instruction.Instruction.{Instruction}
use Rattle.framehop_ways.specs.declared.instruction.Instruction.TheVariants.{Move}

-- ADD or SUB of 64 bits that sets no flags: bit 31, sf, is set, bits 23 to 29 are 0100010.
abbrev pub is_addition : ℕ → Bool
is_addition word = (bits word 31 1 == 1) && (bits word 23 7 == 34)

-- imm12, in bits 10 to 21, is shifted by 12 if bit 22, sh, is set.
abbrev pub immediate : ℕ → ℕ
immediate word = if bits word 22 1 == 1 then 4096 * bits word 10 12 else bits word 10 12

-- Bit 30, op, tells SUB.
abbrev pub added : ℕ → ℤ
added word = if bits word 30 1 == 1 then pos 0 -ℤ pos (immediate word) else pos (immediate word)

-- The addition that a word spells of Rn to Rd, if each is the stack pointer or x29.
abbrev pub move_of : ℕ → Option Instruction
move_of word =
    if is_addition word then
    option_and_then (λ to. option_and_then (λ from. Some (Move to from (added word))) (base_of (bits word 5 5))) (base_of (bits word 0 5)) else
    None

-- XPACLRI, hint 7; PACIAZ, PACIASP, PACIBZ, PACIBSP and AUTIAZ to AUTIBSP, hints 24 to 31. CRm and op2 are in bits 5 to 11.
abbrev pub is_signing_hint : ℕ → Bool
is_signing_hint word = (bits word 12 20 == 0xd5032) && (bits word 0 5 == 31) && ((bits word 5 7 == 7) || (bits word 8 4 == 3))

-- PACIA, PACIB, AUTIA, AUTIB of x30, by the opcode in bits 10 to 15.
abbrev pub is_signing_of_lr : ℕ → Bool
is_signing_of_lr word = (bits word 16 16 == 0xdac1) && (bits word 13 3 == 0) && (bits word 11 1 == 0) && (bits word 0 5 == 30)
