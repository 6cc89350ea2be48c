-- Branches, calls and returns, by their words.
--
-- Arm Architecture Reference Manual for A-profile architecture, C4.1 (branches, exception generating and system instructions), C6.2 (B,
-- B.cond, BL, BLR, BLRA, BR, BRA, CBNZ, CBZ, RET, RETA, TBNZ, TBZ).
use Rattle.std.specs.Prelude.{ℕ, ◌==◌, ◌&&◌, ◌||◌, ◌^◌, ℤ, pos, ◌*ℤ◌, Bool, if◌then◌else◌, Option, Some, None}
use Rattle.framehop_ways.specs.Words.{bits, signed}
use Rattle.framehop_ways.specs.declared.instruction.Instruction.{Instruction}
use Rattle.framehop_ways.specs.declared.instruction.Instruction.TheVariants.{Call, Branch, BranchIf, Return, BranchAway, Unknown}

-- A distance in words, as imm14, imm19 and imm26 have it, in bytes.
abbrev pub distance : ℕ → ℕ → ℤ
distance field half = pos 4 *ℤ signed field half

-- B.cond, CBZ and CBNZ have imm19, TBZ and TBNZ imm14, in bits from 5 on.
abbrev pub branch_if_of : ℕ → Option Instruction
branch_if_of word =
    if (bits word 24 8 == 0x54) || (bits word 25 6 == 26) then Some (BranchIf (distance (bits word 5 19) (2 ^ 18))) else
    if bits word 25 6 == 27 then Some (BranchIf (distance (bits word 5 14) (2 ^ 13))) else None

-- RET to x30, whose Rn is in bits 5 to 9; RETAA and RETAB, which have op3, in bits 10 to 15, of 2 and 3.
abbrev pub is_return : ℕ → Bool
is_return word =
    ((bits word 10 6 == 0) && (bits word 5 5 == 30) && (bits word 0 5 == 0)) || ((bits word 11 5 == 1) && (bits word 0 10 == 1023))

-- Branches to registers: opc, in bits 21 to 24, is 0 or 8 for BR and BRA, 1 or 9 for BLR and BLRA, 2 for RET and RETA.
abbrev pub register_branch_of : ℕ → Instruction
register_branch_of word =
    if (bits word 16 5 == 31) && (bits word 12 4 == 0) then
    (if bits word 21 3 == 0 then BranchAway else
    if bits word 21 3 == 1 then Call else
    if (bits word 21 4 == 2) && is_return word then Return else Unknown)
    else Unknown

-- The branch, call or return that a word spells.
abbrev pub control_of : ℕ → Option Instruction
control_of word =
    if bits word 26 6 == 5 then Some (Branch (distance (bits word 0 26) (2 ^ 25))) else
    if bits word 26 6 == 37 then Some Call else
    if bits word 25 7 == 0x6b then Some (register_branch_of word) else branch_if_of word
