-- Instructions of x86_64 that functions begin and end with, and the bytes that spell them.
--
-- Intel 64 and IA-32 Architectures Software Developer's Manual, volume 2: 2.2.1 (REX prefixes), and in chapters 3 to 5
-- JMP, MOV, POP, PUSH, RET.
use Rattle.std.specs.Prelude.{ℕ, ◌+◌, ◌<◌, ◌≡◌, ◌⊎◌, Bool, false, ◌==◌, List, [], ◌∷◌, ◌++◌}
use Rattle.std.specs.List.{flat_map}

-- The REX prefix of a push or a pop: none; 40, which sets no bit; or 41, whose bit B says that the register is one of R8 to R15.
pub data RexPrefix : Type 0 where
  NoRex : RexPrefix
  Rex : RexPrefix
  RexB : RexPrefix

-- An instruction by its fields. A push or a pop has the lower three bits of its register's number. A jump has its opcode alone:
-- its target isn't looked at. `SetFramePointer` is `mov rbp, rsp`.
pub data Instruction : Type 0 where
  Push : RexPrefix → ℕ → Instruction
  Pop : RexPrefix → ℕ → Instruction
  SetFramePointer : Instruction
  Return : Instruction
  Jump : ℕ → Instruction

-- Each field has a value that its bits can have. A jump is `jmp rel32`, `jmp rel8`, or begins with FF, as indirect ones do.
abbrev pub Fits : Instruction → Type 0
Fits (Push rex low) = low < 8
Fits (Pop rex low) = low < 8
Fits (Jump first) = (first ≡ 0xe9) ⊎ ((first ≡ 0xeb) ⊎ (first ≡ 0xff))
Fits SetFramePointer = Unit {0}
Fits Return = Unit {0}

-- The byte of a REX prefix.
abbrev pub rex_bytes : RexPrefix → List ℕ
rex_bytes NoRex = []
rex_bytes Rex = 0x40 ∷ []
rex_bytes RexB = 0x41 ∷ []

-- The bytes of an instruction.
abbrev pub bytes_of : Instruction → List ℕ
bytes_of (Push rex low) = rex_bytes rex ++ (0x50 + low) ∷ []
bytes_of (Pop rex low) = rex_bytes rex ++ (0x58 + low) ∷ []
bytes_of SetFramePointer = 0x48 ∷ 0x89 ∷ 0xe5 ∷ []
bytes_of Return = 0xc3 ∷ []
bytes_of (Jump first) = first ∷ []

-- The bytes of instructions, one after the other.
abbrev pub spelling : List Instruction → List ℕ
spelling instructions = flat_map bytes_of instructions

-- The number of a register, with bit B as its bit 3 (volume 2, table 3-1): 4 is RSP, 5 is RBP.
abbrev pub register_number : RexPrefix → ℕ → ℕ
register_number NoRex low = low
register_number Rex low = low
register_number RexB low = 8 + low

-- `pop rbp` as assemblers write it, without a prefix.
abbrev pub is_plain_rbp_pop : Instruction → Bool
is_plain_rbp_pop (Pop NoRex low) = low == 5
is_plain_rbp_pop other = false
