-- What the instructions do (Arm's manual, C6.2, 'Operation' of ADD (immediate), AUTIBSP, EOR (shifted register), LDP, MOVZ, RET,
-- TBZ), on a memory that has a word at every address. Sums are modulo 2^64.
use Rattle.std.specs.Prelude.{ℕ, ◌-◌, ◌*◌, ◌%◌, ◌^◌, ◌==◌, if◌then◌else◌, ℤ, pos, negsuc, ◌+ℤ◌, ◌*ℤ◌, List, [], ◌∷◌}
use Rattle.std.specs.Int.Bits.{bit_xor}
use Rattle.framehop_analysis.specs.EpilogueInstructionsAarch64.{EpilogueInstruction, Load, Add}
use Rattle.framehop_analysis.specs.declared.aarch64.instruction_analysis.pair.AddressingMode.TheVariants.{PostIndex, SignedOffset, PreIndex}
use Rattle.framehop_analysis.specs.declared.aarch64.instruction_analysis.pair.Pair.{Pair}

-- The instruction pointer, the stack pointer, x29, x30, the other registers by their numbers, and the memory.
pub record State : Type 0 where
  pub ip : ℕ
  pub sp : ℕ
  pub fp : ℕ
  pub lr : ℕ
  pub others : ℕ → ℕ
  pub memory : ℕ → ℕ

-- A number modulo 2^64.
abbrev pub wrapped : ℤ → ℕ
wrapped (pos n) = n % 2 ^ 64
wrapped (negsuc n) = 2 ^ 64 - 1 - n % 2 ^ 64

-- The address so many bytes from another.
abbrev pub moved : ℕ → ℤ → ℕ
moved address bytes = wrapped (pos address +ℤ bytes)

-- The state with another value of the register with a number.
abbrev pub put : ℕ → ℕ → State → State
put number value s =
    if number == 29 then record s { fp = value } else
    if number == 30 then record s { lr = value } else
    record s { others = λ other. if other == number then value else s.others other }

-- How many bytes from the stack pointer a pair is loaded or stored.
abbrev pub access_offset : Pair → ℤ
access_offset pair = elim pair.mode [ PostIndex ↦ pos 0 | SignedOffset ↦ pos 8 *ℤ pair.offset_by_8 | PreIndex ↦ pos 8 *ℤ pair.offset_by_8 ]

-- By how many bytes the stack pointer goes up at it.
abbrev pub raise : Pair → ℤ
raise pair = elim pair.mode [ PostIndex ↦ pos 8 *ℤ pair.offset_by_8 | SignedOffset ↦ pos 0 | PreIndex ↦ pos 8 *ℤ pair.offset_by_8 ]

-- What an instruction does. The second register is loaded last.
abbrev pub epilogue_effect : EpilogueInstruction → State → State
epilogue_effect (Load bit_30 pair) s =
    let at = moved s.sp (access_offset pair) in
    let raised = record s { sp = moved s.sp (raise pair) } in
    put pair.second (s.memory (moved at (pos 8))) (put pair.first (s.memory at) raised)
epilogue_effect (Add shift number) s = record s { sp = moved s.sp (pos (number * 4096 ^ shift)) }

-- The state after instructions, one after the other.
abbrev pub state_after_epilogue : List EpilogueInstruction → State → State
state_after_epilogue [] s = s
state_after_epilogue (instruction ∷ more) s = state_after_epilogue more (epilogue_effect instruction s)

-- What stands in an authenticated tail call before its branch: `autibsp`; `eor x16, x30, x30, lsl #1`; `tbz x16, #62`, which passes over
-- `brk`, since the address is right; `movz x16`, with its number.
pub data CheckInstruction : Type 0 where
  Authenticate : CheckInstruction
  ShiftedXor : CheckInstruction
  TestBit : CheckInstruction
  MoveToX16 : ℕ → CheckInstruction

-- What it does. The signature of an address is in bits that are masked, so that here `autibsp` does nothing.
abbrev pub check_effect : CheckInstruction → State → State
check_effect Authenticate s = s
check_effect ShiftedXor s = put 16 (bit_xor s.lr (s.lr * 2 % 2 ^ 64)) s
check_effect TestBit s = s
check_effect (MoveToX16 number) s = put 16 number s

-- The state after such instructions, one after the other.
abbrev pub state_after_checks : List CheckInstruction → State → State
state_after_checks [] s = s
state_after_checks (instruction ∷ more) s = state_after_checks more (check_effect instruction s)

-- How a function is left, after such instructions or none: by a return. A tail call leaves for another function, whose return it stands
-- for.
abbrev pub leave : List CheckInstruction → State → State
leave checks s = let checked = state_after_checks checks s in record checked { ip = checked.lr }
