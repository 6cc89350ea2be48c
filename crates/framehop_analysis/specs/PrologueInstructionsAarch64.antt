-- Instructions that functions of aarch64 begin with, the words that spell them, and what they do.
--
-- Arm Architecture Reference Manual for A-profile architecture, C6.2 (PACIBSP, STP, SUB (immediate)).
use Rattle.std.specs.List.{flat_map}
use Rattle.std.specs.Int.{to_le_bytes, w32}
use Rattle.std.specs.Prelude.{ℕ, ◌*◌, ◌<◌, ◌^◌, ◌==◌, if◌then◌else◌, ℤ, pos, ◌+ℤ◌, ◌-ℤ◌, List, [], ◌∷◌}
use Rattle.framehop_analysis.specs.PairsAarch64.{PairFits, pair_word}
use Rattle.framehop_analysis.specs.EpilogueInstructionsAarch64.{immediate_word}
use Rattle.framehop_analysis.specs.MachineAarch64.{State, moved, access_offset, raise}
use Rattle.framehop_analysis.specs.declared.aarch64.instruction_analysis.pair.Pair.{Pair}

-- `pacibsp`; `stp` with its bit 30; `sub` from the stack pointer with its shift, by 12 bits for 1, and its number.
pub data PrologueInstruction : Type 0 where
  Sign : PrologueInstruction
  Store : ℕ → Pair → PrologueInstruction
  Sub : ℕ → ℕ → PrologueInstruction

-- Each field has a value that its bits can have.
abbrev pub PrologueFits : PrologueInstruction → Type 0
PrologueFits Sign = Unit {0}
PrologueFits (Store bit_30 pair) = (bit_30 < 2) × PairFits pair
PrologueFits (Sub shift number) = (shift < 2) × (number < 4096)

-- The word of an instruction.
abbrev pub prologue_word : PrologueInstruction → ℕ
prologue_word Sign = 0xd503237f
prologue_word (Store bit_30 pair) = pair_word 0 bit_30 pair
prologue_word (Sub shift number) = immediate_word 0x1a2 shift number 31

-- The bytes of instructions, one after the other, each word with its lowest byte first.
abbrev pub prologue_spelling : List PrologueInstruction → List ℕ
prologue_spelling instructions = flat_map (λ instruction. to_le_bytes w32 (prologue_word instruction)) instructions

-- By how many bytes an instruction lowers the stack pointer, in whole numbers.
abbrev pub lowering : PrologueInstruction → ℤ
lowering Sign = pos 0
lowering (Store bit_30 pair) = pos 0 -ℤ raise pair
lowering (Sub shift number) = pos (number * 4096 ^ shift)

-- By how many bytes all lower it.
abbrev pub lowering_of_all : List PrologueInstruction → ℤ
lowering_of_all [] = pos 0
lowering_of_all (instruction ∷ more) = lowering instruction +ℤ lowering_of_all more

-- The value of the register with a number. Number 31 is the zero register in a store.
abbrev pub register : State → ℕ → ℕ
register s number =
    if number == 29 then s.fp else
    if number == 30 then s.lr else
    if number == 31 then 0 else s.others number

-- A memory with another word at an address.
abbrev pub with_word : (ℕ → ℕ) → ℕ → ℕ → (ℕ → ℕ)
with_word memory at word = λ other. if other == at then word else memory other

-- What an instruction does. A signature changes bits of the return address that are masked, so that here it does nothing.
abbrev pub prologue_effect : PrologueInstruction → State → State
prologue_effect Sign s = s
prologue_effect (Store bit_30 pair) s =
    let at = moved s.sp (access_offset pair) in
    record s {
      sp = moved s.sp (raise pair);
      memory = with_word (with_word s.memory at (register s pair.first)) (moved at (pos 8)) (register s pair.second);
    }
prologue_effect (Sub shift number) s = record s { sp = moved s.sp (pos 0 -ℤ pos (number * 4096 ^ shift)) }

-- The state after instructions, one after the other.
abbrev pub state_after_prologue : List PrologueInstruction → State → State
state_after_prologue [] s = s
state_after_prologue (instruction ∷ more) s = state_after_prologue more (prologue_effect instruction s)
