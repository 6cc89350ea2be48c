-- What an instruction is told by.
use Rattle.std.specs.Prelude.{ℕ, ◌≡◌, List, ◌++◌, take, Ok}
use Rattle.framehop_x86_instructions.specs.Instructions.{instruction_of}
use Rattle.framehop_x86_instructions.specs.declared.instruction.Instruction.{Instruction}

-- Code that begins with the bytes of an instruction begins with that instruction.
abbrev pub IsToldByItsBytes : (code more : List ℕ) → Instruction → Type 0
IsToldByItsBytes code more instruction =
    instruction_of code ≡ Ok instruction → instruction_of (take instruction.length code ++ more) ≡ Ok instruction
