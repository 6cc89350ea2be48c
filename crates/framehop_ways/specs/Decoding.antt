-- The instruction of a word.
use Rattle.std.specs.Prelude.{ℕ, ◌||◌, if◌then◌else◌, Option, Some, None}
use Rattle.framehop_ways.specs.PlainWords.{lost_by_plain}
use Rattle.framehop_ways.specs.Accesses.{access_of}
use Rattle.framehop_ways.specs.Moves.{move_of, is_signing_hint, is_signing_of_lr}
use Rattle.framehop_ways.specs.Branches.{control_of}
use Rattle.framehop_ways.specs.declared.instruction.Lost.{Lost}
use Rattle.framehop_ways.specs.declared.instruction.Instruction.{Instruction}
use Rattle.framehop_ways.specs.declared.instruction.Instruction.TheVariants.{Sign, Plain, Unknown}

-- The first of two instructions, if there is one.
abbrev pub or_else : Option Instruction → Instruction → Instruction
or_else (Some instruction) other = instruction
or_else None other = other

-- A word of no group may do anything.
abbrev pub plain_of : Option Lost → Instruction
plain_of (Some lost) = Plain lost
plain_of None = Unknown

-- What does something known to the stack pointer, x29 or x30 comes first, and then what may write them.
abbrev pub instruction_of : ℕ → Instruction
instruction_of word =
    or_else (control_of word) (or_else (access_of word) (or_else (move_of word)
    (if is_signing_hint word || is_signing_of_lr word then Sign else plain_of (lost_by_plain word))))
