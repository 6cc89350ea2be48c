-- The instruction that code begins with, in 64-bit mode.
--
-- Intel SDM, volume 2, 2.1, 2.3.11 (at most 15 bytes).
use Rattle.std.specs.Prelude.{ℕ, ◌+◌, nat_lt, if◌then◌else◌, List, length, take, Option, Some, None, Result, Ok, Err}
use Rattle.framehop_x86_instructions.specs.Effects.{effect_of}
use Rattle.framehop_x86_instructions.specs.Layouts.{layout_of, length_of}
use Rattle.framehop_x86_instructions.specs.declared.instruction.DecodeError.{DecodeError}
use Rattle.framehop_x86_instructions.specs.declared.instruction.DecodeError.TheVariants.{Truncated, TooLong, Undefined, Xop}
use Rattle.framehop_x86_instructions.specs.declared.instruction.Instruction.{Instruction}
use Rattle.framehop_x86_instructions.specs.declared.layout.Layout.{Layout}
use Rattle.framehop_x86_instructions.specs.declared.opcode.Encoding.{Encoding}
use Rattle.framehop_x86_instructions.specs.declared.opcode.Encoding.TheVariants as encodings
use Rattle.framehop_x86_instructions.specs.declared.operands.Operands.{Operands}
use Rattle.framehop_x86_instructions.specs.declared.operands.Operands.TheVariants as forms

-- The error where a byte of it isn't among those that an instruction can have.
abbrev pub missing : List ℕ → DecodeError
missing code = if nat_lt (length code) 15 then Truncated else TooLong

-- Why parts are no instruction.
abbrev pub refusal_by : Encoding → Operands → Option DecodeError
refusal_by encodings.Xop operands = Some Xop
refusal_by _ forms.Undefined = Some Undefined
refusal_by _ _ = None

abbrev pub refusal : Layout → Option DecodeError
refusal layout = refusal_by layout.opcode.encoding layout.operands

-- The instruction with some parts, whose opcode is there. Its effect is told by its own bytes.
abbrev pub instruction_with : List ℕ → Layout → Option DecodeError → Result Instruction DecodeError
instruction_with code layout (Some error) = Err error
instruction_with code layout None =
    if nat_lt (length code) (length_of layout) then Err (missing code) else
    Ok (record { length = length_of layout; effect = effect_of (take (length_of layout) code) layout })

abbrev pub instruction_by : List ℕ → Layout → Result Instruction DecodeError
instruction_by code layout =
    if nat_lt (length code) (layout.prefixes.count + layout.opcode.size) then Err (missing code) else
    instruction_with code layout (refusal layout)

abbrev pub instruction_in : List ℕ → Result Instruction DecodeError
instruction_in code = instruction_by code (layout_of code)

-- By the first 15 bytes.
abbrev pub instruction_of : List ℕ → Result Instruction DecodeError
instruction_of code = instruction_in (take 15 code)
