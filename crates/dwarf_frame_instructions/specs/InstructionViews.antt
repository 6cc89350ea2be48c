-- Instructions of the code as those of the definitions: offsets and lengths are numbers.
use Rattle.std.specs.Prelude.{ℕ, ◌<◌, List, length, Option, option_map, Result, Ok, Err, IfSome}
use Rattle.list_laws.specs.Items.{GivesNext}
use Rattle.dwarf_constants.specs.declared.constants.DwCfa.{DwCfa}
use Rattle.dwarf_constants.specs.declared.constants.DwEhPe.{DwEhPe}
use Rattle.dwarf_constants.specs.declared.common.Vendor.{Vendor}
use Rattle.dwarf_constants.specs.declared.error.Error.{Error}
use Rattle.dwarf_readers.specs.Operands.{Parse}
use Rattle.dwarf_readers.specs.Stretch.{ReadsAs, Stretch}
use Rattle.dwarf_frame_rows.specs.declared.expression.UnwindExpression.{UnwindExpression}
use Rattle.dwarf_frame_rows.specs.declared.pointer.PointerEncodingParameters.{PointerEncodingParameters}
use Rattle.dwarf_frame_rows.specs.EncodedPointer.{origins_of}
use Rattle.dwarf_frame_instructions.specs.declared.instructions.CallFrameInstruction.{CallFrameInstruction}
use Rattle.dwarf_frame_instructions.specs.declared.instructions.CallFrameInstruction.TheVariants.{SetLoc, AdvanceLoc, DefCfa, DefCfaSf, DefCfaRegister, DefCfaOffset, DefCfaOffsetSf, DefCfaExpression, Undefined, SameValue, Offset, OffsetExtendedSf, ValOffset, ValOffsetSf, Register as InRegister, Expression, ValExpression, Restore, RememberState, RestoreState, ArgsSize, NegateRaState, Nop}
use Rattle.dwarf_frame_instructions.specs.declared.instructions.Coding.{Coding}
use Rattle.dwarf_frame_instructions.specs.Instructions.{Conventions, Operands, instructions_of, listed_at}

-- the offset and length of an expression
abbrev pub expression_as : {T U : Type 0} → (T → U) → UnwindExpression T → UnwindExpression U
expression_as number e = record { offset = number e.offset; length = number e.length }

-- an instruction
abbrev pub instruction_as : {T U : Type 0} → (T → U) → CallFrameInstruction T → CallFrameInstruction U
instruction_as number (SetLoc address) = SetLoc address
instruction_as number (AdvanceLoc delta) = AdvanceLoc delta
instruction_as number (DefCfa register offset) = DefCfa register offset
instruction_as number (DefCfaSf register factored) = DefCfaSf register factored
instruction_as number (DefCfaRegister register) = DefCfaRegister register
instruction_as number (DefCfaOffset offset) = DefCfaOffset offset
instruction_as number (DefCfaOffsetSf factored) = DefCfaOffsetSf factored
instruction_as number (DefCfaExpression expression) = DefCfaExpression (expression_as number expression)
instruction_as number (Undefined register) = Undefined register
instruction_as number (SameValue register) = SameValue register
instruction_as number (Offset register factored) = Offset register factored
instruction_as number (OffsetExtendedSf register factored) = OffsetExtendedSf register factored
instruction_as number (ValOffset register factored) = ValOffset register factored
instruction_as number (ValOffsetSf register factored) = ValOffsetSf register factored
instruction_as number (InRegister register source) = InRegister register source
instruction_as number (Expression register expression) = Expression register (expression_as number expression)
instruction_as number (ValExpression register expression) = ValExpression register (expression_as number expression)
instruction_as number (Restore register) = Restore register
instruction_as number RememberState = RememberState
instruction_as number RestoreState = RestoreState
instruction_as number (ArgsSize size) = ArgsSize size
instruction_as number NegateRaState = NegateRaState
instruction_as number Nop = Nop

-- the conventions of the code's parameters
abbrev pub conventions_of : {R : Type 0} → (R → Stretch) → ℕ → Option DwEhPe → PointerEncodingParameters R → Vendor → Conventions
conventions_of stretch limit encoding parameters vendor = record {
  encoding = option_map (λ e. e.0) encoding;
  origins = origins_of stretch parameters;
  vendor = vendor;
  limit = limit;
}

-- the conventions of the code's record of them
abbrev pub conventions_by : {R : Type 0} → (R → Stretch) → ℕ → Coding R → Conventions
conventions_by stretch limit coding = record {
  encoding = option_map (λ e. e.0) coding.address_encoding;
  origins = record {
    bases = coding.bases.now;
    function = coding.func_base;
    section_place = (stretch coding.section).offset;
    address_size = coding.address_size;
  };
  vendor = coding.vendor;
  limit = limit;
}

-- the instructions that the code's record of conventions reads in a stretch
abbrev pub instructions_by : {R : Type 0} → (R → Stretch) → ℕ → Coding R → R → List (Result (CallFrameInstruction ℕ) Error)
instructions_by stretch limit coding input = instructions_of (conventions_by stretch limit coding) (stretch input)

-- The code read as a definition reads by the code's conventions: it returned what is there, as `view` shows it, and left the rest.
abbrev pub ReadsBy : {R X Y : Type 0} → (R → Stretch) → ℕ → (X → Y) → Coding R → (Conventions → Parse Y) → R → Result X Error → R
    → Type 0
ReadsBy stretch limit view coding parse old result new =
    ReadsAs view result (parse (conventions_by stretch limit coding) (stretch old)) (stretch new)

-- The code read the operands of an opcode as a table lists them.
abbrev pub ReadsOperands : {R O : Type 0} → (R → Stretch) → ℕ → (O → ℕ) → Coding R → (Conventions → List (DwCfa × Operands)) → DwCfa
    → R → Result (CallFrameInstruction O) Error → R → Type 0
ReadsOperands stretch limit number coding table opcode old result new =
    ReadsBy stretch limit (instruction_as number) coding (λ conventions. listed_at (table conventions) opcode.0) old result new

-- If the code returned something, it read an instruction as a definition reads it.
abbrev pub MayRead : {R O : Type 0} → (R → Stretch) → ℕ → (O → ℕ) → Coding R → (Conventions → Parse (CallFrameInstruction ℕ)) → R
    → Option (CallFrameInstruction O) → R → Type 0
MayRead stretch limit number coding parse old result new =
    IfSome result (λ i. ReadsBy stretch limit (instruction_as number) coding parse old (Ok i) new)

-- .. the operands of an opcode as a table lists them
abbrev pub MayReadOperands : {R O : Type 0} → (R → Stretch) → ℕ → (O → ℕ) → Coding R → (Conventions → List (DwCfa × Operands)) → DwCfa
    → R → Option (CallFrameInstruction O) → R → Type 0
MayReadOperands stretch limit number coding table opcode old result new =
    IfSome result (λ i. ReadsOperands stretch limit number coding table opcode old (Ok i) new)

-- The code read the next instruction, or found that none is left, or failed as the list of them does; the others are left.
abbrev pub GivesNextBy : {R O : Type 0} → (R → Stretch) → ℕ → (O → ℕ) → Coding R → Result (Option (CallFrameInstruction O)) Error
    → R → R → Type 0
GivesNextBy stretch limit number coding result old new =
    GivesNext (instruction_as number) result (instructions_by stretch limit coding old) (instructions_by stretch limit coding new)

-- Of the instructions that the code's record of conventions reads, fewer are left.
abbrev pub HasFewerBy : {R : Type 0} → (R → Stretch) → ℕ → Coding R → R → R → Type 0
HasFewerBy stretch limit coding old new =
    length (instructions_by stretch limit coding new) < length (instructions_by stretch limit coding old)

-- a result, its value by a view
abbrev pub answer_as : {X Y : Type 0} → (X → Y) → Result X Error → Result Y Error
answer_as view (Ok x) = Ok (view x)
answer_as view (Err e) = Err e
