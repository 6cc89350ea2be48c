-- The columns of an entry's table: the registers that its instructions and its CIE's name.
use Rattle.std.specs.Prelude.{ℕ, ◌&&◌, Bool, true, false, List, [], ◌∷◌, Option, Some, None, Ok, Err}
use Rattle.std.specs.BTreeSet.{insert_key}
use Rattle.std.specs.Ordering.{nat_cmp}
use Rattle.dwarf_frame_instructions.specs.declared.instructions.CallFrameInstruction.{CallFrameInstruction}
use Rattle.dwarf_frame_instructions.specs.declared.instructions.CallFrameInstruction.TheVariants.{Undefined, SameValue, Offset, OffsetExtendedSf, ValOffset, ValOffsetSf, Register as InRegister, Expression, ValExpression, Restore, Nop}
use Rattle.dwarf_frame_instructions.specs.Programs.{Instructions}

-- the register whose rule an instruction sets or restores, if it does
abbrev pub register_named : {T : Type 0} → CallFrameInstruction T → Option ℕ
register_named (Undefined register) = Some register.0
register_named (SameValue register) = Some register.0
register_named (Offset register number) = Some register.0
register_named (OffsetExtendedSf register number) = Some register.0
register_named (ValOffset register number) = Some register.0
register_named (ValOffsetSf register number) = Some register.0
register_named (InRegister register source) = Some register.0
register_named (Expression register expression) = Some register.0
register_named (ValExpression register expression) = Some register.0
register_named (Restore register) = Some register.0
register_named _ = None

-- a register goes among columns, which ascend
abbrev pub with_column : List ℕ → Option ℕ → List ℕ
with_column columns None = columns
with_column columns (Some register) = insert_key nat_cmp columns register

-- columns with those of the registers that instructions name
abbrev pub columns_with : List ℕ → Instructions ℕ → List ℕ
columns_with columns [] = columns
columns_with columns (Ok i ∷ rest) = columns_with (with_column columns (register_named i)) rest
columns_with columns (Err e ∷ rest) = columns_with columns rest

-- an instruction is padding
abbrev pub is_nop : {T : Type 0} → CallFrameInstruction T → Bool
is_nop Nop = true
is_nop _ = false

-- all instructions are padding
abbrev pub all_nops : Instructions ℕ → Bool
all_nops [] = true
all_nops (Ok i ∷ rest) = is_nop i && all_nops rest
all_nops (Err e ∷ rest) = false
