-- The parts of a CFA rule (DWARF 5, 6.4.2.2). One that is an expression has none, and can't be changed in part.
use Rattle.std.specs.Prelude.{ℤ, pos, Result, Ok, Err}
use Rattle.dwarf_constants.specs.declared.common.Register.{Register}
use Rattle.dwarf_constants.specs.declared.error.Error.{Error}
use Rattle.dwarf_constants.specs.declared.error.Error.TheVariants.{CfiInstructionInInvalidContext}
use Rattle.dwarf_frame_rows.specs.declared.rules.CfaRule.{CfaRule}
use Rattle.dwarf_frame_rows.specs.declared.rules.CfaRule.TheVariants.{RegisterAndOffset, Expression}

-- the rule before any instruction
abbrev pub first_cfa : {T : Type 0} → CfaRule T
first_cfa = RegisterAndOffset (record { 0 = 0 }) (pos 0)

-- the rule's offset from another register
abbrev pub with_cfa_register : {T : Type 0} → Register → CfaRule T → Result (CfaRule T) Error
with_cfa_register register (RegisterAndOffset before offset) = Ok (RegisterAndOffset register offset)
with_cfa_register register (Expression expression) = Err CfiInstructionInInvalidContext

-- another offset from the rule's register
abbrev pub with_cfa_offset : {T : Type 0} → ℤ → CfaRule T → Result (CfaRule T) Error
with_cfa_offset offset (RegisterAndOffset register before) = Ok (RegisterAndOffset register offset)
with_cfa_offset offset (Expression expression) = Err CfiInstructionInInvalidContext
