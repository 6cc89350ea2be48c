-- What each call frame instruction does (DWARF 5, 6.4.2), as one effect.
use Rattle.std.specs.Prelude.{ℕ, ◌+◌, ◌*◌, ◌%◌, ◌^◌, ℤ, Result, Ok, Err, nat_lt, if◌then◌else◌, min}
use Rattle.std.specs.Int.{w64, cast_signed, cast_unsigned}
use Rattle.dwarf_constants.specs.declared.error.Error.{Error}
use Rattle.dwarf_constants.specs.declared.error.Error.TheVariants.{AddressOverflow, InvalidCfiSetLoc}
use Rattle.dwarf_frame_rows.specs.declared.effect.Effect.{Effect}
use Rattle.dwarf_frame_rows.specs.declared.effect.Effect.TheVariants.{Move, Cfa, CfaRegister, CfaOffset, Rule, RestoreRule, Remember, Nothing}
use Rattle.dwarf_frame_rows.specs.declared.effect.Effect.TheVariants as effect
use Rattle.dwarf_frame_rows.specs.declared.rules.CfaRule.TheVariants.{RegisterAndOffset}
use Rattle.dwarf_frame_rows.specs.declared.rules.CfaRule.TheVariants as cfa
use Rattle.dwarf_frame_rows.specs.declared.rules.RegisterRule.TheVariants as rule
use Rattle.dwarf_frame_instructions.specs.declared.effects.Factors.{Factors}
use Rattle.dwarf_frame_instructions.specs.declared.instructions.CallFrameInstruction.{CallFrameInstruction}
use Rattle.dwarf_frame_instructions.specs.declared.instructions.CallFrameInstruction.TheVariants.{SetLoc, AdvanceLoc, DefCfa, DefCfaSf, DefCfaRegister, DefCfaOffset, DefCfaOffsetSf, DefCfaExpression, Undefined, SameValue, Offset, OffsetExtendedSf, ValOffset, ValOffsetSf, Register as InRegister, Expression, ValExpression, Restore, RememberState, RestoreState, ArgsSize, NegateRaState, Nop}

-- what addresses of this size in bytes are below; none has more than 64 bits
abbrev pub address_limit : ℕ → ℕ
address_limit size = 2 ^ (8 * min size 8)

-- the location moves forward to this one, if it is an address
abbrev pub advanced_to : {T : Type 0} → Factors → ℕ → Result (Effect T) Error
advanced_to factors location =
    if nat_lt location (address_limit factors.address_size) then Ok (Move location) else Err AddressOverflow

-- the location is set to an address that is not lower
abbrev pub set_to : {T : Type 0} → ℕ → ℕ → Result (Effect T) Error
set_to location address = if nat_lt address location then Err (InvalidCfiSetLoc address) else Ok (Move address)

-- a number times the data alignment factor, modulo 2^64, as a signed number
abbrev pub factored_offset : Factors → ℕ → ℤ
factored_offset factors number = cast_signed w64 ((number * cast_unsigned w64 factors.data_alignment_factor) % 2 ^ 64)

-- a signed number times the data alignment factor, modulo 2^64, as a signed number
abbrev pub factored_signed : Factors → ℤ → ℤ
factored_signed factors number = factored_offset factors (cast_unsigned w64 number)

-- what an instruction does at this location
abbrev pub effect_of : {T : Type 0} → Factors → ℕ → CallFrameInstruction T → Result (Effect T) Error
effect_of factors location (SetLoc address) = set_to location address
effect_of factors location (AdvanceLoc delta) = advanced_to factors (location + (delta * factors.code_alignment_factor) % 2 ^ 64)
effect_of factors location (DefCfa register offset) = Ok (Cfa (RegisterAndOffset register (cast_signed w64 offset)))
effect_of factors location (DefCfaSf register number) = Ok (Cfa (RegisterAndOffset register (factored_signed factors number)))
effect_of factors location (DefCfaRegister register) = Ok (CfaRegister register)
effect_of factors location (DefCfaOffset offset) = Ok (CfaOffset (cast_signed w64 offset))
effect_of factors location (DefCfaOffsetSf number) = Ok (CfaOffset (factored_signed factors number))
effect_of factors location (DefCfaExpression expression) = Ok (Cfa (cfa.Expression expression))
effect_of factors location (Undefined register) = Ok (Rule register rule.Undefined)
effect_of factors location (SameValue register) = Ok (Rule register rule.SameValue)
effect_of factors location (Offset register number) = Ok (Rule register (rule.Offset (factored_offset factors number)))
effect_of factors location (OffsetExtendedSf register number) = Ok (Rule register (rule.Offset (factored_signed factors number)))
effect_of factors location (ValOffset register number) = Ok (Rule register (rule.ValOffset (factored_offset factors number)))
effect_of factors location (ValOffsetSf register number) = Ok (Rule register (rule.ValOffset (factored_signed factors number)))
effect_of factors location (InRegister register source) = Ok (Rule register (rule.Register source))
effect_of factors location (Expression register expression) = Ok (Rule register (rule.Expression expression))
effect_of factors location (ValExpression register expression) = Ok (Rule register (rule.ValExpression expression))
effect_of factors location (Restore register) = Ok (RestoreRule register)
effect_of factors location RememberState = Ok Remember
effect_of factors location RestoreState = Ok effect.Restore
effect_of factors location (ArgsSize size) = Ok (effect.ArgsSize size)
effect_of factors location NegateRaState = Ok effect.NegateRaState
effect_of factors location Nop = Ok Nothing
