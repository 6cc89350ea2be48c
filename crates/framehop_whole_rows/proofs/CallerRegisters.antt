-- The registers of a caller, one after the other.
use Rattle.std.proofs.Common.{◌≡◌, ℕ, ◌<◌, None, Ok, Some, arith, refl, sym, ap, ◌∙◌}
use Rattle.std.specs.Prelude.{nat_lt}
use Rattle.list_laws.proofs.Laws.{by_case}
use Rattle.dwarf_frame_instructions.specs.StateViews.{rule_as}
use Rattle.dwarf_frame_rows.specs.declared.rules.RegisterRule.{RegisterRule}
use Rattle.dwarf_frame_rows.specs.declared.rules.RegisterRule.TheVariants as rule
use Rattle.framehop_expressions.specs.Architectures.{register_count}
use Rattle.framehop_expressions.specs.Registers.{known}
use Rattle.framehop_expressions.specs.declared.registers.KnownRegisters.{KnownRegisters}
use Rattle.framehop_whole_rows.specs.Callers.{AreRegisters, IsResult, WholeCaller, caller_by, caller_register, register_after, returned}
use Rattle.framehop_whole_rows.specs.Rules.{RowFrame, ruled_return, stated_return}
use Rattle.framehop_whole_rows.specs.declared.caller.Returned.{Returned}

-- once each register that the architecture has is known, all are
pub all-known : (r : RowFrame) (to : Returned) (caller : KnownRegisters) → caller.architecture ≡ r.architecture → caller.mask ≡ r.mask
    → ((number : ℕ) → number < register_count r.architecture → known caller number ≡ caller_register r to number) → AreRegisters r caller (register_after r to)
all-known r to caller architecture mask each = record {
  architecture_is = architecture;
  mask_is = mask;
  values_are = λ number.
      by_case (nat_lt number (register_count r.architecture))
      (λ is. let below : number < register_count r.architecture = grind arith in each number below ∙ sym (rw is refl))
      (λ is.
      let none : known caller number ≡ None = rw (architecture, is) refl in
      none ∙ sym (rw is refl));
}

-- the caller by its CFA and return address
pub is-caller : (r : RowFrame) (to : Returned) (caller : KnownRegisters) → Ok (Some to) ≡ returned r → AreRegisters r caller (register_after r to)
    → IsResult r (Ok (Some (record { return_address = to.address; registers = caller })))
is-caller r to caller is are =
    let whole : WholeCaller = record { return_address = to.address; registers = register_after r to } in
    (whole, sym (ap (caller_by r) is), record { return_address = refl; registers = are })

-- a rule that isn't undefined says the return address
pub stated : {T : Type 0} (number : T → ℕ) (r : RowFrame) (at : ℕ) (column : RegisterRule T) → (column ≡ rule.Undefined → ⊥)
    → stated_return r at (rule_as number column) ≡ ruled_return r at (rule_as number column)
stated number r at rule.Undefined other = absurd (other refl)
stated number r at rule.SameValue other = refl
stated number r at (rule.Offset offset) other = refl
stated number r at (rule.ValOffset offset) other = refl
stated number r at (rule.Register register) other = refl
stated number r at (rule.Expression expression) other = refl
stated number r at (rule.ValExpression expression) other = refl
stated number r at rule.Architectural other = refl
stated number r at (rule.Constant n) other = refl
