-- What whole rows have to do with the unwind rules that say rows, on x86_64.
use Rattle.std.specs.Prelude.{◌≡◌, ℕ, Bool, Some, None, Ok}
use Rattle.std.specs.FinMap.{get}
use Rattle.framehop_registers.specs.Registers.{ip_of, sp_of, bp_of}
use Rattle.framehop_registers.specs.declared.x86_64.unwindregs.UnwindRegsX86_64.{UnwindRegsX86_64}
use Rattle.framehop_rules.specs.Outcome.{Answers, Caller}
use Rattle.framehop_rules.specs.RuleMeaning.{caller_registers, rule_meaning}
use Rattle.framehop_rules.specs.declared.x86_64.unwind_rule.UnwindRuleX86_64.{UnwindRuleX86_64}
use Rattle.dwarf_frame_parts.specs.RowParts.{parts_of}
use Rattle.framehop_rows.specs.ScaledRow.{RBP, RA, scaled_rule}
use Rattle.framehop_expressions.specs.Architectures.{sign_state}
use Rattle.framehop_expressions.specs.declared.architecture.Architecture.TheVariants.{X86_64}
use Rattle.framehop_whole_rows.specs.Callers.{WholeCaller, caller_of}
use Rattle.framehop_whole_rows.specs.Rules.{RowFrame}

-- A frame at a row has these registers, RIP, RSP and RBP, and its return address is that of x86_64. The row has no rule of RSP and
-- none of the sign state, as none on x86_64 has.
pub record IsFrameOf (registers : UnwindRegsX86_64) (r : RowFrame) : Type 0 where
  pub architecture : r.architecture ≡ X86_64
  pub column : r.column ≡ 16
  pub sp : r.frame.registers 7 ≡ Some (sp_of registers)
  pub bp : r.frame.registers 6 ≡ Some (bp_of registers)
  pub ip : r.frame.registers 16 ≡ Some (ip_of registers)
  pub no_sp_rule : get r.row.rules 7 ≡ None
  pub no_sign_rule : get r.row.rules sign_state ≡ None

-- A caller by a whole row agrees with one that has the same registers but for these of the return address, RSP and RBP: the return address and
-- RSP are the same, and RBP is, if it is known.
pub record AgreesWith (registers : UnwindRegsX86_64) (caller : Caller UnwindRegsX86_64) (whole : WholeCaller) : Type 0 where
  pub sp : ℕ
  pub bp : ℕ
  pub caller_is : caller.registers ≡ caller_registers registers caller.return_address sp bp
  pub return_address_is : whole.return_address ≡ caller.return_address
  pub sp_is : whole.registers 7 ≡ Some sp
  pub bp_is : (known : ℕ) → whole.registers 6 ≡ Some known → known ≡ bp

-- A frame at a row has a caller that agrees with this one.
abbrev pub HasCallerAs : UnwindRegsX86_64 → RowFrame → Caller UnwindRegsX86_64 → Type 0
HasCallerAs registers r caller = (whole : WholeCaller) × (caller_of r ≡ Ok (Some whole)) × AgreesWith registers caller whole

-- If a rule says a row exactly and gives a caller, the whole row gives one that agrees with it.
abbrev pub RulesAnswerAsWholeRows : Type 0
RulesAnswerAsWholeRows =
    (registers : UnwindRegsX86_64) (r : RowFrame) (rule : UnwindRuleX86_64) (first : Bool) (caller : Caller UnwindRegsX86_64)
    → IsFrameOf registers r → scaled_rule (parts_of RBP RA r.row) ≡ Some rule
    → rule_meaning rule first registers r.frame.words ≡ Answers caller → HasCallerAs registers r caller
