-- Where a row answers a step, the caller's stack pointer is its CFA.
use Rattle.std.proofs.Common.{◌≡◌, ℕ, ◌^◌, Bool, true, false, length, Option, Some, None, Ok, Err, refl, sym, ap, ◌∙◌, arith, get_or-set_other, get_or-set_same}
use Rattle.std.specs.Prelude.{ℤ, pos, negsuc, ◌+ℤ◌, ◌<◌, ◌≢◌, ◌&&◌, not, nat_lt, nat_le, if◌then◌else◌, option_and_then, option_map, slice_set, unwrap_or}
use Rattle.std.proofs.lemmas.Bool.Decides.{nat_tests}
use Rattle.dwarf_constants.specs.declared.common.Register.{Register}
use Rattle.dwarf_readers.specs.Stretch.{Stretch}
use Rattle.dwarf_frame_rows.specs.Row.{Row}
use Rattle.dwarf_frame_rows.specs.declared.rules.CfaRule.{CfaRule}
use Rattle.dwarf_frame_rows.specs.declared.rules.CfaRule.TheVariants.{RegisterAndOffset, Expression}
use Rattle.framehop_errors.specs.declared.dwarf.DwarfUnwinderError.{DwarfUnwinderError}
use Rattle.framehop_errors.specs.declared.dwarf.DwarfUnwinderError.TheVariants.{StackPointerMovedBackwards}
use Rattle.framehop_registers.specs.Callback.{Words}
use Rattle.framehop_registers.specs.Registers.{HasAllRegisters, ip_of}
use Rattle.framehop_registers.specs.Registers as x86_64_registers
use Rattle.framehop_registers.specs.RegistersAarch64 as aarch64_registers
use Rattle.framehop_registers.specs.declared.aarch64.unwindregs.UnwindRegsAarch64.{UnwindRegsAarch64}
use Rattle.framehop_registers.specs.declared.x86_64.unwindregs.UnwindRegsX86_64.{UnwindRegsX86_64}
use Rattle.framehop_rules.specs.Outcome.{Caller}
use Rattle.framehop_rules.specs.RuleMeaning as x86_64_rules
use Rattle.framehop_rules.specs.RuleMeaningAarch64 as aarch64_rules
use Rattle.framehop_rules.specs.declared.aarch64.unwind_rule.UnwindRuleAarch64.{UnwindRuleAarch64}
use Rattle.framehop_rules.specs.declared.x86_64.unwind_rule.UnwindRuleX86_64.{UnwindRuleX86_64}
use Rattle.framehop_rows.specs.Columns.{Sources, cfa_by, column_by}
use Rattle.framehop_rows.specs.DirectRow as x86_64_direct
use Rattle.framehop_rows.specs.DirectRowAarch64 as aarch64_direct
use Rattle.framehop_rows.specs.RowAnswer as x86_64_answer
use Rattle.framehop_rows.specs.RowAnswerAarch64 as aarch64_answer
use Rattle.framehop_rows.specs.RowAttempt.{said_or_given}
use Rattle.dwarf_frame_parts.specs.RowParts.{parts_of}
use Rattle.framehop_rows.specs.RowSources.{direct_sources, in_half, in_range, plus, sum_of, whole_sources}
use Rattle.framehop_rows.specs.RuleLaws.{RulesAnswerAsRows}
use Rattle.framehop_rows.specs.ScaledRow as x86_64_scaled
use Rattle.framehop_rows.specs.ScaledRowAarch64 as aarch64_scaled
use Rattle.framehop.specs.RowCfas.{RowAnswers, cfa_sources}

-- ---- what a CFA is evaluated by

half-whole : (z : ℤ) (a : ℕ) → in_half z ≡ Some a → in_range z ≡ Some a
half-whole (negsuc n) a is = cc
half-whole (pos n) a is = by (nat_lt n (2 ^ 63)) refl is
  where
    by : (b : Bool) → nat_lt n (2 ^ 63) ≡ b → (if b then Some n else None) ≡ Some a → (if nat_lt n (2 ^ 64) then Some n else None) ≡ Some a
    by true low is = let fits : nat_lt n (2 ^ 64) ≡ true = grind (arith, nat_tests) in rw fits is
    by false low is = cc

sum-whole : (base : ℕ) (offset : ℤ) (a : ℕ) → sum_of base offset ≡ Some a → plus base offset ≡ Some a
sum-whole base offset a is = by (nat_lt base (2 ^ 63)) is
  where
    by : (b : Bool) → (if b then in_half (pos base +ℤ offset) else None) ≡ Some a → in_range (pos base +ℤ offset) ≡ Some a
    by true is = half-whole (pos base +ℤ offset) a is
    by false is = cc

module _ (limit : Option ℕ) (size : ℕ) (section : Stretch) (values : Register → Option ℕ) where
  -- a CFA in whole numbers
  whole-cfa : (cfa : CfaRule ℕ) (a : ℕ) → cfa_by (whole_sources values) cfa ≡ Some a → cfa_by (cfa_sources limit size section values) cfa ≡ Some a
  whole-cfa (RegisterAndOffset register offset) a is = is
  whole-cfa (Expression expression) a is = cc

  -- a CFA that is evaluated
  direct-cfa : (cfa : CfaRule ℕ) (a : ℕ) → cfa_by (direct_sources limit size section values) cfa ≡ Some a → cfa_by (cfa_sources limit size section values) cfa ≡ Some a
  direct-cfa (RegisterAndOffset register offset) a is = by (values register) is
    where
      by : (o : Option ℕ) → option_and_then (λ base. sum_of base offset) o ≡ Some a → option_and_then (λ base. plus base offset) o ≡ Some a
      by (Some base) is = sum-whole base offset a is
      by None is = cc
  direct-cfa (Expression expression) a is = is

-- ---- x86_64

-- the stack pointer that is written is read again
written-sp : (registers : UnwindRegsX86_64) (ip sp bp : ℕ) → HasAllRegisters registers → x86_64_registers.sp_of (x86_64_rules.caller_registers registers ip sp bp) ≡ sp
written-sp registers ip sp bp all =
    let lt : 7 < length registers.regs = omega arith in
    let other : 7 ≢ 6 = omega arith in
    get_or-set_other (slice_set registers.regs 7 sp) 6 7 bp 0 other ∙ get_or-set_same registers.regs 7 sp 0 lt

module _ (registers : UnwindRegsX86_64) (all : HasAllRegisters registers) (words : Words) (caller : Caller UnwindRegsX86_64) where
  -- a caller that was made has the CFA as its stack pointer
  sp-made : (to ip cfa bp : ℕ) → ◌≡◌ {A = Caller UnwindRegsX86_64} (record { return_address = to; registers = x86_64_rules.caller_registers registers ip cfa bp }) caller → x86_64_registers.sp_of caller.registers ≡ cfa
  sp-made to ip cfa bp same = ap (λ (c : Caller UnwindRegsX86_64). x86_64_registers.sp_of c.registers) (sym same) ∙ written-sp registers ip cfa bp all

  -- a row in whole numbers
  answer-cfa : (row : Row ℕ) (o : Option ℕ) → option_and_then (x86_64_answer.caller_at registers words (parts_of x86_64_scaled.RBP x86_64_scaled.RA row)) o ≡ Some caller → o ≡ Some (x86_64_registers.sp_of caller.registers)
  answer-cfa row None is = cc
  answer-cfa row (Some cfa) is = by (option_and_then (column_by (whole_sources (x86_64_answer.register_value registers)) words cfa (ip_of registers)) (parts_of x86_64_scaled.RBP x86_64_scaled.RA row).ra) is
    where
      by : (o : Option ℕ) → option_map (x86_64_answer.caller_from registers words (parts_of x86_64_scaled.RBP x86_64_scaled.RA row).fp cfa) o ≡ Some caller → Some cfa ≡ Some (x86_64_registers.sp_of caller.registers)
      by None is = cc
      by (Some to) is =
          let same : x86_64_answer.caller_from registers words (parts_of x86_64_scaled.RBP x86_64_scaled.RA row).fp cfa to ≡ caller = cc in
          let bp = unwrap_or (option_and_then (column_by (whole_sources (x86_64_answer.register_value registers)) words cfa (x86_64_registers.bp_of registers)) (parts_of x86_64_scaled.RBP x86_64_scaled.RA row).fp) (x86_64_registers.bp_of registers) in
          ap (λ (n : ℕ). Some n) (sym (sp-made to to cfa bp same))

  -- a row that is evaluated
  unless-refused : (refusal : Option DwarfUnwinderError) (to cfa bp : ℕ)
      → x86_64_direct.caller_unless refusal (record { return_address = to; registers = x86_64_rules.caller_registers registers to cfa bp }) ≡ Ok caller
      → Some cfa ≡ Some (x86_64_registers.sp_of caller.registers)
  unless-refused (Some e) to cfa bp is = cc
  unless-refused None to cfa bp is =
      let same : ◌≡◌ {A = Caller UnwindRegsX86_64} (record { return_address = to; registers = x86_64_rules.caller_registers registers to cfa bp }) caller = cc in
      ap (λ (n : ℕ). Some n) (sym (sp-made to to cfa bp same))

  direct-made : (sources : Sources) (first : Bool) (row : Row ℕ) (o : Option ℕ) → x86_64_direct.direct_by_cfa sources first registers words (parts_of x86_64_scaled.RBP x86_64_scaled.RA row) o ≡ Ok caller → o ≡ Some (x86_64_registers.sp_of caller.registers)
  direct-made sources first row None is = cc
  direct-made sources first row (Some cfa) is = by (x86_64_direct.direct_return_address sources registers words cfa (parts_of x86_64_scaled.RBP x86_64_scaled.RA row).ra) is
    where
      by : (o : Option ℕ) → x86_64_direct.direct_by_return_address sources first registers words (parts_of x86_64_scaled.RBP x86_64_scaled.RA row) cfa o ≡ Ok caller → Some cfa ≡ Some (x86_64_registers.sp_of caller.registers)
      by None is = cc
      by (Some to) is = unless-refused (x86_64_direct.direct_refusal first registers cfa to) to cfa (x86_64_direct.direct_bp sources registers words cfa (parts_of x86_64_scaled.RBP x86_64_scaled.RA row).fp) is

module _ (law : RulesAnswerAsRows x86_64_scaled.scaled_rule x86_64_rules.rule_meaning x86_64_answer.row_answer) (registers : UnwindRegsX86_64) (all : HasAllRegisters registers)
    (first : Bool) (limit : Option ℕ) (size : ℕ) (section : Stretch) (row : Row ℕ) (words : Words) (caller : Caller UnwindRegsX86_64) where
  pub x86_64-cfa : (o : Option UnwindRuleX86_64) → x86_64_scaled.scaled_rule (parts_of x86_64_scaled.RBP x86_64_scaled.RA row) ≡ o
      → RowAnswers x86_64_rules.rule_meaning first registers words (said_or_given (λ registers words. x86_64_direct.direct_answer limit size first registers words section (parts_of x86_64_scaled.RBP x86_64_scaled.RA row)) o) caller
      → cfa_by (cfa_sources limit size section (x86_64_answer.register_value registers)) row.cfa ≡ Some (x86_64_registers.sp_of caller.registers)
  x86_64-cfa (Some rule) said is =
      whole-cfa limit size section (x86_64_answer.register_value registers) row.cfa (x86_64_registers.sp_of caller.registers)
      (answer-cfa registers all words caller row (cfa_by (whole_sources (x86_64_answer.register_value registers)) row.cfa) (law (parts_of x86_64_scaled.RBP x86_64_scaled.RA row) rule first registers words caller said is))
  x86_64-cfa None said is =
      direct-cfa limit size section (x86_64_answer.register_value registers) row.cfa (x86_64_registers.sp_of caller.registers)
      (direct-made registers all words caller (direct_sources limit size section (x86_64_answer.register_value registers)) first row
      (cfa_by (direct_sources limit size section (x86_64_answer.register_value registers)) row.cfa) is)

-- ---- aarch64

module _ (registers : UnwindRegsAarch64) (words : Words) (caller : Caller UnwindRegsAarch64) where
  -- a caller that was made has the CFA as its stack pointer
  aarch64-made : (lr cfa fp : ℕ) → aarch64_answer.caller_with registers lr cfa fp ≡ caller → cfa ≡ aarch64_registers.sp_of caller.registers
  aarch64-made lr cfa fp same = ap (λ (c : Caller UnwindRegsAarch64). aarch64_registers.sp_of c.registers) same

  -- a row in whole numbers
  aarch64-answer : (row : Row ℕ) (o : Option ℕ) → option_map (aarch64_answer.caller_at registers words (parts_of aarch64_scaled.X29 aarch64_scaled.X30 row)) o ≡ Some caller → o ≡ Some (aarch64_registers.sp_of caller.registers)
  aarch64-answer row None is = cc
  aarch64-answer row (Some cfa) is =
      let same : aarch64_answer.caller_at registers words (parts_of aarch64_scaled.X29 aarch64_scaled.X30 row) cfa ≡ caller = cc in
      ap (λ (c : Caller UnwindRegsAarch64). Some (aarch64_registers.sp_of c.registers)) same

  -- a row that is evaluated
  by-columns : (cfa : ℕ) (lr fp : Option ℕ) → aarch64_direct.direct_by_fp registers cfa lr fp ≡ Ok caller → Some cfa ≡ Some (aarch64_registers.sp_of caller.registers)
  by-columns cfa lr None is = cc
  by-columns cfa None (Some fp) is = cc
  by-columns cfa (Some lr) (Some fp) is = ap (λ (n : ℕ). Some n) (aarch64-made lr cfa fp cc)

  aarch64-direct : (sources : Sources) (first : Bool) (row : Row ℕ) (o : Option ℕ) → aarch64_direct.direct_by_cfa sources first registers words (parts_of aarch64_scaled.X29 aarch64_scaled.X30 row) o ≡ Ok caller → o ≡ Some (aarch64_registers.sp_of caller.registers)
  aarch64-direct sources first row None is = cc
  aarch64-direct sources first row (Some cfa) is = by (not first && nat_le cfa (aarch64_registers.sp_of registers)) is
    where
      lr : Option ℕ
      lr = aarch64_direct.restored first (aarch64_registers.lr_of registers) (option_and_then (column_by sources words cfa (aarch64_registers.lr_of registers)) (parts_of aarch64_scaled.X29 aarch64_scaled.X30 row).ra)

      fp : Option ℕ
      fp = aarch64_direct.restored first (aarch64_registers.fp_of registers) (option_and_then (column_by sources words cfa (aarch64_registers.fp_of registers)) (parts_of aarch64_scaled.X29 aarch64_scaled.X30 row).fp)

      by : (b : Bool) → (if b then Err StackPointerMovedBackwards else aarch64_direct.direct_by_fp registers cfa lr fp) ≡ Ok caller → Some cfa ≡ Some (aarch64_registers.sp_of caller.registers)
      by true is = cc
      by false is = by-columns cfa lr fp is

module _ (law : RulesAnswerAsRows aarch64_scaled.scaled_rule aarch64_rules.rule_meaning aarch64_answer.row_answer) (registers : UnwindRegsAarch64)
    (first : Bool) (limit : Option ℕ) (size : ℕ) (section : Stretch) (row : Row ℕ) (words : Words) (caller : Caller UnwindRegsAarch64) where
  pub aarch64-cfa : (o : Option UnwindRuleAarch64) → aarch64_scaled.scaled_rule (parts_of aarch64_scaled.X29 aarch64_scaled.X30 row) ≡ o
      → RowAnswers aarch64_rules.rule_meaning first registers words (said_or_given (λ registers words. aarch64_direct.direct_answer limit size first registers words section (parts_of aarch64_scaled.X29 aarch64_scaled.X30 row)) o) caller
      → cfa_by (cfa_sources limit size section (aarch64_answer.register_value registers)) row.cfa ≡ Some (aarch64_registers.sp_of caller.registers)
  aarch64-cfa (Some rule) said is =
      whole-cfa limit size section (aarch64_answer.register_value registers) row.cfa (aarch64_registers.sp_of caller.registers)
      (aarch64-answer registers words caller row (cfa_by (whole_sources (aarch64_answer.register_value registers)) row.cfa) (law (parts_of aarch64_scaled.X29 aarch64_scaled.X30 row) rule first registers words caller said is))
  aarch64-cfa None said is =
      direct-cfa limit size section (aarch64_answer.register_value registers) row.cfa (aarch64_registers.sp_of caller.registers)
      (aarch64-direct registers words caller (direct_sources limit size section (aarch64_answer.register_value registers)) first row
      (cfa_by (direct_sources limit size section (aarch64_answer.register_value registers)) row.cfa) is)
