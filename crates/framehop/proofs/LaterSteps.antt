-- On aarch64 each answered step of a later frame raises the stack pointer within 64 bits.
use Rattle.std.proofs.Common.{◌≡◌, ℕ, ◌+◌, ◌-◌, ◌^◌, ◌<◌, Bool, true, false, List, Option, Some, None, Result, Ok, Err, refl, ap, subst, arith}
use Rattle.std.specs.Prelude.{ℤ, pos, negsuc, ◌+ℤ◌, nat_le, nat_lt, if◌then◌else◌, option_and_then}
use Rattle.std.specs.Result.{result_ok}
use Rattle.std.proofs.lemmas.Bool.{leb-false}
use Rattle.dwarf_readers.specs.Stretch.{Stretch}
use Rattle.dwarf_frame_rows.specs.Expressions.{expression_in}
use Rattle.dwarf_frame_rows.specs.FrameSection.{FrameSection}
use Rattle.dwarf_frame_rows.specs.Row.{Row}
use Rattle.dwarf_frame_rows.specs.declared.base_addresses.BaseAddresses.{BaseAddresses}
use Rattle.dwarf_frame_rows.specs.declared.rules.CfaRule.{CfaRule}
use Rattle.dwarf_frame_rows.specs.declared.rules.CfaRule.TheVariants.{RegisterAndOffset, Expression}
use Rattle.framehop.specs.Attempts.{attempt_by_method, attempt_by_tables}
use Rattle.framehop_loads.specs.StepLimits.{StepLimits}
use Rattle.framehop.specs.Coverage.{Coverage, Covered, Uncovered, NoFde, NoAddress, attempt_by, by_known}
use Rattle.framehop_index.specs.FdeLookups.{FoundFde, PlacedFrames, fde_for, section_of}
use Rattle.framehop_index.specs.SectionTypes.{section_of_type}
use Rattle.framehop_index.specs.declared.section_type.UnwindSectionType.TheVariants as kinds
use Rattle.framehop_loads.specs.CallFrames.{frames_used}
use Rattle.framehop.specs.Methods.{fde_at_offset, method_found}
use Rattle.framehop_compact.specs.CompactResults.{CuiResult}
use Rattle.framehop_compact.specs.declared.cui_unwind_result.CuiUnwindResult.TheVariants.{ExecRule, NeedDwarf}
use Rattle.framehop_loads.specs.UnwindData.{UnwindData, ModuleFormat, CallFrames, Compact, NoFormat, Pe}
use Rattle.framehop.specs.FormatMethods.{method_by_compact, method_by_format}
use Rattle.framehop_registers.specs.Callback.{Words}
use Rattle.framehop_registers.specs.RegistersAarch64.{lr_of, sp_of, fp_of}
use Rattle.framehop_registers.specs.declared.aarch64.unwindregs.UnwindRegsAarch64.{UnwindRegsAarch64}
use Rattle.framehop_rows.specs.Columns.{Sources, cfa_by, column_by}
use Rattle.framehop_rows.specs.DirectRowAarch64.{restored, direct_by_fp, direct_by_cfa, direct_answer}
use Rattle.framehop_rows.specs.RowAnswerAarch64.{register_value, caller_with}
use Rattle.framehop_rows.specs.RowAttempt.{said_or_given}
use Rattle.framehop.specs.RowAttempts.{attempt_by_row}
use Rattle.framehop_rows.specs.RowAttemptAarch64.{rows}
use Rattle.dwarf_frame_parts.specs.RowParts.{parts_of}
use Rattle.framehop_rows.specs.RowSources.{direct_sources, sum_of, in_half}
use Rattle.framehop_rows.specs.ScaledRowAarch64.{X29, X30, scaled_rule}
use Rattle.framehop_errors.specs.declared.dwarf.DwarfUnwinderError.{DwarfUnwinderError}
use Rattle.framehop_errors.specs.declared.dwarf.DwarfUnwinderError.TheVariants.{StackPointerMovedBackwards}
use Rattle.framehop_rules.specs.Outcome.{Answers, Caller}
use Rattle.framehop_rules.specs.RuleMeaningAarch64.{rule_meaning}
use Rattle.framehop_rules.specs.declared.aarch64.unwind_rule.UnwindRuleAarch64.{UnwindRuleAarch64}
use Rattle.framehop_rules.specs.declared.aarch64.unwind_rule.UnwindRuleAarch64.TheVariants.{NoOpIfFirstFrameOtherwiseFp, UseFramePointer}
use Rattle.framehop_unwinder.specs.Attempt.{Attempt, Says, Evaluates, SaysNothing, attempt_of}
use Rattle.framehop_unwinder.specs.Frames.{later_frame}
use Rattle.framehop_unwinder.specs.Judge.{by_attempt, or_else, judge}
use Rattle.framehop_unwinder.specs.Modules.{Loaded, module_found}
use Rattle.framehop.specs.WalkLengths.{IsRaised}
use Rattle.framehop.specs.StepMeanings.{formats_aarch64, meanings_aarch64}
use Rattle.framehop.specs.WayAttempts.{or_way, way_after, way_before, way_or}
use Rattle.framehop.proofs.WalkValues.{expression-fits}

-- ---- direct rows

-- the CFA of a direct row keeps to 64 bits
half-fits : (z : ℤ) (a : ℕ) → in_half z ≡ Some a → a < 2 ^ 64
half-fits (pos n) a is = grind arith
half-fits (negsuc n) a is = cc

sum-fits : (base : ℕ) (offset : ℤ) (a : ℕ) → sum_of base offset ≡ Some a → a < 2 ^ 64
sum-fits base offset a is = by (nat_lt base (2 ^ 63)) is
  where
    by : (b : Bool) → (if b then in_half (pos base +ℤ offset) else None) ≡ Some a → a < 2 ^ 64
    by true is = half-fits (pos base +ℤ offset) a is
    by false is = cc

cfa-fits : (limit : Option ℕ) (size : ℕ) (section : Stretch) (registers : UnwindRegsAarch64) (cfa : CfaRule ℕ) (a : ℕ) → cfa_by (direct_sources limit size section (register_value registers)) cfa ≡ Some a → a < 2 ^ 64
cfa-fits limit size section registers (RegisterAndOffset register offset) a is = by (register_value registers register) is
  where
    by : (o : Option ℕ) → option_and_then (λ base. sum_of base offset) o ≡ Some a → a < 2 ^ 64
    by (Some base) is = sum-fits base offset a is
    by None is = cc
cfa-fits limit size section registers (Expression expression) a is = expression-fits limit size (register_value registers) (expression_in section expression.offset expression.length) a is

-- the caller that columns give has the CFA as its stack pointer
by-columns : (registers : UnwindRegsAarch64) (cfa : ℕ) (lr fp : Option ℕ) (caller : Caller UnwindRegsAarch64) → direct_by_fp registers cfa lr fp ≡ Ok caller → cfa ≡ sp_of caller.registers
by-columns registers cfa lr None caller is = cc
by-columns registers cfa None (Some fp) caller is = cc
by-columns registers cfa (Some lr) (Some fp) caller is = let same : caller_with registers lr cfa fp ≡ caller = cc in ap (λ (c : Caller UnwindRegsAarch64). sp_of c.registers) same

module _ (limit : Option ℕ) (size : ℕ) (section : Stretch) (registers : UnwindRegsAarch64) (words : Words) (row : Row ℕ) (caller : Caller UnwindRegsAarch64) where
  abbrev sources : Sources
  sources = direct_sources limit size section (register_value registers)

  by-cfa : (o : Option ℕ) → ((a : ℕ) → o ≡ Some a → a < 2 ^ 64) → direct_by_cfa sources false registers words (parts_of X29 X30 row) o ≡ Ok caller → IsRaised (sp_of registers) (sp_of caller.registers)
  by-cfa None fits is = cc
  by-cfa (Some cfa) fits is = by (nat_le cfa (sp_of registers)) refl is
    where
      lr : Option ℕ
      lr = restored false (lr_of registers) (option_and_then (column_by sources words cfa (lr_of registers)) (parts_of X29 X30 row).ra)

      fp : Option ℕ
      fp = restored false (fp_of registers) (option_and_then (column_by sources words cfa (fp_of registers)) (parts_of X29 X30 row).fp)

      by : (b : Bool) → nat_le cfa (sp_of registers) ≡ b → (if b then Err StackPointerMovedBackwards else direct_by_fp registers cfa lr fp) ≡ Ok caller → IsRaised (sp_of registers) (sp_of caller.registers)
      by true low is = cc
      by false low is =
          let at = by-columns registers cfa lr fp caller is in
          let up = leb-false cfa (sp_of registers) low in
          let small = fits cfa refl in
          record { higher = omega arith; fits = omega arith }

  direct-raised : direct_answer limit size false registers words section (parts_of X29 X30 row) ≡ Ok caller → IsRaised (sp_of registers) (sp_of caller.registers)
  direct-raised is = by-cfa (cfa_by sources row.cfa) (cfa-fits limit size section registers row.cfa) is

-- ---- steps, where each answered rule of a later frame raises the stack pointer

abbrev pub RulesRaise : Type 0
RulesRaise = (rule : UnwindRuleAarch64) (registers : UnwindRegsAarch64) (words : Words) (caller : Caller UnwindRegsAarch64) → rule_meaning rule false registers words ≡ Answers caller → IsRaised (sp_of registers) (sp_of caller.registers)

module _ (rules : RulesRaise) (limits : StepLimits) (registers : UnwindRegsAarch64) (words : Words) (caller : Caller UnwindRegsAarch64) where
  -- by a row
  row-raised : (limit : Option ℕ) (size : ℕ) (section : Stretch) (row : Row ℕ) (o : Option UnwindRuleAarch64)
      → by_attempt (meanings_aarch64 limits) false registers words (attempt_by_row (said_or_given (λ registers words. direct_answer limit size false registers words section (parts_of X29 X30 row)) o)) ≡ Answers caller → IsRaised (sp_of registers) (sp_of caller.registers)
  row-raised limit size section row (Some rule) is = rules rule registers words caller is
  row-raised limit size section row None is = by (direct_answer limit size false registers words section (parts_of X29 X30 row)) refl is
    where
      by : (v : Result (Caller UnwindRegsAarch64) DwarfUnwinderError) → direct_answer limit size false registers words section (parts_of X29 X30 row) ≡ v
          → or_else (result_ok v) (rule_meaning UseFramePointer false registers words) ≡ Answers caller → IsRaised (sp_of registers) (sp_of caller.registers)
      by (Ok found) given is = let same : found ≡ caller = cc in subst (λ (c : Caller UnwindRegsAarch64). IsRaised (sp_of registers) (sp_of c.registers)) same (direct-raised limit size section registers words row found given)
      by (Err e) given is = rules UseFramePointer registers words caller is

  -- by coverage
  coverage-raised : (limit : Option ℕ) (coverage : Coverage)
      → by_attempt (meanings_aarch64 limits) false registers words (attempt_by rows false limit coverage) ≡ Answers caller → IsRaised (sp_of registers) (sp_of caller.registers)
  coverage-raised limit (Covered size section row) is = row-raised limit size section row (scaled_rule (parts_of X29 X30 row)) is
  coverage-raised limit Uncovered is = rules NoOpIfFirstFrameOtherwiseFp registers words caller is
  coverage-raised limit (NoFde e) is = rules UseFramePointer registers words caller is
  coverage-raised limit NoAddress is = rules UseFramePointer registers words caller is

  -- by what is known of the FDE
  known-raised : (section : FrameSection) (address : ℕ) (found : FoundFde)
      → by_attempt (meanings_aarch64 limits) false registers words (attempt_by_method rows limits false (method_found section address found)) ≡ Answers caller → IsRaised (sp_of registers) (sp_of caller.registers)
  known-raised section address (Ok known) is = coverage-raised limits.values (by_known limits.rows rows.vendor section address known) is
  known-raised section address (Err e) is = rules UseFramePointer registers words caller is

  -- by compact unwind info
  compact-raised : (bases : BaseAddresses) (base relative : ℕ) (eh_frame : Option (List ℕ)) (said : CuiResult UnwindRuleAarch64)
      → by_attempt (meanings_aarch64 limits) false registers words (attempt_by_method rows limits false (method_by_compact bases base relative eh_frame said)) ≡ Answers caller → IsRaised (sp_of registers) (sp_of caller.registers)
  compact-raised bases base relative eh_frame (Ok (ExecRule rule)) is = rules rule registers words caller is
  compact-raised bases base relative None (Ok (NeedDwarf offset)) is = rules UseFramePointer registers words caller is
  compact-raised bases base relative (Some bytes) (Ok (NeedDwarf offset)) is =
      let section : FrameSection = section_of_type bases (kinds.EhFrame bytes) in
      known-raised section (base + relative) (fde_at_offset section base relative offset) is
  compact-raised bases base relative eh_frame (Err refusal) is = rules UseFramePointer registers words caller is

  -- by a format
  format-raised : (bases : BaseAddresses) (base relative : ℕ) (format : ModuleFormat)
      → by_attempt (meanings_aarch64 limits) false registers words (attempt_by_method rows limits false (method_by_format formats_aarch64.tables bases base relative false format)) ≡ Answers caller → IsRaised (sp_of registers) (sp_of caller.registers)
  format-raised bases base relative (CallFrames frames) is =
      let used : PlacedFrames = frames_used frames relative in
      known-raised (section_of used) (used.base_svma + relative) (fde_for used relative) is
  format-raised bases base relative (Pe file) is = rules UseFramePointer registers words caller is
  format-raised bases base relative (Compact file eh_frame) is = compact-raised bases base relative eh_frame (formats_aarch64.tables.compact file relative false) is
  format-raised bases base relative NoFormat is = rules UseFramePointer registers words caller is

  -- by a way, or by what the tables say
  way-raised : (earlier rule : Option UnwindRuleAarch64) (said : Attempt UnwindRuleAarch64 UnwindRegsAarch64)
      → (by_attempt (meanings_aarch64 limits) false registers words said ≡ Answers caller → IsRaised (sp_of registers) (sp_of caller.registers))
      → by_attempt (meanings_aarch64 limits) false registers words (way_or earlier (or_way said rule)) ≡ Answers caller → IsRaised (sp_of registers) (sp_of caller.registers)
  way-raised (Some rule) other said tables is = rules rule registers words caller is
  way-raised None None said tables is = tables is
  way-raised None (Some rule) (Says other) tables is = tables is
  way-raised None (Some rule) (Evaluates given) tables is = tables is
  way-raised None (Some rule) SaysNothing tables is = rules rule registers words caller is

  data-raised : (given : UnwindData) (relative : ℕ)
      → by_attempt (meanings_aarch64 limits) false registers words ((meanings_aarch64 limits).attempt given relative false) ≡ Answers caller → IsRaised (sp_of registers) (sp_of caller.registers)
  data-raised given relative is =
      way-raised (way_before formats_aarch64.ways given relative false) (way_after formats_aarch64.ways given relative false)
      (attempt_by_tables formats_aarch64.rows formats_aarch64.tables limits given relative false)
      (format-raised given.bases given.base_svma relative given.format) is

  -- by the module that was found
  found-raised : (address : ℕ) (found : Option (Loaded UnwindData))
      → by_attempt (meanings_aarch64 limits) false registers words (attempt_of (meanings_aarch64 limits) false address found) ≡ Answers caller → IsRaised (sp_of registers) (sp_of caller.registers)
  found-raised address None is = rules UseFramePointer registers words caller is
  found-raised address (Some module_) is = data-raised module_.unwind_data (address - module_.base) is

  -- each step
  pub step-raised : (modules : List (Loaded UnwindData)) (return_address : ℕ) → judge (meanings_aarch64 limits) modules (later_frame return_address) registers words ≡ Answers caller → IsRaised (sp_of registers) (sp_of caller.registers)
  step-raised modules return_address is = found-raised (return_address - 1) (module_found modules (return_address - 1)) is
