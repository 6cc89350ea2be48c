-- The parts of a direct row of aarch64, put together.
use Rattle.std.proofs.Common.{◌≡◌, ℕ, Bool, true, false, cond, Option, Some, Result, Err, ap, ◌∙◌}
use Rattle.std.specs.Prelude.{◌&&◌, not, nat_le, option_and_then}
use Rattle.framehop_registers.specs.Callback.{Words}
use Rattle.framehop_registers.specs.RegistersAarch64.{lr_of, sp_of, fp_of}
use Rattle.framehop_registers.specs.declared.aarch64.unwindregs.UnwindRegsAarch64.{UnwindRegsAarch64}
use Rattle.framehop_rules.specs.Outcome.{Caller}
use Rattle.framehop_rows.specs.Columns.{Sources, cfa_by, column_by}
use Rattle.framehop_rows.specs.DirectRowAarch64.{restored, direct_by_fp, direct_by_cfa, direct_by}
use Rattle.framehop_errors.specs.declared.dwarf.DwarfUnwinderError.{DwarfUnwinderError}
use Rattle.framehop_errors.specs.declared.dwarf.DwarfUnwinderError.TheVariants.{StackPointerMovedBackwards}
use Rattle.dwarf_frame_parts.specs.declared.parts.Parts.{Parts}

module _ (sources : Sources) (first : Bool) (registers : UnwindRegsAarch64) (words : Words) (parts : Parts ℕ) (cfa : ℕ) (cfa_is : Some cfa ≡ cfa_by sources parts.cfa) where
  abbrev lr : Option ℕ
  lr = restored first (lr_of registers) (option_and_then (column_by sources words cfa (lr_of registers)) parts.ra)

  abbrev fp : Option ℕ
  fp = restored first (fp_of registers) (option_and_then (column_by sources words cfa (fp_of registers)) parts.fp)

  by-refusal : (b : Bool) → b ≡ (not first && nat_le cfa (sp_of registers)) → cond b (Err StackPointerMovedBackwards) (direct_by_fp registers cfa lr fp) ≡ direct_by sources first registers words parts
  by-refusal b is = ap (λ b. cond b (Err StackPointerMovedBackwards) (direct_by_fp registers cfa lr fp)) is ∙ ap (direct_by_cfa sources first registers words parts) cfa_is

  -- a step that doesn't raise the stack pointer
  pub refused-is : true ≡ (not first && nat_le cfa (sp_of registers)) → Err StackPointerMovedBackwards ≡ direct_by sources first registers words parts
  refused-is low = by-refusal true low

  -- and one that does, by what the columns give
  pub answer-is : (found_lr found_fp : Option ℕ) (target : Result (Caller UnwindRegsAarch64) DwarfUnwinderError) → false ≡ (not first && nat_le cfa (sp_of registers)) → found_lr ≡ lr → found_fp ≡ fp
      → target ≡ direct_by_fp registers cfa found_lr found_fp → target ≡ direct_by sources first registers words parts
  answer-is found_lr found_fp target up lr_is fp_is h =
      h ∙ ap (λ o. direct_by_fp registers cfa o found_fp) lr_is ∙ ap (λ o. direct_by_fp registers cfa lr o) fp_is ∙ by-refusal false up
