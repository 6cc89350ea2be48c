-- What contracts see of a step that undoes what was read.
use Rattle.std.specs.Prelude.{ℕ, Result}
use Rattle.framehop_registers.specs.declared.x86_64.unwindregs.UnwindRegsX86_64.{UnwindRegsX86_64}
use Rattle.framehop_rules.specs.declared.unwind_result.UnwindResult.{UnwindResult}
use Rattle.framehop_rules.specs.declared.x86_64.unwind_rule.UnwindRuleX86_64.{UnwindRuleX86_64}
use Rattle.framehop_pe_codes.specs.Refusals.{PeResult}
use Rattle.framehop_pe.specs.PartViews.{IsRead}
use Rattle.framehop_pe.specs.PeAttempts.{AnswersPe}
use Rattle.framehop_pe.specs.PeSteps.{attempt_to_undo}
use Rattle.framehop_pe.specs.ToUndo.{ToUndo}
use Rattle.framehop_pe.specs.declared.x86_64.pe.Undoing.{Undoing}

-- A step undoes what was read: whatever it is, it answers the attempt by it.
abbrev pub Undoes : {S : Type 0} → (S → ℕ → Result ℕ (Unit {0}) → S → Type 0) → S → S → UnwindRegsX86_64 → UnwindRegsX86_64
    → PeResult (UnwindResult UnwindRuleX86_64) → Undoing → Type 0
Undoes step old new before after result undoing =
    (undo : ToUndo) → IsRead undoing undo → AnswersPe step old new before after result (attempt_to_undo undo)
