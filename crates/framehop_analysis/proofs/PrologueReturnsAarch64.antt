-- The rule of a prologue, and the machine that ran it.
use Rattle.std.proofs.Common.{◌≡◌, ◌∙◌, ℕ, ◌*◌, ◌<◌, ◌^◌, refl, sym, ap, arith, true, List, [], ◌∷◌, None}
use Rattle.std.specs.Prelude.{ℤ, pos, ◌+ℤ◌, ◌-ℤ◌}
use Rattle.std.proofs.lemmas.Int.{ints}
use Rattle.framehop_registers.specs.Callback.{Words}
use Rattle.framehop_registers.specs.declared.aarch64.unwindregs.UnwindRegsAarch64.{UnwindRegsAarch64}
use Rattle.framehop_rules.specs.Outcome.{Answers, Caller}
use Rattle.framehop_rules.specs.RuleMeaningAarch64.{rule_meaning}
use Rattle.framehop_rules.specs.declared.aarch64.unwind_rule.UnwindRuleAarch64.{UnwindRuleAarch64}
use Rattle.framehop_analysis.specs.MachineAarch64.{State, moved, raise, leave}
use Rattle.framehop_analysis.specs.PrologueInstructionsAarch64.{PrologueInstruction, Sign, Store, Sub, lowering, lowering_of_all, prologue_effect, state_after_prologue}
use Rattle.framehop_analysis.specs.PrologueAarch64.{IsPrologue, IsRuleOfPrologue}
use Rattle.framehop_analysis.specs.EpilogueAarch64.{FieldsFit}
use Rattle.framehop_analysis.specs.ReturnsAarch64.{IsAt, HasReturned}
use Rattle.framehop_analysis.proofs.Wrapped.{moved_again, stays, moved_fits}
use Rattle.framehop_analysis.proofs.EpilogueReturnsAarch64.{strip, answered}

record HasSaved (s after : State) (lowered : ℤ) : Type 0 where
  pub back : moved after.sp lowered ≡ s.sp
  pub fits : after.sp < 2 ^ 64
  pub same_fp : after.fp ≡ s.fp
  pub same_lr : after.lr ≡ s.lr

-- down and up again
there_and_back : (sp : ℕ) (up down : ℤ) → sp < 2 ^ 64 → up +ℤ down ≡ pos 0 → moved (moved sp up) down ≡ sp
there_and_back sp up down fits none = moved_again sp up down ∙ ap (moved sp) none ∙ stays sp fits

saved : (instruction : PrologueInstruction) (s : State) → s.sp < 2 ^ 64 → HasSaved s (prologue_effect instruction s) (lowering instruction)
saved Sign s fits = record { back = stays s.sp fits; fits = fits; same_fp = refl; same_lr = refl }
saved (Store bit_30 pair) s fits =
    record { back = there_and_back s.sp (raise pair) (pos 0 -ℤ raise pair) fits (omega (arith, ints)); fits = moved_fits s.sp (raise pair); same_fp = refl; same_lr = refl }
saved (Sub shift number) s fits =
    let bytes = pos (number * 4096 ^ shift) in
    record { back = there_and_back s.sp (pos 0 -ℤ bytes) bytes fits (none bytes); fits = moved_fits s.sp (pos 0 -ℤ bytes); same_fp = refl; same_lr = refl }
  where
    none : (z : ℤ) → (pos 0 -ℤ z) +ℤ z ≡ pos 0
    none z = omega (arith, ints)

all_saved : (instructions : List PrologueInstruction) (s : State) → s.sp < 2 ^ 64 → HasSaved s (state_after_prologue instructions s) (lowering_of_all instructions)
all_saved [] s fits = record { back = stays s.sp fits; fits = fits; same_fp = refl; same_lr = refl }
all_saved (instruction ∷ more) s fits =
    let here = saved instruction s fits in
    let next = all_saved more (prologue_effect instruction s) here.fits in
    let after = (state_after_prologue more (prologue_effect instruction s)).sp in
    record {
      back = ap (moved after) (swap (lowering instruction) (lowering_of_all more)) ∙ sym (moved_again after (lowering_of_all more) (lowering instruction)) ∙ ap (λ sp. moved sp (lowering instruction)) next.back ∙ here.back;
      fits = next.fits;
      same_fp = next.same_fp ∙ here.same_fp;
      same_lr = next.same_lr ∙ here.same_lr;
    }
  where
    swap : (y z : ℤ) → y +ℤ z ≡ z +ℤ y
    swap y z = omega (arith, ints)

prologue_returned : (instructions : List PrologueInstruction) (rule : UnwindRuleAarch64) (before : State) (registers : UnwindRegsAarch64) (words : Words) (caller : Caller UnwindRegsAarch64)
    → before.sp < 2 ^ 64 → IsRuleOfPrologue instructions rule → IsAt (state_after_prologue instructions before) registers words → rule_meaning rule true registers words ≡ Answers caller → HasReturned (leave [] before) registers caller
prologue_returned instructions rule before registers words caller fits is_rule is_at is =
    let ran = all_saved instructions before fits in
    answered (state_after_prologue instructions before) (leave [] before) registers words is_at (lowering_of_all instructions) None None rule caller is_rule is
    (ap (strip registers) (sym ran.same_lr)) (sym ran.back) (sym ran.same_fp)

pub recognised_returns : (start from : List ℕ) (instructions : List PrologueInstruction) (rule : UnwindRuleAarch64) → IsPrologue start from instructions → FieldsFit rule → IsRuleOfPrologue instructions rule
    → (before : State) → before.sp < 2 ^ 64 → (registers : UnwindRegsAarch64) (words : Words) (caller : Caller UnwindRegsAarch64) → IsAt (state_after_prologue instructions before) registers words
    → rule_meaning rule true registers words ≡ Answers caller → HasReturned (leave [] before) registers caller
recognised_returns start from instructions rule stands fits_fields is_rule before fits registers words caller is_at is = prologue_returned instructions rule before registers words caller fits is_rule is_at is
