-- Steps of walks on x86_64.
use Rattle.std.specs.Prelude.{◌≡◌, ℕ}
use Rattle.framehop_registers.specs.Callback.{Words}
use Rattle.framehop_registers.specs.Registers.{HasAllRegisters}
use Rattle.framehop_registers.specs.declared.x86_64.unwindregs.UnwindRegsX86_64.{UnwindRegsX86_64}
use Rattle.framehop_rules.specs.RuleMeaning.{rule_meaning}
use Rattle.framehop_rules.specs.declared.x86_64.unwind_rule.UnwindRuleX86_64.{UnwindRuleX86_64}
use Rattle.framehop_unwinder.specs.Frames.{Frame}
use Rattle.framehop_unwinder.specs.Walk.{Judgment}
use Rattle.framehop_unwinder.specs.WalkViews.{walk_from}
use Rattle.framehop.specs.WalkLengths.{WalkEnds}

-- The step of a frame is that of an unwind rule.
pub record IsRuleStep (judgment : Judgment UnwindRegsX86_64) (words : Words) (frame : Frame) (registers : UnwindRegsX86_64)
    : Type 0 where
  pub rule : UnwindRuleX86_64
  pub is : judgment frame registers words ≡ rule_meaning rule frame.is_first registers words

-- A walk has at most 2^64 + 1 frames, as long as each of its steps is that of a rule.
abbrev pub WalksByRulesEnd : Judgment UnwindRegsX86_64 → Type 0
WalksByRulesEnd judgment =
    (words : Words) (pc : ℕ) (registers : UnwindRegsX86_64) → HasAllRegisters registers
    → WalkEnds judgment words (IsRuleStep judgment words) (walk_from pc registers)
