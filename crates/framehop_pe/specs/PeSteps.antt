-- The step by the unwind data of a PE file, on x86_64.
use Rattle.std.specs.Prelude.{ℕ, ◌≡◌, ◌<◌, ◌^◌, Bool, Option, Some, None, Ok, Err}
use Rattle.framehop_registers.specs.Callback.{Words}
use Rattle.framehop_registers.specs.Registers.{sp_of, register_of}
use Rattle.framehop_registers.specs.declared.x86_64.unwindregs.Reg.{Reg}
use Rattle.framehop_registers.specs.declared.x86_64.unwindregs.UnwindRegsX86_64.{UnwindRegsX86_64}
use Rattle.framehop_rules.specs.Outcome.{Answers, Caller}
use Rattle.framehop_rules.specs.RuleMeaning.{rule_meaning}
use Rattle.framehop_rules.specs.declared.x86_64.unwind_rule.UnwindRuleX86_64.{UnwindRuleX86_64}
use Rattle.framehop_pe_codes.specs.Refusals.{PeResult}
use Rattle.framehop_pe_codes.specs.Sections.{PeFile}
use Rattle.framehop_pe.specs.PartRules.{rule_of_parts}
use Rattle.framehop_pe.specs.PeAttempts.{PeAttempt, Refuses, SaysCodes, SaysRule}
use Rattle.framehop_pe.specs.ToUndo.{ToUndo, caller_of, parts_of, to_undo_at}

-- The attempt by what is undone: the rule of its sequence, if it has one, or else the caller that it gives.
abbrev pub attempt_by : ToUndo → Option UnwindRuleX86_64 → PeAttempt UnwindRuleX86_64 UnwindRegsX86_64
attempt_by undo (Some rule) = SaysRule rule
attempt_by undo None = SaysCodes (caller_of undo)

-- The attempt by what is undone, by the rule of its parts, if they have one.
abbrev pub attempt_to_undo : ToUndo → PeAttempt UnwindRuleX86_64 UnwindRegsX86_64
attempt_to_undo undo = attempt_by undo (rule_of_parts (parts_of undo))

-- The same where the unwind data may be refused.
abbrev pub attempt_if_read : PeResult ToUndo → PeAttempt UnwindRuleX86_64 UnwindRegsX86_64
attempt_if_read (Ok undo) = attempt_to_undo undo
attempt_if_read (Err refusal) = Refuses refusal

-- The attempt at an address, in a first or a later frame.
abbrev pub attempt_x86_64 : PeFile → ℕ → Bool → PeAttempt UnwindRuleX86_64 UnwindRegsX86_64
attempt_x86_64 file address is_first = attempt_if_read (to_undo_at file address is_first)

-- All sixteen registers are the same.
abbrev pub SameRegisters : UnwindRegsX86_64 → UnwindRegsX86_64 → Type 0
SameRegisters one other = (register : Reg) → register_of one register ≡ register_of other register

-- What is undone one by one leads to this caller. The instruction pointer stays there, while a rule's becomes the return address.
pub record LeadsTo (undo : ToUndo) (registers : UnwindRegsX86_64) (words : Words) (caller : Caller UnwindRegsX86_64) : Type 0 where
  pub after : UnwindRegsX86_64
  pub comes : caller_of undo registers words ≡ Ok (caller.return_address, after)
  pub same : SameRegisters after caller.registers

-- Where a rule gives a caller, it is the one to which this leads one by one, in each frame whose stack pointer has 64 bits.
abbrev pub LeadsAsOneByOne : UnwindRuleX86_64 → ToUndo → Type 0
LeadsAsOneByOne rule undo =
    (is_first : Bool) (registers : UnwindRegsX86_64) (words : Words) (caller : Caller UnwindRegsX86_64) → sp_of registers < 2 ^ 64
    → rule_meaning rule is_first registers words ≡ Answers caller → LeadsTo undo registers words caller
