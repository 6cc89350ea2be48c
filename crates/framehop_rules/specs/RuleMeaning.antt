-- The meaning of the unwind rules of x86_64, over a map of words and unbounded numbers.
--
-- Checks and reads go in the written order, and the first one that fails is the error.
use Rattle.std.specs.Prelude.{ℕ, ◌≡◌, ◌≢◌, ◌*◌, ◌<◌, ◌≤◌, ℤ, pos, ◌+ℤ◌, ◌-ℤ◌, ◌*ℤ◌, Bool, ◌&&◌, ◌==◌, nat_lt, nat_le, if◌then◌else◌, Some, None}
use Rattle.framehop_registers.specs.Callback.{Words}
use Rattle.framehop_rules.specs.Outcome.{Outcome, Ends, Refuses, Answers, and_then, address, word, Caller}
use Rattle.framehop_registers.specs.PopLists.{order_count, pop_list}
use Rattle.framehop_rules.specs.Pops.{raised_registers, registers_after_pops}
use Rattle.framehop_registers.specs.Registers.{ip_of, sp_of, bp_of, with_ip, with_register}
use Rattle.framehop_registers.specs.declared.error.Error.TheVariants.{CouldNotReadStack, FramepointerUnwindingMovedBackwards, DidNotAdvance}
use Rattle.framehop_rules.specs.declared.x86_64.unwind_rule.UnwindRuleX86_64.{UnwindRuleX86_64}
use Rattle.framehop_rules.specs.declared.x86_64.unwind_rule.UnwindRuleX86_64.TheVariants.{EndOfStack, JustReturn, JustReturnIfFirstFrameOtherwiseFp, OffsetSp, OffsetSpAndRestoreBp, UseFramePointer, OffsetSpAndPopRegisters}
use Rattle.framehop_registers.specs.declared.x86_64.unwindregs.Reg.TheVariants.{RBP, RSP}
use Rattle.framehop_registers.specs.declared.x86_64.unwindregs.UnwindRegsX86_64.{UnwindRegsX86_64}

-- The caller's stack pointer and frame pointer.
abbrev pub StackFrame : Type 0
StackFrame = ℕ × ℕ

-- The stack pointer goes up by these bytes, the frame pointer stays.
abbrev pub raised_frame : UnwindRegsX86_64 → ℕ → Outcome StackFrame
raised_frame registers bytes =
    and_then (address (pos (sp_of registers) +ℤ pos bytes)) (λ sp.
    Answers (sp, bp_of registers))

-- The frame pointer points at the caller's, with the return address above it.
abbrev pub by_frame_pointer : UnwindRegsX86_64 → Words → Outcome StackFrame
by_frame_pointer registers words =
    and_then (address (pos (bp_of registers) +ℤ pos 16)) (λ sp.
    if nat_le sp (sp_of registers) then Refuses FramepointerUnwindingMovedBackwards else
    and_then (word words (bp_of registers)) (λ bp.
    Answers (sp, bp)))

-- The caller's frame pointer, stored at an address. In a first frame it may have been popped
-- already: below the stack pointer nothing needs to be readable, and it is in its register then.
abbrev pub stored_bp : Bool → UnwindRegsX86_64 → Words → ℕ → Outcome ℕ
stored_bp is_first registers words at = elim (words at) [
  | Some value ↦ Answers value
  | None ↦ if is_first && nat_lt at (sp_of registers) then Answers (bp_of registers) else Refuses (CouldNotReadStack at)
]

-- The stack pointer goes up by these bytes, the frame pointer is stored at an offset from it.
abbrev pub restored_frame : Bool → UnwindRegsX86_64 → Words → ℕ → ℤ → Outcome StackFrame
restored_frame is_first registers words bytes offset =
    and_then (address (pos (sp_of registers) +ℤ pos bytes)) (λ sp.
    and_then (address (pos (sp_of registers) +ℤ offset)) (λ at.
    and_then (stored_bp is_first registers words at) (λ bp.
    Answers (sp, bp))))

-- The registers once those are popped that a rule names, from an offset on. Most rules pop none.
abbrev pub registers_after_pops_of : UnwindRuleX86_64 → UnwindRegsX86_64 → Words → Outcome UnwindRegsX86_64
registers_after_pops_of (OffsetSpAndPopRegisters x count number) registers words =
    and_then (raised_registers registers (8 * x)) (λ from. registers_after_pops (pop_list count number) from words)
registers_after_pops_of rule registers words = Answers registers

-- What each rule does to the stack pointer and the frame pointer, once its registers are popped.
abbrev pub moves : UnwindRuleX86_64 → Bool → UnwindRegsX86_64 → Words → Outcome StackFrame
moves EndOfStack is_first registers words = Ends
moves JustReturn is_first registers words = raised_frame registers 8
moves JustReturnIfFirstFrameOtherwiseFp is_first registers words =
    if is_first then raised_frame registers 8 else by_frame_pointer registers words
moves (OffsetSp x) is_first registers words = raised_frame registers (8 * x)
moves (OffsetSpAndRestoreBp x y) is_first registers words = restored_frame is_first registers words (8 * x) (pos 8 *ℤ y)
moves UseFramePointer is_first registers words =
    if bp_of registers == 0 then Ends else by_frame_pointer registers words
moves (OffsetSpAndPopRegisters x count number) is_first registers words = raised_frame registers 8

-- The return address is the word below the caller's stack pointer. A 0 there ends the stack, and
-- a step that would change neither stack pointer nor code address is an error.
abbrev pub return_address : UnwindRegsX86_64 → Words → ℕ → Outcome ℕ
return_address registers words sp =
    and_then (address (pos sp -ℤ pos 8)) (λ at.
    and_then (word words at) (λ to.
    if to == 0 then Ends else
    if (sp == sp_of registers) && (to == ip_of registers) then Refuses DidNotAdvance else
    Answers to))

-- The caller's registers: all that the rule doesn't name stay.
abbrev pub caller_registers : UnwindRegsX86_64 → ℕ → ℕ → ℕ → UnwindRegsX86_64
caller_registers registers ip sp bp = with_register (with_register (with_ip registers ip) RSP sp) RBP bp

-- What every rule ends with.
abbrev pub returned_caller : UnwindRegsX86_64 → Words → StackFrame → Outcome (Caller UnwindRegsX86_64)
returned_caller registers words (sp, bp) =
    and_then (return_address registers words sp) (λ to.
    Answers (record { return_address = to; registers = caller_registers registers to sp bp }))

-- The caller by a rule, once its registers are popped.
abbrev pub moved_caller : UnwindRuleX86_64 → Bool → UnwindRegsX86_64 → Words → Outcome (Caller UnwindRegsX86_64)
moved_caller rule is_first registers words = and_then (moves rule is_first registers words) (returned_caller registers words)

-- The meaning of a rule, for a frame with these registers, first or later, on a stack of these words.
abbrev pub rule_meaning : UnwindRuleX86_64 → Bool → UnwindRegsX86_64 → Words → Outcome (Caller UnwindRegsX86_64)
rule_meaning rule is_first registers words =
    and_then (registers_after_pops_of rule registers words) (λ popped. moved_caller rule is_first popped words)

-- The word below a stack pointer, where a call leaves its return address.
abbrev pub word_below : Words → ℕ → Outcome ℕ
word_below words sp = and_then (address (pos sp -ℤ pos 8)) (word words)

-- The registers after a call: the instruction pointer isn't 0, and is the word below the stack pointer.
pub record IsAtReturn (registers : UnwindRegsX86_64) (words : Words) : Type 0 where
  pub not_null : ip_of registers ≢ 0
  pub returned_to : word_below words (sp_of registers) ≡ Answers (ip_of registers)

-- A rule that can be executed: its two numbers are those of a pop list, if it pops registers.
abbrev pub IsValid : UnwindRuleX86_64 → Type 0
IsValid (OffsetSpAndPopRegisters x count number) = (count ≤ 8) × (number < order_count)
IsValid rule = Unit {0}
