-- Which words the unwind rules of x86_64 read, by their addresses in order.
--
-- A part of a rule reads only if each part before it gave a value, so the first word that can't be read is the last.
use Rattle.std.specs.Prelude.{ℕ, zero, suc, ◌*◌, ℤ, pos, ◌+ℤ◌, ◌-ℤ◌, ◌*ℤ◌, List, [], ◌∷◌, ◌++◌, Bool, ◌==◌, nat_le, if◌then◌else◌}
use Rattle.framehop_registers.specs.Callback.{Words}
use Rattle.framehop_registers.specs.Registers.{sp_of, bp_of}
use Rattle.framehop_rules.specs.Outcome.{if_answered, address, word}
use Rattle.framehop_rules.specs.RuleMeaning.{registers_after_pops_of, moves}
use Rattle.framehop_rules.specs.declared.x86_64.unwind_rule.UnwindRuleX86_64.{UnwindRuleX86_64}
use Rattle.framehop_rules.specs.declared.x86_64.unwind_rule.UnwindRuleX86_64.TheVariants.{EndOfStack, JustReturn, JustReturnIfFirstFrameOtherwiseFp, OffsetSp, OffsetSpAndRestoreBp, UseFramePointer, OffsetSpAndPopRegisters}
use Rattle.framehop_registers.specs.declared.x86_64.unwindregs.UnwindRegsX86_64.{UnwindRegsX86_64}

-- The words that registers take, one after the other, so many from an address on.
unfoldable pub reads_of_pops : Words → ℕ → ℕ → List ℕ
reads_of_pops words zero at = []
reads_of_pops words (suc count) at =
    at ∷ if_answered (word words at) (λ value. if_answered (address (pos at +ℤ pos 8)) (reads_of_pops words count))

-- The words that a rule's registers take. Most rules pop none.
abbrev pub reads_of_pops_of : UnwindRuleX86_64 → UnwindRegsX86_64 → Words → List ℕ
reads_of_pops_of (OffsetSpAndPopRegisters x count number) registers words =
    if_answered (address (pos (sp_of registers) +ℤ pos (8 * x))) (reads_of_pops words count)
reads_of_pops_of rule registers words = []

-- The caller's frame pointer, at the frame pointer, unless the stack pointer doesn't go up.
abbrev pub reads_by_frame_pointer : UnwindRegsX86_64 → List ℕ
reads_by_frame_pointer registers =
    if_answered (address (pos (bp_of registers) +ℤ pos 16)) (λ sp.
    if nat_le sp (sp_of registers) then [] else bp_of registers ∷ [])

-- The caller's frame pointer, stored at an offset, once the stack pointer went up by these bytes.
abbrev pub reads_of_stored_bp : UnwindRegsX86_64 → ℕ → ℤ → List ℕ
reads_of_stored_bp registers bytes offset =
    if_answered (address (pos (sp_of registers) +ℤ pos bytes)) (λ sp.
    if_answered (address (pos (sp_of registers) +ℤ offset)) (λ at. at ∷ []))

-- What each rule reads to move the stack pointer and the frame pointer.
abbrev pub reads_of_moves : UnwindRuleX86_64 → Bool → UnwindRegsX86_64 → List ℕ
reads_of_moves EndOfStack is_first registers = []
reads_of_moves JustReturn is_first registers = []
reads_of_moves JustReturnIfFirstFrameOtherwiseFp is_first registers =
    if is_first then [] else reads_by_frame_pointer registers
reads_of_moves (OffsetSp x) is_first registers = []
reads_of_moves (OffsetSpAndRestoreBp x y) is_first registers = reads_of_stored_bp registers (8 * x) (pos 8 *ℤ y)
reads_of_moves UseFramePointer is_first registers =
    if bp_of registers == 0 then [] else reads_by_frame_pointer registers
reads_of_moves (OffsetSpAndPopRegisters x count number) is_first registers = []

-- The return address, below the caller's stack pointer.
abbrev pub reads_of_return : ℕ → List ℕ
reads_of_return sp = if_answered (address (pos sp -ℤ pos 8)) (λ at. at ∷ [])

-- What a rule reads once its registers are popped.
abbrev pub reads_after_pops : UnwindRuleX86_64 → Bool → UnwindRegsX86_64 → Words → List ℕ
reads_after_pops rule is_first registers words =
    reads_of_moves rule is_first registers
    ++ if_answered (moves rule is_first registers words) (λ frame. reads_of_return frame.0)

-- What a rule reads, for a frame with these registers, first or later, on a stack of these words.
abbrev pub rule_reads : UnwindRuleX86_64 → Bool → UnwindRegsX86_64 → Words → List ℕ
rule_reads rule is_first registers words =
    reads_of_pops_of rule registers words
    ++ if_answered (registers_after_pops_of rule registers words) (λ popped. reads_after_pops rule is_first popped words)
