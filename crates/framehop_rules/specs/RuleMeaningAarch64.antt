-- The meaning of the unwind rules of aarch64, over a map of words and unbounded numbers.
--
-- Checks and reads go in the written order, and the first one that fails is the error.
use Rattle.std.specs.Prelude.{ℕ, ◌*◌, ℤ, pos, ◌+ℤ◌, ◌*ℤ◌, Bool, not, ◌&&◌, ◌||◌, ◌==◌, nat_le, if◌then◌else◌}
use Rattle.framehop_registers.specs.Callback.{Words}
use Rattle.framehop_rules.specs.Outcome.{Outcome, Ends, Refuses, Answers, and_then, address, word, Caller}
use Rattle.framehop_registers.specs.RegistersAarch64.{stripped_address, mask_of, lr_of, sp_of, fp_of, with_lr, with_sp, with_fp}
use Rattle.framehop_rules.specs.declared.aarch64.unwind_rule.UnwindRuleAarch64.{UnwindRuleAarch64}
use Rattle.framehop_rules.specs.declared.aarch64.unwind_rule.UnwindRuleAarch64.TheVariants.{NoOp, NoOpIfFirstFrameOtherwiseFp, OffsetSp, OffsetSpIfFirstFrameOtherwiseStackEndsHere, OffsetSpAndRestoreLr, OffsetSpAndRestoreFpAndLr, UseFramePointer, UseFramepointerWithOffsets}
use Rattle.framehop_registers.specs.declared.aarch64.unwindregs.UnwindRegsAarch64.{UnwindRegsAarch64}
use Rattle.framehop_registers.specs.declared.error.Error.TheVariants.{FramepointerUnwindingMovedBackwards, DidNotAdvance}

-- The caller's link register, stack pointer and frame pointer.
abbrev pub CallerFrame : Type 0
CallerFrame = ℕ × ℕ × ℕ

-- All three stay.
abbrev pub same_frame : UnwindRegsAarch64 → Outcome CallerFrame
same_frame registers = Answers (lr_of registers, sp_of registers, fp_of registers)

-- The stack pointer goes up by these bytes, the link register and the frame pointer stay.
abbrev pub raised_frame : UnwindRegsAarch64 → ℕ → Outcome CallerFrame
raised_frame registers bytes =
    and_then (address (pos (sp_of registers) +ℤ pos bytes)) (λ sp.
    Answers (lr_of registers, sp, fp_of registers))

-- The word that is stored so many words of 8 bytes from an address.
abbrev pub stored_word : Words → ℕ → ℤ → Outcome ℕ
stored_word words base offset = and_then (address (pos base +ℤ pos 8 *ℤ offset)) (word words)

-- The stack pointer goes up by these bytes, the link register is stored at an offset from it, the frame pointer stays.
abbrev pub frame_with_stored_lr : UnwindRegsAarch64 → Words → ℕ → ℤ → Outcome CallerFrame
frame_with_stored_lr registers words bytes lr_offset =
    and_then (address (pos (sp_of registers) +ℤ pos bytes)) (λ sp.
    and_then (stored_word words (sp_of registers) lr_offset) (λ lr.
    Answers (lr, sp, fp_of registers)))

-- The stack pointer is so many bytes above an address; the frame pointer and the link register are stored at offsets from
-- that address.
abbrev pub stored_frame : Words → ℕ → ℕ → ℤ → ℤ → Outcome CallerFrame
stored_frame words base bytes fp_offset lr_offset =
    and_then (address (pos base +ℤ pos bytes)) (λ sp.
    and_then (stored_word words base lr_offset) (λ lr.
    and_then (stored_word words base fp_offset) (λ fp.
    Answers (lr, sp, fp))))

-- The stack pointer has to go up.
abbrev pub if_above : UnwindRegsAarch64 → CallerFrame → Outcome CallerFrame
if_above registers (lr, sp, fp) =
    if nat_le sp (sp_of registers) then Refuses FramepointerUnwindingMovedBackwards else Answers (lr, sp, fp)

-- A chain of frame pointers ends with 0, and else goes up with the stack pointer.
abbrev pub if_chained : UnwindRegsAarch64 → CallerFrame → Outcome CallerFrame
if_chained registers (lr, sp, fp) =
    if fp == 0 then Ends else
    if nat_le fp (fp_of registers) || nat_le sp (sp_of registers) then Refuses FramepointerUnwindingMovedBackwards else
    Answers (lr, sp, fp)

-- What each rule does to the three.
abbrev pub moves : UnwindRuleAarch64 → Bool → UnwindRegsAarch64 → Words → Outcome CallerFrame
moves NoOp is_first registers words =
    if is_first then same_frame registers else Refuses DidNotAdvance
moves NoOpIfFirstFrameOtherwiseFp is_first registers words =
    if is_first then same_frame registers else
    and_then (stored_frame words (fp_of registers) 16 (pos 0) (pos 1)) (if_above registers)
moves (OffsetSp x) is_first registers words =
    if is_first then raised_frame registers (16 * x) else Refuses DidNotAdvance
moves (OffsetSpIfFirstFrameOtherwiseStackEndsHere x) is_first registers words =
    if is_first then raised_frame registers (16 * x) else Ends
moves (OffsetSpAndRestoreLr x y) is_first registers words = frame_with_stored_lr registers words (16 * x) y
moves (OffsetSpAndRestoreFpAndLr x y z) is_first registers words = stored_frame words (sp_of registers) (16 * x) y z
moves UseFramePointer is_first registers words =
    and_then (stored_frame words (fp_of registers) 16 (pos 0) (pos 1)) (if_chained registers)
moves (UseFramepointerWithOffsets x y z) is_first registers words =
    and_then (stored_frame words (fp_of registers) (8 * x) y z) (if_chained registers)

-- The return address is the link register's. A 0 there ends the stack, and a step from a later frame that would leave the
-- stack pointer is an error.
abbrev pub return_address : UnwindRegsAarch64 → Bool → CallerFrame → Outcome ℕ
return_address registers is_first (lr, sp, fp) =
    let to = stripped_address (mask_of registers) lr in
    if to == 0 then Ends else
    if not is_first && (sp == sp_of registers) then Refuses DidNotAdvance else
    Answers to

-- The caller's registers.
abbrev pub caller_registers : UnwindRegsAarch64 → CallerFrame → UnwindRegsAarch64
caller_registers registers (lr, sp, fp) = with_fp (with_sp (with_lr registers lr) sp) fp

-- What every rule ends with.
abbrev pub returned_caller : UnwindRegsAarch64 → Bool → CallerFrame → Outcome (Caller UnwindRegsAarch64)
returned_caller registers is_first frame =
    and_then (return_address registers is_first frame) (λ to.
    Answers (record { return_address = to; registers = caller_registers registers frame }))

-- The meaning of a rule, for a frame with these registers, first or later, on a stack of these words.
abbrev pub rule_meaning : UnwindRuleAarch64 → Bool → UnwindRegsAarch64 → Words → Outcome (Caller UnwindRegsAarch64)
rule_meaning rule is_first registers words =
    and_then (moves rule is_first registers words) (returned_caller registers is_first)

-- A rule that can be executed: each one can.
abbrev pub IsValid : UnwindRuleAarch64 → Type 0
IsValid rule = Unit {0}
