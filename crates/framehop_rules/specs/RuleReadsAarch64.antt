-- Which words the unwind rules of aarch64 read, by their addresses in order.
--
-- A part of a rule reads only if each part before it gave a value, so the first word that can't be read is the last.
use Rattle.std.specs.Prelude.{ℕ, ◌*◌, ℤ, pos, ◌+ℤ◌, ◌*ℤ◌, List, [], ◌∷◌, ◌++◌, Bool, if◌then◌else◌}
use Rattle.framehop_registers.specs.Callback.{Words}
use Rattle.framehop_registers.specs.RegistersAarch64.{sp_of, fp_of}
use Rattle.framehop_rules.specs.Outcome.{if_answered, address}
use Rattle.framehop_rules.specs.RuleMeaningAarch64.{stored_word}
use Rattle.framehop_rules.specs.declared.aarch64.unwind_rule.UnwindRuleAarch64.{UnwindRuleAarch64}
use Rattle.framehop_rules.specs.declared.aarch64.unwind_rule.UnwindRuleAarch64.TheVariants.{NoOp, NoOpIfFirstFrameOtherwiseFp, OffsetSp, OffsetSpIfFirstFrameOtherwiseStackEndsHere, OffsetSpAndRestoreLr, OffsetSpAndRestoreFpAndLr, UseFramePointer, UseFramepointerWithOffsets}
use Rattle.framehop_registers.specs.declared.aarch64.unwindregs.UnwindRegsAarch64.{UnwindRegsAarch64}

-- The word that is stored so many words of 8 bytes from an address.
abbrev pub reads_of_stored_word : ℕ → ℤ → List ℕ
reads_of_stored_word base offset = if_answered (address (pos base +ℤ pos 8 *ℤ offset)) (λ at. at ∷ [])

-- The link register, stored at an offset, once the stack pointer went up by these bytes.
abbrev pub reads_of_stored_lr : UnwindRegsAarch64 → ℕ → ℤ → List ℕ
reads_of_stored_lr registers bytes lr_offset =
    if_answered (address (pos (sp_of registers) +ℤ pos bytes)) (λ sp.
    reads_of_stored_word (sp_of registers) lr_offset)

-- The link register, then the frame pointer, stored at offsets from an address, once the stack pointer is so many bytes
-- above that.
abbrev pub reads_of_stored_frame : Words → ℕ → ℕ → ℤ → ℤ → List ℕ
reads_of_stored_frame words base bytes fp_offset lr_offset =
    if_answered (address (pos base +ℤ pos bytes)) (λ sp.
    reads_of_stored_word base lr_offset
    ++ if_answered (stored_word words base lr_offset) (λ lr. reads_of_stored_word base fp_offset))

-- What a rule reads, for a frame with these registers, first or later, on a stack of these words.
abbrev pub rule_reads : UnwindRuleAarch64 → Bool → UnwindRegsAarch64 → Words → List ℕ
rule_reads NoOp is_first registers words = []
rule_reads NoOpIfFirstFrameOtherwiseFp is_first registers words =
    if is_first then [] else reads_of_stored_frame words (fp_of registers) 16 (pos 0) (pos 1)
rule_reads (OffsetSp x) is_first registers words = []
rule_reads (OffsetSpIfFirstFrameOtherwiseStackEndsHere x) is_first registers words = []
rule_reads (OffsetSpAndRestoreLr x y) is_first registers words = reads_of_stored_lr registers (16 * x) y
rule_reads (OffsetSpAndRestoreFpAndLr x y z) is_first registers words =
    reads_of_stored_frame words (sp_of registers) (16 * x) y z
rule_reads UseFramePointer is_first registers words =
    reads_of_stored_frame words (fp_of registers) 16 (pos 0) (pos 1)
rule_reads (UseFramepointerWithOffsets x y z) is_first registers words =
    reads_of_stored_frame words (fp_of registers) (8 * x) y z
