-- Words of private functions' contracts alone: frames of aarch64 by what is stored, over the words of the stack.
use Rattle.std.specs.Prelude.{ℕ, ℤ, List}
use Rattle.framehop_registers.specs.Callback.{Words}
use Rattle.framehop_registers.specs.declared.aarch64.unwindregs.UnwindRegsAarch64.{UnwindRegsAarch64}
use Rattle.framehop_rules.specs.Outcome.{Outcome}
use Rattle.framehop_rules.specs.RuleMeaningAarch64.{CallerFrame, frame_with_stored_lr, stored_frame}
use Rattle.framehop_rules.specs.RuleReadsAarch64.{reads_of_stored_frame}

-- The stack pointer goes up by these bytes, the link register is stored at an offset from it.
abbrev pub frame_by_lr : UnwindRegsAarch64 → (bytes : ℕ) → (lr_offset : ℤ) → Words → Outcome CallerFrame
frame_by_lr registers bytes lr_offset words = frame_with_stored_lr registers words bytes lr_offset

-- The stack pointer is so many bytes above an address; the frame pointer and the link register are stored at offsets from
-- that address.
abbrev pub frame_by_base : (base bytes : ℕ) → (fp_offset lr_offset : ℤ) → Words → Outcome CallerFrame
frame_by_base base bytes fp_offset lr_offset words = stored_frame words base bytes fp_offset lr_offset

-- What is read for that.
abbrev pub reads_by_base : (base bytes : ℕ) → (fp_offset lr_offset : ℤ) → Words → List ℕ
reads_by_base base bytes fp_offset lr_offset words = reads_of_stored_frame words base bytes fp_offset lr_offset
