-- On aarch64 each answered step of a later frame raises the stack pointer.
use Rattle.std.proofs.Common.{◌≡◌, ◌≢◌, ℕ, ◌<◌, ◌*◌, ◌^◌, ap, arith, Bool, true, false}
use Rattle.std.specs.Prelude.{ℤ, pos, ◌+ℤ◌, ◌==◌, ◌||◌, nat_le, if◌then◌else◌}
use Rattle.std.proofs.lemmas.Bool.{leb-false}
use Rattle.framehop_registers.specs.Callback.{Words}
use Rattle.framehop_rules.specs.Outcome.{Refuses, Answers, Caller, and_then, address}
use Rattle.framehop_registers.specs.RegistersAarch64.{stripped_address, mask_of, sp_of, fp_of}
use Rattle.framehop_rules.specs.RuleMeaningAarch64.{CallerFrame, stored_word, stored_frame, frame_with_stored_lr, if_above, if_chained, moves, return_address, caller_registers, returned_caller, rule_meaning}
use Rattle.framehop_rules.specs.declared.aarch64.unwind_rule.UnwindRuleAarch64.{UnwindRuleAarch64}
use Rattle.framehop_rules.specs.declared.aarch64.unwind_rule.UnwindRuleAarch64.TheVariants.{NoOp, NoOpIfFirstFrameOtherwiseFp, OffsetSp, OffsetSpIfFirstFrameOtherwiseStackEndsHere, OffsetSpAndRestoreLr, OffsetSpAndRestoreFpAndLr, UseFramePointer, UseFramepointerWithOffsets}
use Rattle.framehop_registers.specs.declared.aarch64.unwindregs.UnwindRegsAarch64.{UnwindRegsAarch64}
use Rattle.framehop_registers.specs.declared.error.Error.TheVariants.{FramepointerUnwindingMovedBackwards, DidNotAdvance}
use Rattle.framehop_rules.specs.Answered.{IsAddressFrom}
use Rattle.framehop_rules.proofs.Parts.{and_then-answers, above, past-refusal, past-end, differ}

-- a stored frame is above its base
stored-above : (words : Words) (base bytes : ℕ) (fp_offset lr_offset : ℤ) (frame : CallerFrame)
    → stored_frame words base bytes fp_offset lr_offset ≡ Answers frame → IsAddressFrom base frame.1
stored-above words base bytes fp_offset lr_offset frame is =
    let (sp, sp_is, more) = and_then-answers (address (pos base +ℤ pos bytes)) (λ sp. and_then (stored_word words base lr_offset) (λ lr. and_then (stored_word words base fp_offset) (λ fp. Answers (lr, sp, fp)))) frame is in
    let (lr, lr_is, last) = and_then-answers (stored_word words base lr_offset) (λ lr. and_then (stored_word words base fp_offset) (λ fp. Answers (lr, sp, fp))) frame more in
    let (fp, fp_is, there) = and_then-answers (stored_word words base fp_offset) (λ fp. Answers (lr, sp, fp)) frame last in
    let same : (lr, sp, fp) ≡ frame = cc in
    let high : sp ≡ frame.1 = ap (λ (f : CallerFrame). f.1) same in
    above base bytes sp frame.1 high sp_is

-- so is one whose link register alone is stored
stored_lr-above : (registers : UnwindRegsAarch64) (words : Words) (bytes : ℕ) (lr_offset : ℤ) (frame : CallerFrame)
    → frame_with_stored_lr registers words bytes lr_offset ≡ Answers frame → IsAddressFrom (sp_of registers) frame.1
stored_lr-above registers words bytes lr_offset frame is =
    let (sp, sp_is, more) = and_then-answers (address (pos (sp_of registers) +ℤ pos bytes)) (λ sp. and_then (stored_word words (sp_of registers) lr_offset) (λ lr. Answers (lr, sp, fp_of registers))) frame is in
    let (lr, lr_is, there) = and_then-answers (stored_word words (sp_of registers) lr_offset) (λ lr. Answers (lr, sp, fp_of registers)) frame more in
    let same : (lr, sp, fp_of registers) ≡ frame = cc in
    let high : sp ≡ frame.1 = ap (λ (f : CallerFrame). f.1) same in
    above (sp_of registers) bytes sp frame.1 high sp_is

-- a frame that has to be above is
if_above-above : (registers : UnwindRegsAarch64) (from frame : CallerFrame) → if_above registers from ≡ Answers frame → from.1 < 2 ^ 64 → IsAddressFrom (sp_of registers) frame.1
if_above-above registers (lr, sp, fp) frame is fits =
    let (up, there) = past-refusal (nat_le sp (sp_of registers)) FramepointerUnwindingMovedBackwards (Answers (lr, sp, fp)) frame is in
    let same : (lr, sp, fp) ≡ frame = cc in
    let high : sp ≡ frame.1 = ap (λ (f : CallerFrame). f.1) same in
    record { not_below = omega (arith, leb-false sp (sp_of registers) up); fits = omega arith }

-- and a frame of a chain
if_chained-above : (registers : UnwindRegsAarch64) (from frame : CallerFrame) → if_chained registers from ≡ Answers frame → from.1 < 2 ^ 64 → IsAddressFrom (sp_of registers) frame.1
if_chained-above registers (lr, sp, fp) frame is fits =
    let goes = past-end (fp == 0) (if nat_le fp (fp_of registers) || nat_le sp (sp_of registers) then Refuses FramepointerUnwindingMovedBackwards else Answers (lr, sp, fp)) frame is in
    let (higher, there) = past-refusal (nat_le fp (fp_of registers) || nat_le sp (sp_of registers)) FramepointerUnwindingMovedBackwards (Answers (lr, sp, fp)) frame goes.1 in
    let same : (lr, sp, fp) ≡ frame = cc in
    let high : sp ≡ frame.1 = ap (λ (f : CallerFrame). f.1) same in
    let up = second (nat_le fp (fp_of registers)) (nat_le sp (sp_of registers)) higher in
    record { not_below = omega (arith, leb-false sp (sp_of registers) up); fits = omega arith }
  where
    second : (a b : Bool) → (a || b) ≡ false → b ≡ false
    second true b h = cc
    second false b h = h

-- what a rule moves to in a later frame isn't below it
moved-above : (rule : UnwindRuleAarch64) (registers : UnwindRegsAarch64) (words : Words) (frame : CallerFrame)
    → moves rule false registers words ≡ Answers frame → IsAddressFrom (sp_of registers) frame.1
moved-above NoOp registers words frame is = cc
moved-above NoOpIfFirstFrameOtherwiseFp registers words frame is =
    let (from, from_is, there) = and_then-answers (stored_frame words (fp_of registers) 16 (pos 0) (pos 1)) (if_above registers) frame is in
    if_above-above registers from frame there (stored-above words (fp_of registers) 16 (pos 0) (pos 1) from from_is).fits
moved-above (OffsetSp x) registers words frame is = cc
moved-above (OffsetSpIfFirstFrameOtherwiseStackEndsHere x) registers words frame is = cc
moved-above (OffsetSpAndRestoreLr x y) registers words frame is = stored_lr-above registers words (16 * x) y frame is
moved-above (OffsetSpAndRestoreFpAndLr x y z) registers words frame is = stored-above words (sp_of registers) (16 * x) y z frame is
moved-above UseFramePointer registers words frame is =
    let (from, from_is, there) = and_then-answers (stored_frame words (fp_of registers) 16 (pos 0) (pos 1)) (if_chained registers) frame is in
    if_chained-above registers from frame there (stored-above words (fp_of registers) 16 (pos 0) (pos 1) from from_is).fits
moved-above (UseFramepointerWithOffsets x y z) registers words frame is =
    let (from, from_is, there) = and_then-answers (stored_frame words (fp_of registers) (8 * x) y z) (if_chained registers) frame is in
    if_chained-above registers from frame there (stored-above words (fp_of registers) (8 * x) y z from from_is).fits

-- what a later frame returns to has another stack pointer
returned-differs : (registers : UnwindRegsAarch64) (frame : CallerFrame) (caller : Caller UnwindRegsAarch64)
    → returned_caller registers false frame ≡ Answers caller → (frame.1 ≢ sp_of registers) × (frame.1 ≡ sp_of caller.registers)
returned-differs registers (lr, sp, fp) caller is =
    let (to, to_is, there) = and_then-answers (return_address registers false (lr, sp, fp)) (λ to. Answers (record { return_address = to; registers = caller_registers registers (lr, sp, fp) })) caller is in
    let more = past-end (stripped_address (mask_of registers) lr == 0) (if sp == sp_of registers then Refuses DidNotAdvance else Answers (stripped_address (mask_of registers) lr)) to to_is in
    let last = past-refusal (sp == sp_of registers) DidNotAdvance (Answers (stripped_address (mask_of registers) lr)) to more.1 in
    let made : Caller UnwindRegsAarch64 = record { return_address = to; registers = caller_registers registers (lr, sp, fp) } in
    let same : made ≡ caller = cc in
    (differ sp (sp_of registers) last.0, ap (λ (c : Caller UnwindRegsAarch64). sp_of c.registers) same)

module _ (rule : UnwindRuleAarch64) (registers : UnwindRegsAarch64) (words : Words) (caller : Caller UnwindRegsAarch64)
    (is : rule_meaning rule false registers words ≡ Answers caller) where
  -- a later frame's caller is above it
  pub later-above : sp_of registers < sp_of caller.registers
  later-above =
      let (frame, frame_is, there) = and_then-answers (moves rule false registers words) (returned_caller registers false) caller is in
      let up = moved-above rule registers words frame frame_is in
      let (other, same) = returned-differs registers frame caller there in
      omega (arith, up.not_below)

  -- and has a stack pointer of 64 bits
  pub later-fits : sp_of caller.registers < 2 ^ 64
  later-fits =
      let (frame, frame_is, there) = and_then-answers (moves rule false registers words) (returned_caller registers false) caller is in
      let up = moved-above rule registers words frame frame_is in
      let (other, same) = returned-differs registers frame caller there in
      omega (arith, up.fits)
