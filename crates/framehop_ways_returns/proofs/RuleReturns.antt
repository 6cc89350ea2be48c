-- What the rule of a way answers is where the machine is after the way.
use Rattle.std.proofs.Common.{◌≡◌, ◌∙◌, ℕ, ◌*◌, ◌<◌, ◌^◌, refl, sym, ap, subst, arith, Bool, true, false, List, []}
use Rattle.std.specs.Prelude.{ℤ, pos, negsuc, ◌+ℤ◌, ◌*ℤ◌, ◌==◌, ◌&&◌, ◌||◌, not, nat_le, if◌then◌else◌}
use Rattle.framehop_registers.specs.Callback.{Words}
use Rattle.framehop_registers.specs.RegistersAarch64.{stripped_address, mask_of, lr_of, sp_of, fp_of}
use Rattle.framehop_registers.specs.declared.aarch64.unwindregs.UnwindRegsAarch64.{UnwindRegsAarch64}
use Rattle.framehop_registers.specs.declared.error.Error.TheVariants.{DidNotAdvance, FramepointerUnwindingMovedBackwards}
use Rattle.framehop_rules.specs.Outcome.{Outcome, Refuses, Answers, Caller, and_then, address, word}
use Rattle.framehop_rules.specs.RuleMeaningAarch64.{CallerFrame, stored_word, stored_frame, if_chained, moves, return_address, caller_registers, returned_caller}
use Rattle.framehop_rules.specs.declared.aarch64.unwind_rule.UnwindRuleAarch64.{UnwindRuleAarch64}
use Rattle.framehop_rules.specs.declared.aarch64.unwind_rule.UnwindRuleAarch64.TheVariants.{NoOp, NoOpIfFirstFrameOtherwiseFp, OffsetSp, OffsetSpIfFirstFrameOtherwiseStackEndsHere, OffsetSpAndRestoreLr, OffsetSpAndRestoreFpAndLr, UseFramePointer, UseFramepointerWithOffsets}
use Rattle.framehop_rules.proofs.Laws.{and_then-answers, past-end, past-refusal, word-answers}
use Rattle.framehop_analysis.specs.MachineAarch64.{State, moved, leave}
use Rattle.framehop_analysis.specs.ReturnsAarch64.{HasReturned}
use Rattle.framehop_ways_returns.specs.WayReturns.{IsFrameAt, WayReturns}
use Rattle.framehop_ways.specs.Values.{values_now, IsRuleOf, IsRuleOfWay}
use Rattle.framehop_ways.specs.declared.executed.Executed.{Executed}
use Rattle.framehop_ways.specs.declared.values.Values.{Values}
use Rattle.framehop_ways_returns.proofs.Wrapped.{stays, not_wrapped}
use Rattle.framehop_ways_returns.proofs.Held.{HoldsThree, IsHeld, has_run}

abbrev strip : UnwindRegsAarch64 → ℕ → ℕ
strip registers lr = stripped_address (mask_of registers) lr

record IsFrame (registers : UnwindRegsAarch64) (frame : CallerFrame) (t : State) : Type 0 where
  pub has_lr : strip registers frame.0 ≡ strip registers t.lr
  pub has_sp : frame.1 ≡ t.sp
  pub has_fp : frame.2 ≡ t.fp

-- ---- addresses and words by a base

record IsAddress (z : ℤ) (a : ℕ) : Type 0 where
  pub is : z ≡ pos a
  pub fits : a < 2 ^ 64

address_is : (z : ℤ) (a : ℕ) → address z ≡ Answers a → IsAddress z a
address_is (pos n) a is = record { is = grind arith; fits = grind arith }
address_is (negsuc n) a is = cc

raised_is : (base other bytes sp : ℕ) → base ≡ other → address (pos other +ℤ pos bytes) ≡ Answers sp → moved base (pos bytes) ≡ sp
raised_is base other bytes sp same is =
    let at = address_is (pos other +ℤ pos bytes) sp is in
    ap (λ a. moved a (pos bytes)) same ∙ not_wrapped other sp (pos bytes) at.is at.fits

stored_is : {first : Bool} (s : State) (registers : UnwindRegsAarch64) (words : Words) → IsFrameAt first s registers words → (base other : ℕ) (offset : ℤ) (value : ℕ) → base ≡ other
    → stored_word words other offset ≡ Answers value → s.memory (moved base (pos 8 *ℤ offset)) ≡ value
stored_is s registers words is_at base other offset value same is =
    let (at, at_is, more) = and_then-answers (address (pos other +ℤ pos 8 *ℤ offset)) (word words) value is in
    let there = address_is (pos other +ℤ pos 8 *ℤ offset) at at_is in
    ap (λ a. s.memory (moved a (pos 8 *ℤ offset))) same ∙ ap s.memory (not_wrapped other at (pos 8 *ℤ offset) there.is there.fits)
    ∙ is_at.part at value (word-answers words at value more)

-- a frame whose x29 and x30 are stored
record IsStoredFrame (s : State) (base bytes : ℕ) (fp_offset lr_offset : ℤ) (frame : CallerFrame) : Type 0 where
  pub lr : s.memory (moved base (pos 8 *ℤ lr_offset)) ≡ frame.0
  pub sp : moved base (pos bytes) ≡ frame.1
  pub fp : s.memory (moved base (pos 8 *ℤ fp_offset)) ≡ frame.2

stored_frame_is : {first : Bool} (s : State) (registers : UnwindRegsAarch64) (words : Words) → IsFrameAt first s registers words → (base other bytes : ℕ) (y z : ℤ) (frame : CallerFrame) → base ≡ other
    → stored_frame words other bytes y z ≡ Answers frame → IsStoredFrame s base bytes y z frame
stored_frame_is s registers words is_at base other bytes y z frame same is =
    let (sp, sp_is, more) = and_then-answers (address (pos other +ℤ pos bytes)) (λ sp. and_then (stored_word words other z) (λ lr. and_then (stored_word words other y) (λ fp. Answers (lr, sp, fp)))) frame is in
    let (lr, lr_is, last) = and_then-answers (stored_word words other z) (λ lr. and_then (stored_word words other y) (λ fp. Answers (lr, sp, fp))) frame more in
    let (fp, fp_is, there) = and_then-answers (stored_word words other y) (λ fp. Answers (lr, sp, fp)) frame last in
    let whole : (lr, sp, fp) ≡ frame = cc in
    record {
      lr = stored_is s registers words is_at base other z lr same lr_is ∙ ap (λ (f : CallerFrame). f.0) whole;
      sp = raised_is base other bytes sp same sp_is ∙ ap (λ (f : CallerFrame). f.1) whole;
      fp = stored_is s registers words is_at base other y fp same fp_is ∙ ap (λ (f : CallerFrame). f.2) whole;
    }

chained_is : (registers : UnwindRegsAarch64) (one frame : CallerFrame) → if_chained registers one ≡ Answers frame → one ≡ frame
chained_is registers (lr, sp, fp) frame is =
    let past = past-end (fp == 0) (if nat_le fp (fp_of registers) || nat_le sp (sp_of registers) then Refuses FramepointerUnwindingMovedBackwards else Answers (lr, sp, fp)) frame is in
    let there = (past-refusal (nat_le fp (fp_of registers) || nat_le sp (sp_of registers)) FramepointerUnwindingMovedBackwards (Answers (lr, sp, fp)) frame past.1).1 in
    cc

-- ---- the frame of a rule

frame_of : (first : Bool) (s t : State) (registers : UnwindRegsAarch64) (words : Words) → IsFrameAt first s registers words → s.fp < 2 ^ 64 → (values : Values) (rule : UnwindRuleAarch64) (frame : CallerFrame)
    → HoldsThree (mask_of registers) s values t → IsRuleOf values rule → moves rule first registers words ≡ Answers frame → IsFrame registers frame t
frame_of true s t registers words is_at fp_fits values NoOp frame three is_rule is =
    let same : (lr_of registers, sp_of registers, fp_of registers) ≡ frame = cc in
    let has = subst (λ (v : Values). HoldsThree (mask_of registers) s v t) is_rule three in
    record {
      has_lr = sym (ap (λ (f : CallerFrame). strip registers f.0) same) ∙ sym (is_at.lr refl) ∙ sym has.lr;
      has_sp = sym (ap (λ (f : CallerFrame). f.1) same) ∙ sym is_at.sp ∙ sym (stays s.sp is_at.fits) ∙ sym has.sp;
      has_fp = sym (ap (λ (f : CallerFrame). f.2) same) ∙ sym is_at.fp ∙ sym (stays s.fp fp_fits) ∙ sym has.fp;
    }
frame_of true s t registers words is_at fp_fits values (OffsetSp x) frame three is_rule is =
    let (sp, sp_is, there) = and_then-answers (address (pos (sp_of registers) +ℤ pos (16 * x))) (λ sp. Answers (lr_of registers, sp, fp_of registers)) frame is in
    let same : (lr_of registers, sp, fp_of registers) ≡ frame = cc in
    let has = subst (λ (v : Values). HoldsThree (mask_of registers) s v t) is_rule three in
    record {
      has_lr = sym (ap (λ (f : CallerFrame). strip registers f.0) same) ∙ sym (is_at.lr refl) ∙ sym has.lr;
      has_sp = sym (ap (λ (f : CallerFrame). f.1) same) ∙ sym (raised_is s.sp (sp_of registers) (16 * x) sp is_at.sp sp_is) ∙ sym has.sp;
      has_fp = sym (ap (λ (f : CallerFrame). f.2) same) ∙ sym is_at.fp ∙ sym (stays s.fp fp_fits) ∙ sym has.fp;
    }
frame_of false s t registers words is_at fp_fits values NoOp frame three is_rule is = cc
frame_of false s t registers words is_at fp_fits values (OffsetSp x) frame three is_rule is = cc
frame_of first s t registers words is_at fp_fits values (OffsetSpAndRestoreLr x y) frame three is_rule is =
    let (sp, sp_is, more) = and_then-answers (address (pos (sp_of registers) +ℤ pos (16 * x))) (λ sp. and_then (stored_word words (sp_of registers) y) (λ lr. Answers (lr, sp, fp_of registers))) frame is in
    let (lr, lr_is, there) = and_then-answers (stored_word words (sp_of registers) y) (λ lr. Answers (lr, sp, fp_of registers)) frame more in
    let same : (lr, sp, fp_of registers) ≡ frame = cc in
    let has = subst (λ (v : Values). HoldsThree (mask_of registers) s v t) is_rule three in
    record {
      has_lr = sym (ap (λ (f : CallerFrame). strip registers f.0) same) ∙ ap (strip registers) (sym (stored_is s registers words is_at s.sp (sp_of registers) y lr is_at.sp lr_is)) ∙ sym has.lr;
      has_sp = sym (ap (λ (f : CallerFrame). f.1) same) ∙ sym (raised_is s.sp (sp_of registers) (16 * x) sp is_at.sp sp_is) ∙ sym has.sp;
      has_fp = sym (ap (λ (f : CallerFrame). f.2) same) ∙ sym is_at.fp ∙ sym (stays s.fp fp_fits) ∙ sym has.fp;
    }
frame_of first s t registers words is_at fp_fits values (OffsetSpAndRestoreFpAndLr x y z) frame three is_rule is =
    let there = stored_frame_is s registers words is_at s.sp (sp_of registers) (16 * x) y z frame is_at.sp is in
    let has = subst (λ (v : Values). HoldsThree (mask_of registers) s v t) is_rule three in
    record { has_lr = ap (strip registers) (sym there.lr) ∙ sym has.lr; has_sp = sym there.sp ∙ sym has.sp; has_fp = sym there.fp ∙ sym has.fp }
frame_of first s t registers words is_at fp_fits values (UseFramepointerWithOffsets x y z) frame three is_rule is =
    let (one, one_is, more) = and_then-answers (stored_frame words (fp_of registers) (8 * x) y z) (if_chained registers) frame is in
    let there = stored_frame_is s registers words is_at s.fp (fp_of registers) (8 * x) y z one is_at.fp one_is in
    let same = chained_is registers one frame more in
    let has = subst (λ (v : Values). HoldsThree (mask_of registers) s v t) is_rule three in
    record {
      has_lr = sym (ap (λ (f : CallerFrame). strip registers f.0) same) ∙ ap (strip registers) (sym there.lr) ∙ sym has.lr;
      has_sp = sym (ap (λ (f : CallerFrame). f.1) same) ∙ sym there.sp ∙ sym has.sp;
      has_fp = sym (ap (λ (f : CallerFrame). f.2) same) ∙ sym there.fp ∙ sym has.fp;
    }
frame_of first s t registers words is_at fp_fits values NoOpIfFirstFrameOtherwiseFp frame three is_rule is = absurd is_rule
frame_of first s t registers words is_at fp_fits values (OffsetSpIfFirstFrameOtherwiseStackEndsHere x) frame three is_rule is = absurd is_rule
frame_of first s t registers words is_at fp_fits values UseFramePointer frame three is_rule is = absurd is_rule

-- the caller of that frame
caller_of : (first : Bool) (t : State) (registers : UnwindRegsAarch64) (frame : CallerFrame) (caller : Caller UnwindRegsAarch64) → IsFrame registers frame t
    → returned_caller registers first frame ≡ Answers caller → HasReturned (leave [] t) registers caller
caller_of first t registers (lr, sp, fp) caller there is =
    let made : ℕ → Outcome (Caller UnwindRegsAarch64) = λ to. Answers (record { return_address = to; registers = caller_registers registers (lr, sp, fp) }) in
    let (to, to_is, last) = and_then-answers (return_address registers first (lr, sp, fp)) made caller is in
    let stays_there = not first && (sp == sp_of registers) in
    let to_stripped = past-end (stripped_address (mask_of registers) lr == 0) (if stays_there then Refuses DidNotAdvance else Answers (stripped_address (mask_of registers) lr)) to to_is in
    let same_to : Answers (stripped_address (mask_of registers) lr) ≡ Answers to = (past-refusal stays_there DidNotAdvance (Answers (stripped_address (mask_of registers) lr)) to to_stripped.1).1 in
    let kept : record { return_address = to; registers = caller_registers registers (lr, sp, fp) } ≡ caller = cc in
    let value : stripped_address (mask_of registers) lr ≡ to = cc in
    record {
      ip = sym (ap (λ (c : Caller UnwindRegsAarch64). c.return_address) kept) ∙ sym value ∙ there.has_lr;
      sp = sym (ap (λ (c : Caller UnwindRegsAarch64). sp_of c.registers) kept) ∙ there.has_sp;
      fp = sym (ap (λ (c : Caller UnwindRegsAarch64). fp_of c.registers) kept) ∙ there.has_fp;
    }

-- now everything holds what it does
held_now : (mask_registers : UnwindRegsAarch64) (kept : ℕ → Bool) (s : State) → s.sp < 2 ^ 64 → s.fp < 2 ^ 64 → IsHeld (mask_of mask_registers) kept s values_now [] s
held_now registers kept s sp_fits fp_fits = record {
  three = record { sp = sym (stays s.sp sp_fits); fp = sym (stays s.fp fp_fits); lr = refl };
  words = λ base bytes in_reach is_kept. refl;
}

pub returned : (first : Bool) (way : List Executed) (rule : UnwindRuleAarch64) → IsRuleOfWay way rule → WayReturns first way rule
returned first way rule (values, values_are, is_rule) kept s t registers words caller run fp_fits is_at is =
    let three = has_run (mask_of registers) kept s way values_now [] s t values (held_now registers kept s is_at.fits fp_fits) run values_are in
    let (frame, frame_is, more) = and_then-answers (moves rule first registers words) (returned_caller registers first) caller is in
    caller_of first t registers frame caller (frame_of first s t registers words is_at fp_fits values rule frame three is_rule frame_is) more
