-- The caller by the rule of a way is where the machine returns to.
use Rattle.std.proofs.Common.{◌≡◌, ◌∙◌, ℕ, ◌+◌, ◌-◌, ◌*◌, ◌<◌, ◌≤◌, ◌^◌, refl, sym, ap, subst, arith, Bool, true, false, List, [], Option, Some, None}
use Rattle.std.specs.Prelude.{pos, negsuc, ◌+ℤ◌, ◌-ℤ◌, ◌*ℤ◌, ◌==◌, ◌&&◌, nat_lt, nat_le, if◌then◌else◌, IsTrue, slice_set}
use Rattle.std.proofs.lemmas.Bool.Decides.{nat_tests}
use Rattle.std.proofs.lemmas.Int.{ints}
use Rattle.std.proofs.lemmas.List.{get_or-set_same, get_or-set_other, length-set}
use Rattle.framehop_registers.specs.Callback.{Words}
use Rattle.framehop_registers.specs.Registers.{sp_of, bp_of, ip_of}
use Rattle.framehop_registers.specs.declared.error.Error.TheVariants.{CouldNotReadStack, DidNotAdvance, FramepointerUnwindingMovedBackwards}
use Rattle.framehop_registers.specs.declared.x86_64.unwindregs.UnwindRegsX86_64.{UnwindRegsX86_64}
use Rattle.framehop_rules.specs.Outcome.{Outcome, Ends, Refuses, Answers, Caller, and_then, address, word}
use Rattle.framehop_rules.specs.RuleMeaning.{StackFrame, raised_frame, by_frame_pointer, stored_bp, restored_frame, return_address, caller_registers, returned_caller, moves, rule_meaning}
use Rattle.framehop_rules.specs.declared.x86_64.unwind_rule.UnwindRuleX86_64.{UnwindRuleX86_64}
use Rattle.framehop_rules.specs.declared.x86_64.unwind_rule.UnwindRuleX86_64.TheVariants.{EndOfStack, JustReturn, JustReturnIfFirstFrameOtherwiseFp, OffsetSp, OffsetSpAndRestoreBp, UseFramePointer, OffsetSpAndPopRegisters}
use Rattle.framehop_rules.proofs.Laws.{address-answers, word-answers, and_then-answers, above-answers, above-fits, past-refusal, past-end}
use Rattle.framehop_analysis.specs.Machine as machine
use Rattle.framehop_analysis.specs.Machine.{State}
use Rattle.framehop_analysis.specs.MachineAarch64.{moved}
use Rattle.framehop_analysis.specs.Returns.{IsAt, HasReturned}
use Rattle.framehop_x86_ways.specs.Values.{values_now, returned}
use Rattle.framehop_x86_ways.specs.WayRules.{IsRuleOf, IsRuleOfWay}
use Rattle.framehop_x86_ways.specs.declared.executed.Executed.{Executed}
use Rattle.framehop_x86_ways.specs.declared.values.Returned.{Returned}
use Rattle.framehop_x86_ways.specs.declared.values.Saved.{Saved}
use Rattle.framehop_x86_ways.specs.declared.values.Values.{Values}
use Rattle.framehop_x86_ways_returns.specs.WayReturns.{HasFrameIfUsed, WayReturns}
use Rattle.framehop_x86_ways_returns.proofs.Wrapped.{stays, not_wrapped}
use Rattle.framehop_x86_ways_returns.proofs.Words.{Holds, moved_holds, words_now, loaded_here}
use Rattle.framehop_x86_ways_returns.proofs.Held.{IsHeld, has_run}

-- ---- parts of a rule

-- a word that was read is the memory's
read_is : (state : State) (registers : UnwindRegsX86_64) (words : Words) → IsAt state registers words → (at value : ℕ) → word words at ≡ Answers value → state.memory at ≡ value
read_is state registers words is_at at value is = is_at.part at value (word-answers words at value is)

below_is : (sp at : ℕ) → address (pos sp -ℤ pos 8) ≡ Answers at → (8 ≤ sp) × (at ≡ sp - 8)
below_is sp at is = let e = address-answers (pos sp -ℤ pos 8) at is in (omega (arith, ints, e), omega (arith, ints, e))

record IsCaller (s : State) (sp bp : ℕ) (caller : Caller UnwindRegsX86_64) : Type 0 where
  pub to : caller.return_address ≡ s.memory (sp - 8)
  pub has_sp : sp_of caller.registers ≡ sp
  pub has_bp : bp_of caller.registers ≡ bp
  pub high : 8 ≤ sp

caller_is : (s : State) (registers : UnwindRegsX86_64) (words : Words) (sp bp : ℕ) (caller : Caller UnwindRegsX86_64) → IsAt s registers words
    → returned_caller registers words (sp, bp) ≡ Answers caller → IsCaller s sp bp caller
caller_is s registers words sp bp caller is_at is =
    let made : ℕ → Outcome (Caller UnwindRegsX86_64) = λ to. Answers (record { return_address = to; registers = caller_registers registers to sp bp }) in
    let (to, to_is, there) = and_then-answers (return_address registers words sp) made caller is in
    let checked : ℕ → Outcome ℕ = λ to. if to == 0 then Ends else if (sp == sp_of registers) && (to == ip_of registers) then Refuses DidNotAdvance else Answers to in
    let (at, at_is, more) = and_then-answers (address (pos sp -ℤ pos 8)) (λ at. and_then (word words at) checked) to to_is in
    let (value, value_is, tests) = and_then-answers (word words at) checked to more in
    let (not_null, last) = past-end (value == 0) (if (sp == sp_of registers) && (value == ip_of registers) then Refuses DidNotAdvance else Answers value) to tests in
    let (advanced, same) = past-refusal ((sp == sp_of registers) && (value == ip_of registers)) DidNotAdvance (Answers value) to last in
    let is_to : value ≡ to = cc in
    let (high, at_same) = below_is sp at at_is in
    let kept : record { return_address = to; registers = caller_registers registers to sp bp } ≡ caller = cc in
    let size = length-set registers.regs 7 sp in
    let new_sp = get_or-set_other (slice_set registers.regs 7 sp) 6 7 bp 0 (λ e. absurd (omega (arith, e))) ∙ get_or-set_same registers.regs 7 sp 0 (omega (arith, is_at.all)) in
    let new_bp = get_or-set_same (slice_set registers.regs 7 sp) 6 bp 0 (omega (arith, size, is_at.all)) in
    record {
      to = sym (ap (λ (c : Caller UnwindRegsX86_64). c.return_address) kept) ∙ sym is_to ∙ sym (read_is s registers words is_at at value value_is) ∙ ap s.memory at_same;
      has_sp = sym (ap (λ (c : Caller UnwindRegsX86_64). sp_of c.registers) kept) ∙ new_sp;
      has_bp = sym (ap (λ (c : Caller UnwindRegsX86_64). bp_of c.registers) kept) ∙ new_bp;
      high = high;
    }

-- ---- the stack pointer and the frame pointer

record IsFrame (frame : StackFrame) (sp bp : ℕ) : Type 0 where
  pub has_sp : frame.0 ≡ sp
  pub has_bp : frame.1 ≡ bp
  pub fits : sp < 2 ^ 64

raised_is : (registers : UnwindRegsX86_64) (bytes : ℕ) (frame : StackFrame) → raised_frame registers bytes ≡ Answers frame → IsFrame frame (sp_of registers + bytes) (bp_of registers)
raised_is registers bytes frame is =
    let (sp, sp_is, there) = and_then-answers (address (pos (sp_of registers) +ℤ pos bytes)) (λ sp. Answers (sp, bp_of registers)) frame is in
    let same : (sp, bp_of registers) ≡ frame = cc in
    let high = above-answers (sp_of registers) bytes sp sp_is in
    record {
      has_sp = sym (ap (λ (f : StackFrame). f.0) same) ∙ high;
      has_bp = sym (ap (λ (f : StackFrame). f.1) same);
      fits = omega (arith, high, above-fits (sp_of registers) bytes sp sp_is);
    }

-- in a first frame too, since the word isn't below the stack pointer
record IsRestored (s : State) (registers : UnwindRegsX86_64) (bytes words : ℕ) (frame : StackFrame) : Type 0 where
  pub frame_is : IsFrame frame (sp_of registers + bytes) (s.memory (sp_of registers + 8 * words))
  pub in_reach : sp_of registers + 8 * words < 2 ^ 64

found : (first : Bool) (s : State) (registers : UnwindRegsX86_64) (words : Words) → IsAt s registers words → (at bp : ℕ) → nat_lt at (sp_of registers) ≡ false → stored_bp first registers words at ≡ Answers bp
    → s.memory at ≡ bp
found first s registers words is_at at bp above is = by first (words at) refl is
  where
    by : (first : Bool) (word : Option ℕ) → words at ≡ word
        → (elim word as (λ _. Outcome ℕ) [ Some value ↦ Answers value | None ↦ if first && nat_lt at (sp_of registers) then Answers (bp_of registers) else Refuses (CouldNotReadStack at) ]) ≡ Answers bp
        → s.memory at ≡ bp
    by first (Some value) there same = is_at.part at bp (let e : value ≡ bp = cc in there ∙ ap Some e)
    by true None there same = cc
    by false None there same = cc

restored_is : (first : Bool) (s : State) (registers : UnwindRegsX86_64) (words : Words) → IsAt s registers words → (bytes offset : ℕ) (frame : StackFrame)
    → restored_frame first registers words bytes (pos 8 *ℤ pos offset) ≡ Answers frame → IsRestored s registers bytes offset frame
restored_is first s registers words is_at bytes offset frame is =
    let last : ℕ → ℕ → Outcome StackFrame = λ sp stored_at. and_then (stored_bp first registers words stored_at) (λ bp. Answers (sp, bp)) in
    let (sp, sp_is, more) = and_then-answers (address (pos (sp_of registers) +ℤ pos bytes)) (λ sp. and_then (address (pos (sp_of registers) +ℤ pos 8 *ℤ pos offset)) (last sp)) frame is in
    let (at, at_is, read) = and_then-answers (address (pos (sp_of registers) +ℤ pos 8 *ℤ pos offset)) (last sp) frame more in
    let (bp, bp_is, there) = and_then-answers (stored_bp first registers words at) (λ bp. Answers (sp, bp)) frame read in
    let same : (sp, bp) ≡ frame = cc in
    let high = above-answers (sp_of registers) bytes sp sp_is in
    let at_same : at ≡ sp_of registers + 8 * offset = omega (arith, ints, address-answers (pos (sp_of registers) +ℤ pos 8 *ℤ pos offset) at at_is) in
    let not_below : nat_lt at (sp_of registers) ≡ false = grind (arith, nat_tests) in
    record {
      frame_is = record {
        has_sp = sym (ap (λ (f : StackFrame). f.0) same) ∙ high;
        has_bp = sym (ap (λ (f : StackFrame). f.1) same) ∙ sym (found first s registers words is_at at bp not_below bp_is) ∙ ap s.memory at_same;
        fits = omega (arith, high, above-fits (sp_of registers) bytes sp sp_is);
      };
      in_reach = omega (arith, at_same, above-fits (sp_of registers) (8 * offset) at at_is);
    }

followed_is : (s : State) (registers : UnwindRegsX86_64) (words : Words) → IsAt s registers words → (frame : StackFrame) → by_frame_pointer registers words ≡ Answers frame
    → IsFrame frame (bp_of registers + 16) (s.memory (bp_of registers))
followed_is s registers words is_at frame is =
    let read : ℕ → Outcome StackFrame = λ sp. and_then (word words (bp_of registers)) (λ bp. Answers (sp, bp)) in
    let (sp, sp_is, more) = and_then-answers (address (pos (bp_of registers) +ℤ pos 16)) (λ sp. if nat_le sp (sp_of registers) then Refuses FramepointerUnwindingMovedBackwards else read sp) frame is in
    let (up, last) = past-refusal (nat_le sp (sp_of registers)) FramepointerUnwindingMovedBackwards (read sp) frame more in
    let (bp, bp_is, there) = and_then-answers (word words (bp_of registers)) (λ bp. Answers (sp, bp)) frame last in
    let same : (sp, bp) ≡ frame = cc in
    let high = above-answers (bp_of registers) 16 sp sp_is in
    record {
      has_sp = sym (ap (λ (f : StackFrame). f.0) same) ∙ high;
      has_bp = sym (ap (λ (f : StackFrame). f.1) same) ∙ sym (read_is s registers words is_at (bp_of registers) bp bp_is);
      fits = omega (arith, high, above-fits (bp_of registers) 16 sp sp_is);
    }

-- ---- what the machine has

record HasLeft (s : State) (left : Returned) (t : State) : Type 0 where
  pub sp : Holds s left.sp (machine.returned t).sp
  pub bp : Holds s left.fp t.bp
  pub to : Holds s left.return_address (t.memory t.sp)

has_left : (kept : ℕ → Bool) (s : State) (values : Values) (saved : List Saved) (t : State) → IsHeld kept s values saved t → IsTrue (kept t.sp) → HasLeft s (returned values saved) t
has_left kept s values saved t is is_kept = record {
  sp = moved_holds s values.sp t.sp (pos 8) is.both.sp;
  bp = is.both.bp;
  to = loaded_here kept s saved t.memory values.sp t.sp is.words is.both.sp is_kept;
}

returns_to : (s t : State) (registers : UnwindRegsX86_64) (words : Words) (caller : Caller UnwindRegsX86_64) (frame : StackFrame) (sp bp : ℕ) → IsAt s registers words
    → returned_caller registers words frame ≡ Answers caller → IsFrame frame sp bp → (machine.returned t).sp ≡ sp → t.bp ≡ bp
    → (8 ≤ sp → t.memory t.sp ≡ s.memory (sp - 8)) → HasReturned (machine.returned t) caller
returns_to s t registers words caller (frame_sp, frame_bp) sp bp is_at is frame_is sp_is bp_is to_is =
    let answered = caller_is s registers words frame_sp frame_bp caller is_at is in
    record {
      ip = answered.to ∙ ap (λ (n : ℕ). s.memory (n - 8)) frame_is.has_sp ∙ sym (to_is (omega (arith, answered.high, frame_is.has_sp)));
      sp = answered.has_sp ∙ frame_is.has_sp ∙ sym sp_is;
      bp = answered.has_bp ∙ frame_is.has_bp ∙ sym bp_is;
    }

-- the word below the stack pointer of the caller
below_raised : (s t : State) (registers : UnwindRegsX86_64) (bytes : ℕ) → s.sp ≡ sp_of registers → sp_of registers + bytes < 2 ^ 64
    → t.memory t.sp ≡ s.memory (moved s.sp (pos bytes -ℤ pos 8)) → 8 ≤ sp_of registers + bytes → t.memory t.sp ≡ s.memory (sp_of registers + bytes - 8)
below_raised s t registers bytes same fits is high =
    is ∙ ap s.memory (not_wrapped s.sp (sp_of registers + bytes - 8) (pos bytes -ℤ pos 8) (omega (arith, ints, same, high)) (omega arith))

raised_returns : (s t : State) (registers : UnwindRegsX86_64) (words : Words) (caller : Caller UnwindRegsX86_64) (bytes : ℕ) (frame : StackFrame) → IsAt s registers words → s.bp < 2 ^ 64
    → raised_frame registers bytes ≡ Answers frame → returned_caller registers words frame ≡ Answers caller → (machine.returned t).sp ≡ moved s.sp (pos bytes) → t.bp ≡ moved s.bp (pos 0)
    → t.memory t.sp ≡ s.memory (moved s.sp (pos bytes -ℤ pos 8)) → HasReturned (machine.returned t) caller
raised_returns s t registers words caller bytes frame is_at fits frame_is is sp_is bp_is to_is =
    let raised = raised_is registers bytes frame frame_is in
    returns_to s t registers words caller frame (sp_of registers + bytes) (bp_of registers) is_at is raised
    (sp_is ∙ not_wrapped s.sp (sp_of registers + bytes) (pos bytes) (omega (arith, ints, is_at.sp)) raised.fits) (bp_is ∙ stays s.bp fits ∙ is_at.bp)
    (below_raised s t registers bytes is_at.sp raised.fits to_is)

restored_returns : (first : Bool) (s t : State) (registers : UnwindRegsX86_64) (words : Words) (caller : Caller UnwindRegsX86_64) (bytes offset : ℕ) (frame : StackFrame) → IsAt s registers words
    → restored_frame first registers words bytes (pos 8 *ℤ pos offset) ≡ Answers frame → returned_caller registers words frame ≡ Answers caller → (machine.returned t).sp ≡ moved s.sp (pos bytes)
    → t.bp ≡ s.memory (moved s.sp (pos 8 *ℤ pos offset)) → t.memory t.sp ≡ s.memory (moved s.sp (pos bytes -ℤ pos 8)) → HasReturned (machine.returned t) caller
restored_returns first s t registers words caller bytes offset frame is_at frame_is is sp_is bp_is to_is =
    let restored = restored_is first s registers words is_at bytes offset frame frame_is in
    returns_to s t registers words caller frame (sp_of registers + bytes) (s.memory (sp_of registers + 8 * offset)) is_at is restored.frame_is
    (sp_is ∙ not_wrapped s.sp (sp_of registers + bytes) (pos bytes) (omega (arith, ints, is_at.sp)) restored.frame_is.fits)
    (bp_is ∙ ap s.memory (not_wrapped s.sp (sp_of registers + 8 * offset) (pos 8 *ℤ pos offset) (omega (arith, ints, is_at.sp)) restored.in_reach))
    (below_raised s t registers bytes is_at.sp restored.frame_is.fits to_is)

followed_returns : (s t : State) (registers : UnwindRegsX86_64) (words : Words) (caller : Caller UnwindRegsX86_64) (frame : StackFrame) → IsAt s registers words → s.bp < 2 ^ 64
    → by_frame_pointer registers words ≡ Answers frame → returned_caller registers words frame ≡ Answers caller → (machine.returned t).sp ≡ moved s.bp (pos 16)
    → t.bp ≡ s.memory (moved s.bp (pos 0)) → t.memory t.sp ≡ s.memory (moved s.bp (pos 8)) → HasReturned (machine.returned t) caller
followed_returns s t registers words caller frame is_at fits frame_is is sp_is bp_is to_is =
    let followed = followed_is s registers words is_at frame frame_is in
    returns_to s t registers words caller frame (bp_of registers + 16) (s.memory (bp_of registers)) is_at is followed
    (sp_is ∙ not_wrapped s.bp (bp_of registers + 16) (pos 16) (omega (arith, ints, is_at.bp)) followed.fits) (bp_is ∙ ap s.memory (stays s.bp fits ∙ is_at.bp))
    (λ high. to_is ∙ ap s.memory (not_wrapped s.bp (bp_of registers + 16 - 8) (pos 8) (omega (arith, ints, is_at.bp)) (omega (arith, followed.fits))))

-- ---- each rule

rule_returns : (first : Bool) (s t : State) (registers : UnwindRegsX86_64) (words : Words) (caller : Caller UnwindRegsX86_64) (left : Returned) (rule : UnwindRuleX86_64) (frame : StackFrame) → IsAt s registers words
    → s.sp < 2 ^ 64 → s.bp < 2 ^ 64 → HasFrameIfUsed rule s → HasLeft s left t → IsRuleOf left rule → moves rule first registers words ≡ Answers frame
    → returned_caller registers words frame ≡ Answers caller → HasReturned (machine.returned t) caller
rule_returns first s t registers words caller left JustReturn frame is_at sp_fits bp_fits used has is_rule frame_is is =
    let now = subst (λ (r : Returned). HasLeft s r t) is_rule has in
    raised_returns s t registers words caller 8 frame is_at bp_fits frame_is is now.sp now.bp now.to
rule_returns first s t registers words caller left (OffsetSp x) frame is_at sp_fits bp_fits used has is_rule frame_is is =
    let now = subst (λ (r : Returned). HasLeft s r t) is_rule has in
    raised_returns s t registers words caller (8 * x) frame is_at bp_fits frame_is is now.sp now.bp now.to
rule_returns first s t registers words caller left (OffsetSpAndRestoreBp x (pos y)) frame is_at sp_fits bp_fits used has is_rule frame_is is =
    let now = subst (λ (r : Returned). HasLeft s r t) is_rule.1 has in
    restored_returns first s t registers words caller (8 * x) y frame is_at frame_is is now.sp now.bp now.to
rule_returns first s t registers words caller left (OffsetSpAndRestoreBp x (negsuc y)) frame is_at sp_fits bp_fits used has is_rule frame_is is = absurd (omega (arith, ints, is_rule.0))
rule_returns first s t registers words caller left UseFramePointer frame is_at sp_fits bp_fits used has is_rule frame_is is =
    let now = subst (λ (r : Returned). HasLeft s r t) is_rule has in
    let (not_zero, there) = past-end (bp_of registers == 0) (by_frame_pointer registers words) frame frame_is in
    followed_returns s t registers words caller frame is_at bp_fits there is now.sp (now.bp used) (now.to used)
rule_returns first s t registers words caller left EndOfStack frame is_at sp_fits bp_fits used has is_rule frame_is is = absurd is_rule
rule_returns first s t registers words caller left JustReturnIfFirstFrameOtherwiseFp frame is_at sp_fits bp_fits used has is_rule frame_is is = absurd is_rule
rule_returns first s t registers words caller left (OffsetSpAndPopRegisters x count number) frame is_at sp_fits bp_fits used has is_rule frame_is is = absurd is_rule

-- now everything holds what it does
held_now : (kept : ℕ → Bool) (s : State) → s.sp < 2 ^ 64 → s.bp < 2 ^ 64 → IsHeld kept s values_now [] s
held_now kept s sp_fits bp_fits = record { both = record { sp = sym (stays s.sp sp_fits); bp = sym (stays s.bp bp_fits) }; words = words_now kept s }

-- a rule of a way pops no list of registers
meaning_is : (first : Bool) (left : Returned) (rule : UnwindRuleX86_64) (registers : UnwindRegsX86_64) (words : Words) → IsRuleOf left rule
    → rule_meaning rule first registers words ≡ and_then (moves rule first registers words) (returned_caller registers words)
meaning_is first left JustReturn registers words is_rule = refl
meaning_is first left (OffsetSp x) registers words is_rule = refl
meaning_is first left (OffsetSpAndRestoreBp x y) registers words is_rule = refl
meaning_is first left UseFramePointer registers words is_rule = refl
meaning_is first left EndOfStack registers words is_rule = absurd is_rule
meaning_is first left JustReturnIfFirstFrameOtherwiseFp registers words is_rule = absurd is_rule
meaning_is first left (OffsetSpAndPopRegisters x count number) registers words is_rule = absurd is_rule

pub way_returns : (first : Bool) (way : List Executed) (rule : UnwindRuleX86_64) → IsRuleOfWay way rule → WayReturns first way rule
way_returns first way rule (held, held_is, is_rule) kept s t sp_fits bp_fits used run is_kept registers words caller is_at is =
    let end = has_run kept s way values_now [] s t held (held_now kept s sp_fits bp_fits) run held_is in
    let left = has_left kept s held.0 held.1 t end is_kept in
    let meaning : and_then (moves rule first registers words) (returned_caller registers words) ≡ Answers caller = sym (meaning_is first (returned held.0 held.1) rule registers words is_rule) ∙ is in
    let (frame, frame_is, more) = and_then-answers (moves rule first registers words) (returned_caller registers words) caller meaning in
    rule_returns first s t registers words caller (returned held.0 held.1) rule frame is_at sp_fits bp_fits used left is_rule frame_is more
