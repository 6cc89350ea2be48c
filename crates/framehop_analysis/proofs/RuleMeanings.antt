-- What rules answer on the state of the machine.
use Rattle.std.proofs.Common.{◌≡◌, ◌∙◌, ℕ, ◌+◌, ◌-◌, ◌*◌, ◌<◌, ◌≤◌, ◌^◌, refl, sym, ap, arith, true, false, Option, Some, None}
use Rattle.std.specs.Prelude.{pos, ◌+ℤ◌, ◌-ℤ◌, ◌*ℤ◌, ◌==◌, ◌&&◌, nat_lt, nat_le, if◌then◌else◌, slice_set}
use Rattle.std.proofs.lemmas.Bool.Decides.{nat_tests}
use Rattle.std.proofs.lemmas.Int.{ints}
use Rattle.std.proofs.lemmas.List.{get_or-set_same, get_or-set_other, length-set}
use Rattle.framehop_registers.specs.Callback.{Words}
use Rattle.framehop_registers.specs.Registers.{sp_of, bp_of, ip_of}
use Rattle.framehop_registers.specs.declared.error.Error.TheVariants.{CouldNotReadStack, DidNotAdvance, FramepointerUnwindingMovedBackwards}
use Rattle.framehop_registers.specs.declared.x86_64.unwindregs.UnwindRegsX86_64.{UnwindRegsX86_64}
use Rattle.framehop_rules.specs.Outcome.{Outcome, Ends, Refuses, Answers, Caller, and_then, address, word}
use Rattle.framehop_rules.specs.RuleMeaning.{StackFrame, raised_frame, by_frame_pointer, stored_bp, restored_frame, return_address, caller_registers, returned_caller}
use Rattle.framehop_rules.proofs.Laws.{address-answers, word-answers, and_then-answers, above-answers, above, past-refusal, past-end}
use Rattle.framehop_analysis.specs.Machine.{State}
use Rattle.framehop_analysis.specs.Returns.{IsAt}

-- ---- parts of a rule

-- a word that was read is the memory's
read_is : (state : State) (registers : UnwindRegsX86_64) (words : Words) → IsAt state registers words → (at value : ℕ) → word words at ≡ Answers value → state.memory at ≡ value
read_is state registers words is_at at value is = is_at.part at value (word-answers words at value is)

-- ---- what a rule ends with

pub record IsCaller (state : State) (sp bp : ℕ) (caller : Caller UnwindRegsX86_64) : Type 0 where
  pub to : caller.return_address ≡ state.memory (sp - 8)
  pub has_sp : sp_of caller.registers ≡ sp
  pub has_bp : bp_of caller.registers ≡ bp
  pub fits : 8 ≤ sp

below_is : (sp at : ℕ) → address (pos sp -ℤ pos 8) ≡ Answers at → (8 ≤ sp) × (at ≡ sp - 8)
below_is sp at is = let e = address-answers (pos sp -ℤ pos 8) at is in (omega (arith, ints, e), omega (arith, ints, e))

pub caller_is : (state : State) (registers : UnwindRegsX86_64) (words : Words) (sp bp : ℕ) (caller : Caller UnwindRegsX86_64)
    → IsAt state registers words → returned_caller registers words (sp, bp) ≡ Answers caller → IsCaller state sp bp caller
caller_is state registers words sp bp caller is_at is =
    let made : ℕ → Outcome (Caller UnwindRegsX86_64) = λ to. Answers (record { return_address = to; registers = caller_registers registers to sp bp }) in
    let (to, to_is, there) = and_then-answers (return_address registers words sp) made caller is in
    let checked : ℕ → Outcome ℕ = λ to. if to == 0 then Ends else if (sp == sp_of registers) && (to == ip_of registers) then Refuses DidNotAdvance else Answers to in
    let (at, at_is, more) = and_then-answers (address (pos sp -ℤ pos 8)) (λ at. and_then (word words at) checked) to to_is in
    let (value, value_is, tests) = and_then-answers (word words at) checked to more in
    let (not_null, last) = past-end (value == 0) (if (sp == sp_of registers) && (value == ip_of registers) then Refuses DidNotAdvance else Answers value) to tests in
    let (moved, same) = past-refusal ((sp == sp_of registers) && (value == ip_of registers)) DidNotAdvance (Answers value) to last in
    let is_to : value ≡ to = cc in
    let (high, bp_offset) = below_is sp at at_is in
    let kept : record { return_address = to; registers = caller_registers registers to sp bp } ≡ caller = cc in
    let size = length-set registers.regs 7 sp in
    let new_sp = get_or-set_other (slice_set registers.regs 7 sp) 6 7 bp 0 (λ e. absurd (omega (arith, e))) ∙ get_or-set_same registers.regs 7 sp 0 (omega (arith, is_at.all)) in
    let new_bp = get_or-set_same (slice_set registers.regs 7 sp) 6 bp 0 (omega (arith, size, is_at.all)) in
    record {
      to = sym (ap (λ (c : Caller UnwindRegsX86_64). c.return_address) kept) ∙ sym is_to ∙ sym (read_is state registers words is_at at value value_is) ∙ ap state.memory bp_offset;
      has_sp = sym (ap (λ (c : Caller UnwindRegsX86_64). sp_of c.registers) kept) ∙ new_sp;
      has_bp = sym (ap (λ (c : Caller UnwindRegsX86_64). bp_of c.registers) kept) ∙ new_bp;
      fits = high;
    }

-- ---- the stack pointer and the frame pointer

pub record IsFrame (frame : StackFrame) (sp bp : ℕ) : Type 0 where
  pub has_sp : frame.0 ≡ sp
  pub has_bp : frame.1 ≡ bp
  pub fits : sp < 2 ^ 64

pub raised_is : (registers : UnwindRegsX86_64) (bytes : ℕ) (frame : StackFrame) → raised_frame registers bytes ≡ Answers frame → IsFrame frame (sp_of registers + bytes) (bp_of registers)
raised_is registers bytes frame is =
    let (sp, sp_is, there) = and_then-answers (address (pos (sp_of registers) +ℤ pos bytes)) (λ sp. Answers (sp, bp_of registers)) frame is in
    let same : (sp, bp_of registers) ≡ frame = cc in
    let high = above-answers (sp_of registers) bytes sp sp_is in
    record {
      has_sp = sym (ap (λ (f : StackFrame). f.0) same) ∙ high;
      has_bp = sym (ap (λ (f : StackFrame). f.1) same);
      fits = omega (arith, high, (above (sp_of registers) bytes sp sp refl sp_is).fits);
    }

-- in a first frame too, since the word isn't below the stack pointer
pub restored_is : (state : State) (registers : UnwindRegsX86_64) (words : Words) → IsAt state registers words → (bytes bp_offset : ℕ) (frame : StackFrame)
    → restored_frame true registers words bytes (pos 8 *ℤ pos bp_offset) ≡ Answers frame → IsFrame frame (sp_of registers + bytes) (state.memory (sp_of registers + 8 * bp_offset))
restored_is state registers words is_at bytes bp_offset frame is =
    let last : ℕ → ℕ → Outcome StackFrame = λ sp stored_at. and_then (stored_bp true registers words stored_at) (λ bp. Answers (sp, bp)) in
    let (sp, sp_is, more) = and_then-answers (address (pos (sp_of registers) +ℤ pos bytes)) (λ sp. and_then (address (pos (sp_of registers) +ℤ pos 8 *ℤ pos bp_offset)) (last sp)) frame is in
    let (at, at_is, read) = and_then-answers (address (pos (sp_of registers) +ℤ pos 8 *ℤ pos bp_offset)) (last sp) frame more in
    let (bp, bp_is, there) = and_then-answers (stored_bp true registers words at) (λ bp. Answers (sp, bp)) frame read in
    let same : (sp, bp) ≡ frame = cc in
    let high = above-answers (sp_of registers) bytes sp sp_is in
    let at_same : at ≡ sp_of registers + 8 * bp_offset = omega (arith, ints, address-answers (pos (sp_of registers) +ℤ pos 8 *ℤ pos bp_offset) at at_is) in
    let not_below : nat_lt at (sp_of registers) ≡ false = grind (arith, nat_tests) in
    record {
      has_sp = sym (ap (λ (f : StackFrame). f.0) same) ∙ high;
      has_bp = sym (ap (λ (f : StackFrame). f.1) same) ∙ sym (found at bp not_below bp_is) ∙ ap state.memory at_same;
      fits = omega (arith, high, (above (sp_of registers) bytes sp sp refl sp_is).fits);
    }
  where
    found : (at bp : ℕ) → nat_lt at (sp_of registers) ≡ false → stored_bp true registers words at ≡ Answers bp → state.memory at ≡ bp
    found at bp above is = by (words at) refl is
      where
        by : (word : Option ℕ) → words at ≡ word
            → (elim word as (λ _. Outcome ℕ) [ Some value ↦ Answers value | None ↦ if true && nat_lt at (sp_of registers) then Answers (bp_of registers) else Refuses (CouldNotReadStack at) ]) ≡ Answers bp → state.memory at ≡ bp
        by (Some value) there same = is_at.part at bp (let e : value ≡ bp = cc in there ∙ ap Some e)
        by None there same = cc

pub followed_is : (state : State) (registers : UnwindRegsX86_64) (words : Words) → IsAt state registers words → (frame : StackFrame)
    → by_frame_pointer registers words ≡ Answers frame → IsFrame frame (bp_of registers + 16) (state.memory (bp_of registers))
followed_is state registers words is_at frame is =
    let read : ℕ → Outcome StackFrame = λ sp. and_then (word words (bp_of registers)) (λ bp. Answers (sp, bp)) in
    let (sp, sp_is, more) = and_then-answers (address (pos (bp_of registers) +ℤ pos 16)) (λ sp. if nat_le sp (sp_of registers) then Refuses FramepointerUnwindingMovedBackwards else read sp) frame is in
    let (up, last) = past-refusal (nat_le sp (sp_of registers)) FramepointerUnwindingMovedBackwards (read sp) frame more in
    let (bp, bp_is, there) = and_then-answers (word words (bp_of registers)) (λ bp. Answers (sp, bp)) frame last in
    let same : (sp, bp) ≡ frame = cc in
    let high = above-answers (bp_of registers) 16 sp sp_is in
    record {
      has_sp = sym (ap (λ (f : StackFrame). f.0) same) ∙ high;
      has_bp = sym (ap (λ (f : StackFrame). f.1) same) ∙ sym (read_is state registers words is_at (bp_of registers) bp bp_is);
      fits = omega (arith, high, (above (bp_of registers) 16 sp sp refl sp_is).fits);
    }
