-- On x86_64 no answered rule lowers the stack pointer, and behind a call each raises it.
use Rattle.std.proofs.Common.{◌≡◌, ◌≢◌, ◌∙◌, ℕ, ◌+◌, ◌*◌, ◌⊎◌, inl, inr, List, [], ◌∷◌, ◌≤◌, ◌<◌, ◌^◌, ap, sym, refl, subst, arith, Bool, true, false}
use Rattle.std.specs.Prelude.{ℤ, pos, ◌+ℤ◌, ◌-ℤ◌, ◌*ℤ◌, ◌==◌, ◌&&◌, nat_le, if◌then◌else◌, slice_set}
use Rattle.std.proofs.lemmas.Bool.{leb-false}
use Rattle.std.proofs.lemmas.List.{get_or-set_same, get_or-set_other, length-set}
use Rattle.framehop_registers.specs.Callback.{Words}
use Rattle.framehop_rules.specs.Outcome.{Outcome, Ends, Refuses, Answers, Caller, and_then, address, word}
use Rattle.framehop_registers.specs.PopLists.{pop_list}
use Rattle.framehop_rules.specs.Pops.{raised_registers, registers_after_pop, registers_after_pops}
use Rattle.framehop_registers.specs.Registers.{HasAllRegisters, dwarf_number, with_register, ip_of, sp_of, bp_of}
use Rattle.framehop_rules.specs.RuleMeaning.{StackFrame, raised_frame, by_frame_pointer, stored_bp, restored_frame, registers_after_pops_of, moves, return_address, caller_registers, returned_caller, rule_meaning, word_below, IsAtReturn}
use Rattle.framehop_rules.specs.declared.x86_64.unwind_rule.UnwindRuleX86_64.{UnwindRuleX86_64}
use Rattle.framehop_rules.specs.declared.x86_64.unwind_rule.UnwindRuleX86_64.TheVariants.{EndOfStack, JustReturn, JustReturnIfFirstFrameOtherwiseFp, OffsetSp, OffsetSpAndRestoreBp, UseFramePointer, OffsetSpAndPopRegisters}
use Rattle.framehop_registers.specs.declared.x86_64.unwindregs.Reg.{Reg}
use Rattle.framehop_registers.specs.declared.x86_64.unwindregs.Reg.TheVariants.{RSP}
use Rattle.framehop_registers.specs.declared.x86_64.unwindregs.UnwindRegsX86_64.{UnwindRegsX86_64}
use Rattle.framehop_registers.specs.declared.error.Error.TheVariants.{FramepointerUnwindingMovedBackwards, DidNotAdvance}
use Rattle.framehop_rules.specs.Answered.{IsAddressFrom}
use Rattle.framehop_rules.proofs.Parts.{and_then-answers, and_then-assoc, above-answers, above, past-refusal, past-end, differ, equal, unequal}

-- ---- the stack pointer that a rule moves to

raised-to : (registers : UnwindRegsX86_64) (bytes : ℕ) (frame : StackFrame) → raised_frame registers bytes ≡ Answers frame → frame.0 ≡ sp_of registers + bytes
raised-to registers bytes frame is =
    let (sp, sp_is, there) = and_then-answers (address (pos (sp_of registers) +ℤ pos bytes)) (λ sp. Answers (sp, bp_of registers)) frame is in
    let same : (sp, bp_of registers) ≡ frame = cc in
    let high : sp ≡ frame.0 = ap (λ (f : StackFrame). f.0) same in
    omega (arith, above-answers (sp_of registers) bytes sp sp_is)

raised-above : (registers : UnwindRegsX86_64) (bytes : ℕ) (frame : StackFrame) → raised_frame registers bytes ≡ Answers frame → IsAddressFrom (sp_of registers) frame.0
raised-above registers bytes frame is =
    let (sp, sp_is, there) = and_then-answers (address (pos (sp_of registers) +ℤ pos bytes)) (λ sp. Answers (sp, bp_of registers)) frame is in
    let same : (sp, bp_of registers) ≡ frame = cc in
    above (sp_of registers) bytes sp frame.0 (ap (λ (f : StackFrame). f.0) same) sp_is

followed-above : (registers : UnwindRegsX86_64) (words : Words) (frame : StackFrame) → by_frame_pointer registers words ≡ Answers frame → IsAddressFrom (sp_of registers) frame.0
followed-above registers words frame is =
    let read : ℕ → Outcome StackFrame = λ sp. and_then (word words (bp_of registers)) (λ bp. Answers (sp, bp)) in
    let (sp, sp_is, more) = and_then-answers (address (pos (bp_of registers) +ℤ pos 16)) (λ sp. if nat_le sp (sp_of registers) then Refuses FramepointerUnwindingMovedBackwards else read sp) frame is in
    let (up, last) = past-refusal (nat_le sp (sp_of registers)) FramepointerUnwindingMovedBackwards (read sp) frame more in
    let (bp, bp_is, there) = and_then-answers (word words (bp_of registers)) (λ bp. Answers (sp, bp)) frame last in
    let same : (sp, bp) ≡ frame = cc in
    let high : sp ≡ frame.0 = ap (λ (f : StackFrame). f.0) same in
    let placed = above (bp_of registers) 16 sp frame.0 high sp_is in
    record { not_below = omega (arith, leb-false sp (sp_of registers) up); fits = placed.fits }

restored-above : (is_first : Bool) (registers : UnwindRegsX86_64) (words : Words) (bytes : ℕ) (offset : ℤ) (frame : StackFrame)
    → restored_frame is_first registers words bytes offset ≡ Answers frame → IsAddressFrom (sp_of registers) frame.0
restored-above is_first registers words bytes offset frame is =
    let last : ℕ → ℕ → Outcome StackFrame = λ sp at. and_then (stored_bp is_first registers words at) (λ bp. Answers (sp, bp)) in
    let (sp, sp_is, more) = and_then-answers (address (pos (sp_of registers) +ℤ pos bytes)) (λ sp. and_then (address (pos (sp_of registers) +ℤ offset)) (last sp)) frame is in
    let (at, at_is, read) = and_then-answers (address (pos (sp_of registers) +ℤ offset)) (last sp) frame more in
    let (bp, bp_is, there) = and_then-answers (stored_bp is_first registers words at) (λ bp. Answers (sp, bp)) frame read in
    let same : (sp, bp) ≡ frame = cc in
    let high : sp ≡ frame.0 = ap (λ (f : StackFrame). f.0) same in
    above (sp_of registers) bytes sp frame.0 high sp_is

moved-above : (rule : UnwindRuleX86_64) (is_first : Bool) (registers : UnwindRegsX86_64) (words : Words) (frame : StackFrame)
    → moves rule is_first registers words ≡ Answers frame → IsAddressFrom (sp_of registers) frame.0
moved-above EndOfStack is_first registers words frame is = cc
moved-above JustReturn is_first registers words frame is = raised-above registers 8 frame is
moved-above JustReturnIfFirstFrameOtherwiseFp true registers words frame is = raised-above registers 8 frame is
moved-above JustReturnIfFirstFrameOtherwiseFp false registers words frame is = followed-above registers words frame is
moved-above (OffsetSp x) is_first registers words frame is = raised-above registers (8 * x) frame is
moved-above (OffsetSpAndRestoreBp x y) is_first registers words frame is = restored-above is_first registers words (8 * x) (pos 8 *ℤ y) frame is
moved-above UseFramePointer is_first registers words frame is =
    followed-above registers words frame (past-end (bp_of registers == 0) (by_frame_pointer registers words) frame is).1
moved-above (OffsetSpAndPopRegisters x count number) is_first registers words frame is = raised-above registers 8 frame is

-- ---- the registers that a rule pops

-- what pops leave of the registers before them
record IsAbove (before after : UnwindRegsX86_64) : Type 0 where
  pub above : sp_of before ≤ sp_of after
  pub all : HasAllRegisters after

above-trans : (a b c : UnwindRegsX86_64) → IsAbove a b → IsAbove b c → IsAbove a c
above-trans a b c first second = record { above = omega (arith, first.above, second.above); all = second.all }

raised-is-above : (registers popped : UnwindRegsX86_64) (bytes : ℕ) → HasAllRegisters registers → raised_registers registers bytes ≡ Answers popped → IsAbove registers popped
raised-is-above registers popped bytes all is =
    let (sp, sp_is, there) = and_then-answers (address (pos (sp_of registers) +ℤ pos bytes)) (λ sp. Answers (with_register registers RSP sp)) popped is in
    let same : with_register registers RSP sp ≡ popped = cc in
    let high = get_or-set_same registers.regs 7 sp 0 (omega (arith, all)) in
    subst (IsAbove registers) same (record {
      above = omega (arith, high, above-answers (sp_of registers) bytes sp sp_is);
      all = length-set registers.regs 7 sp ∙ all;
    })

popped-is-above : (register : Reg) (registers popped_ : UnwindRegsX86_64) (words : Words) → HasAllRegisters registers → registers_after_pop register registers words ≡ Answers popped_ → IsAbove registers popped_
popped-is-above register registers popped_ words all is =
    let put : ℕ → ℕ → Outcome UnwindRegsX86_64 = λ value sp. Answers (with_register (with_register registers register value) RSP sp) in
    let (value, value_is, more) = and_then-answers (word words (sp_of registers)) (λ value. and_then (address (pos (sp_of registers) +ℤ pos 8)) (put value)) popped_ is in
    let (sp, sp_is, there) = and_then-answers (address (pos (sp_of registers) +ℤ pos 8)) (put value) popped_ more in
    let same : with_register (with_register registers register value) RSP sp ≡ popped_ = cc in
    let size = length-set registers.regs (dwarf_number register) value in
    let high = get_or-set_same (slice_set registers.regs (dwarf_number register) value) 7 sp 0 (omega (arith, size, all)) in
    subst (IsAbove registers) same (record {
      above = omega (arith, high, above-answers (sp_of registers) 8 sp sp_is);
      all = length-set (slice_set registers.regs (dwarf_number register) value) 7 sp ∙ size ∙ all;
    })

all-popped-is-above : (list : List Reg) (registers popped_ : UnwindRegsX86_64) (words : Words) → HasAllRegisters registers → registers_after_pops list registers words ≡ Answers popped_ → IsAbove registers popped_
all-popped-is-above [] registers popped_ words all is =
    let same : registers ≡ popped_ = cc in
    subst (IsAbove registers) same (record { above = omega arith; all = all })
all-popped-is-above (register ∷ more) registers popped_ words all is =
    let (next, next_is, rest) = and_then-answers (registers_after_pop register registers words) (λ next. registers_after_pops more next words) popped_ is in
    let one = popped-is-above register registers next words all next_is in
    above-trans registers next popped_ one (all-popped-is-above more next popped_ words one.all rest)

popped-by-is-above : (rule : UnwindRuleX86_64) (registers popped_ : UnwindRegsX86_64) (words : Words) → HasAllRegisters registers → registers_after_pops_of rule registers words ≡ Answers popped_ → IsAbove registers popped_
popped-by-is-above (OffsetSpAndPopRegisters x count number) registers popped_ words all is =
    let (from, from_is, rest) = and_then-answers (raised_registers registers (8 * x)) (λ from. registers_after_pops (pop_list count number) from words) popped_ is in
    let first = raised-is-above registers from (8 * x) all from_is in
    above-trans registers from popped_ first (all-popped-is-above (pop_list count number) from popped_ words first.all rest)
popped-by-is-above rule registers popped_ words all is =
    let same : registers ≡ popped_ = cc in
    subst (IsAbove registers) same (record { above = omega arith; all = all })

-- a rule pops nothing, or moves by 8 once it has popped
abbrev Keeps : UnwindRuleX86_64 → Type 0
Keeps rule = (registers : UnwindRegsX86_64) (words : Words) → registers_after_pops_of rule registers words ≡ Answers registers

abbrev Returns : UnwindRuleX86_64 → Type 0
Returns rule = (is_first : Bool) (registers : UnwindRegsX86_64) (words : Words) → moves rule is_first registers words ≡ raised_frame registers 8

keeps-or-returns : (rule : UnwindRuleX86_64) → Keeps rule ⊎ Returns rule
keeps-or-returns (OffsetSpAndPopRegisters x count number) = inr (λ is_first registers words. refl)
keeps-or-returns rule = inl (λ registers words. refl)

-- ---- the caller's registers

-- the instruction pointer and the stack pointer, and all registers
record IsCaller (registers : UnwindRegsX86_64) (ip sp : ℕ) : Type 0 where
  pub ip_is : ip_of registers ≡ ip
  pub sp_is : sp_of registers ≡ sp
  pub all : HasAllRegisters registers

caller-is : (registers : UnwindRegsX86_64) (ip sp bp : ℕ) → HasAllRegisters registers → IsCaller (caller_registers registers ip sp bp) ip sp
caller-is registers ip sp bp all = record {
  ip_is = refl;
  sp_is = get_or-set_other (slice_set registers.regs 7 sp) 6 7 bp 0 (λ same. absurd (omega arith)) ∙ get_or-set_same registers.regs 7 sp 0 (omega (arith, all));
  all = length-set (slice_set registers.regs 7 sp) 6 bp ∙ length-set registers.regs 7 sp ∙ all;
}

-- what is done with the word below the caller's stack pointer
tested : UnwindRegsX86_64 → ℕ → ℕ → Outcome ℕ
tested registers sp to =
    if to == 0 then Ends else
    if (sp == sp_of registers) && (to == ip_of registers) then Refuses DidNotAdvance else
    Answers to

by-word : (registers : UnwindRegsX86_64) (words : Words) (sp : ℕ) → return_address registers words sp ≡ and_then (word_below words sp) (tested registers sp)
unfolding tested
by-word registers words sp = sym (and_then-assoc (address (pos sp -ℤ pos 8)) (word words) (tested registers sp))

-- what a return address that is answered is
record IsReturned (registers : UnwindRegsX86_64) (words : Words) (sp to : ℕ) : Type 0 where
  pub not_null : to ≢ 0
  pub returned_to : word_below words sp ≡ Answers to
  pub advances : ((sp == sp_of registers) && (to == ip_of registers)) ≡ false

is-returned : (registers : UnwindRegsX86_64) (words : Words) (sp to : ℕ) → return_address registers words sp ≡ Answers to → IsReturned registers words sp to
unfolding tested
is-returned registers words sp to is =
    let (found, found_is, passed) = and_then-answers (word_below words sp) (tested registers sp) to (sym (by-word registers words sp) ∙ is) in
    let last : Outcome ℕ = if (sp == sp_of registers) && (found == ip_of registers) then Refuses DidNotAdvance else Answers found in
    let not_zero = past-end (found == 0) last to passed in
    let goes = past-refusal ((sp == sp_of registers) && (found == ip_of registers)) DidNotAdvance (Answers found) to not_zero.1 in
    let same : found ≡ to = cc in
    record {
      not_null = differ to 0 (subst (λ (n : ℕ). (n == 0) ≡ false) same not_zero.0);
      returned_to = found_is ∙ ap Answers same;
      advances = subst (λ (n : ℕ). ((sp == sp_of registers) && (n == ip_of registers)) ≡ false) same goes.0;
    }

-- where a rule answers, the registers once it has popped, what it moved to, and the return address that it read
record IsAnswered (rule : UnwindRuleX86_64) (is_first : Bool) (registers : UnwindRegsX86_64) (words : Words) (caller : Caller UnwindRegsX86_64) : Type 0 where
  pub popped_ : UnwindRegsX86_64
  pub popped_is : registers_after_pops_of rule registers words ≡ Answers popped_
  pub popped_above : IsAbove registers popped_
  pub frame : StackFrame
  pub frame_is : moves rule is_first popped_ words ≡ Answers frame
  pub returned : IsReturned popped_ words frame.0 caller.return_address
  pub left : IsCaller caller.registers caller.return_address frame.0

is-above : {rule : UnwindRuleX86_64} {is_first : Bool} {registers : UnwindRegsX86_64} {words : Words} {caller : Caller UnwindRegsX86_64}
    → (a : IsAnswered rule is_first registers words caller) → sp_of registers ≤ a.frame.0
is-above {rule} {is_first} {registers} {words} a =
    let moved = moved-above rule is_first a.popped_ words a.frame a.frame_is in
    omega (arith, a.popped_above.above, moved.not_below)

is-answered : (rule : UnwindRuleX86_64) (is_first : Bool) (registers : UnwindRegsX86_64) (words : Words) (caller : Caller UnwindRegsX86_64)
    → HasAllRegisters registers → rule_meaning rule is_first registers words ≡ Answers caller → IsAnswered rule is_first registers words caller
is-answered rule is_first registers words caller all is =
    let (popped_, popped_is, rest) = and_then-answers (registers_after_pops_of rule registers words) (λ next. and_then (moves rule is_first next words) (returned_caller next words)) caller is in
    let (frame, frame_is, there) = and_then-answers (moves rule is_first popped_ words) (returned_caller popped_ words) caller rest in
    by popped_ popped_is (popped-by-is-above rule registers popped_ words all popped_is) frame frame_is there
  where
    by : (popped_ : UnwindRegsX86_64) → registers_after_pops_of rule registers words ≡ Answers popped_ → IsAbove registers popped_
        → (frame : StackFrame) → moves rule is_first popped_ words ≡ Answers frame
        → returned_caller popped_ words frame ≡ Answers caller → IsAnswered rule is_first registers words caller
    by popped_ popped_is above (sp, bp) frame_is there =
        let made : ℕ → Caller UnwindRegsX86_64 = λ to. record { return_address = to; registers = caller_registers popped_ to sp bp } in
        let (to, to_is, last) = and_then-answers (return_address popped_ words sp) (λ to. Answers (made to)) caller there in
        let same : made to ≡ caller = cc in
        let to_same : to ≡ caller.return_address = ap (λ (c : Caller UnwindRegsX86_64). c.return_address) same in
        let P : Caller UnwindRegsX86_64 → Type 0 = λ c. IsCaller c.registers c.return_address sp in
        record {
          popped_ = popped_;
          popped_is = popped_is;
          popped_above = above;
          frame = (sp, bp);
          frame_is = frame_is;
          returned = subst (IsReturned popped_ words sp) to_same (is-returned popped_ words sp to to_is);
          left = subst P same (caller-is popped_ to sp bp above.all);
        }

-- ---- the laws

module _ (rule : UnwindRuleX86_64) (is_first : Bool) (registers : UnwindRegsX86_64) (words : Words) (caller : Caller UnwindRegsX86_64)
    (all : HasAllRegisters registers) (is : rule_meaning rule is_first registers words ≡ Answers caller) where
  -- a caller isn't lower
  pub caller-above : sp_of registers ≤ sp_of caller.registers
  caller-above = let a = is-answered rule is_first registers words caller all is in omega (arith, is-above a, a.left.sp_is)

  -- its stack pointer has 64 bits
  pub caller-fits : sp_of caller.registers < 2 ^ 64
  caller-fits =
      let a = is-answered rule is_first registers words caller all is in
      let moved = moved-above rule is_first a.popped_ words a.frame a.frame_is in
      omega (arith, moved.fits, a.left.sp_is)

  -- all its registers are there
  pub caller-all : HasAllRegisters caller.registers
  caller-all = let a = is-answered rule is_first registers words caller all is in a.left.all

  -- it is behind a call
  pub caller-at_return : IsAtReturn caller.registers words
  caller-at_return =
      let a = is-answered rule is_first registers words caller all is in
      record {
        not_null = λ null. a.returned.not_null (sym a.left.ip_is ∙ null);
        returned_to = ap (word_below words) a.left.sp_is ∙ a.returned.returned_to ∙ ap Answers (sym a.left.ip_is);
      }

  -- and higher than one behind a call
  pub caller-higher : IsAtReturn registers words → sp_of registers < sp_of caller.registers
  caller-higher behind =
      let a = is-answered rule is_first registers words caller all is in
      let differs : a.frame.0 ≢ sp_of registers = λ same. no-loop a same in
      omega (arith, is-above a, a.left.sp_is)
    where
      loops : (a : IsAnswered rule is_first registers words caller) → a.popped_ ≡ registers → a.frame.0 ≡ sp_of registers → ⊥
      loops a kept same =
          let there : Answers caller.return_address ≡ Answers (ip_of registers) =
          sym a.returned.returned_to ∙ ap (word_below words) same ∙ behind.returned_to in
          let to_same : caller.return_address ≡ ip_of registers = cc in
          let sp_test : (a.frame.0 == sp_of registers) ≡ true = equal a.frame.0 (sp_of registers) same in
          let to_test : (caller.return_address == ip_of registers) ≡ true = equal caller.return_address (ip_of registers) to_same in
          let advances : ((a.frame.0 == sp_of registers) && (caller.return_address == ip_of registers)) ≡ false =
          subst (λ (r : UnwindRegsX86_64). ((a.frame.0 == sp_of r) && (caller.return_address == ip_of r)) ≡ false) kept a.returned.advances in
          let never : true ≡ false = rw (sp_test, to_test) at advances in
          cc

      no-loop : (a : IsAnswered rule is_first registers words caller) → a.frame.0 ≡ sp_of registers → ⊥
      no-loop a same = elim (keeps-or-returns rule) [
        | inl keeps ↦ (let e : Answers registers ≡ Answers a.popped_ = sym (keeps registers words) ∙ a.popped_is in let kept : a.popped_ ≡ registers = cc in loops a kept same)
        | inr returns ↦
            let up = raised-to a.popped_ 8 a.frame (sym (returns is_first a.popped_ words) ∙ a.frame_is) in
            omega (arith, up, same, a.popped_above.above)
      ]

-- behind a call a rule that leaves the stack pointer is refused
pub stays-refused : (rule : UnwindRuleX86_64) (is_first : Bool) (registers : UnwindRegsX86_64) (words : Words) (bp : ℕ)
    → IsAtReturn registers words → moves rule is_first registers words ≡ Answers (sp_of registers, bp)
    → rule_meaning rule is_first registers words ≡ Refuses DidNotAdvance
unfolding tested
stays-refused rule is_first registers words bp behind moved =
    let not_zero : (ip_of registers == 0) ≡ false = unequal (ip_of registers) 0 behind.not_null in
    let same_sp : (sp_of registers == sp_of registers) ≡ true = equal (sp_of registers) (sp_of registers) refl in
    let same_ip : (ip_of registers == ip_of registers) ≡ true = equal (ip_of registers) (ip_of registers) refl in
    let loops : tested registers (sp_of registers) (ip_of registers) ≡ Refuses DidNotAdvance = rw (not_zero, same_sp, same_ip) in
    let refused : return_address registers words (sp_of registers) ≡ Refuses DidNotAdvance =
    by-word registers words (sp_of registers) ∙ ap (λ (o : Outcome ℕ). and_then o (tested registers (sp_of registers))) behind.returned_to ∙ loops in
    elim (keeps-or-returns rule) [
      | inl keeps ↦ (
          ap (λ (o : Outcome UnwindRegsX86_64). and_then o (λ next. and_then (moves rule is_first next words) (returned_caller next words))) (keeps registers words)
          ∙ ap (λ (o : Outcome StackFrame). and_then o (returned_caller registers words)) moved
          ∙ ap (λ (o : Outcome ℕ). and_then o (λ to. answered to)) refused)
      | inr returns ↦ (let up = raised-to registers 8 (sp_of registers, bp) (sym (returns is_first registers words) ∙ moved) in absurd (omega (arith, up)))
    ]
  where
    answered : ℕ → Outcome (Caller UnwindRegsX86_64)
    answered to = Answers (record { return_address = to; registers = caller_registers registers to (sp_of registers) bp })
