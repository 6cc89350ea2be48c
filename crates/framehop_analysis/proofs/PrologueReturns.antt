-- The rule of a prologue, and the machine that ran it.
use Rattle.std.proofs.Common.{◌≡◌, ◌∙◌, ℕ, ◌+◌, ◌*◌, ◌<◌, ◌≤◌, ◌^◌, refl, sym, ap, subst, arith, Bool, true, false, List, [], ◌∷◌, length, Some, None}
use Rattle.std.specs.List.{AllByRecursion}
use Rattle.std.specs.Prelude.{◌==◌, nat_lt, if◌then◌else◌}
use Rattle.std.proofs.lemmas.Bool.Decides.{nat_tests}
use Rattle.framehop_registers.specs.Callback.{Words}
use Rattle.framehop_registers.specs.Registers.{sp_of, bp_of}
use Rattle.framehop_registers.specs.declared.x86_64.unwindregs.UnwindRegsX86_64.{UnwindRegsX86_64}
use Rattle.framehop_rules.specs.Outcome.{Answers, Caller}
use Rattle.framehop_rules.specs.RuleMeaning.{StackFrame, by_frame_pointer, moves, rule_meaning, returned_caller}
use Rattle.framehop_rules.specs.declared.x86_64.unwind_rule.UnwindRuleX86_64.{UnwindRuleX86_64}
use Rattle.framehop_rules.specs.declared.x86_64.unwind_rule.UnwindRuleX86_64.TheVariants.{OffsetSp, UseFramePointer}
use Rattle.framehop_rules.proofs.Laws.{and_then-answers, past-end}
use Rattle.framehop_analysis.specs.Instructions.{NoRex, Instruction, Push, Pop, SetFramePointer, Return, Jump, register_number}
use Rattle.framehop_analysis.specs.Machine.{State, register, lower, updated, effect, state_after, returned}
use Rattle.framehop_analysis.specs.Prologue.{IsPush, prologue, prologue_rule, IsPrologue}
use Rattle.framehop_analysis.specs.Returns.{IsAt, HasReturned, HasRoom, pushed_words}
use Rattle.framehop_analysis.proofs.RuleMeanings.{IsFrame, raised_is, followed_is, caller_is}

-- pushes lower the stack pointer, and leave the words from it on
record HasPushed (s after : State) (words : ℕ) : Type 0 where
  pub lowered : after.sp + 8 * words ≡ s.sp
  pub kept : (at : ℕ) → s.sp ≤ at → after.memory at ≡ s.memory at
  pub same_bp : after.bp ≡ s.bp

lower_is : (sp : ℕ) → 8 ≤ sp → sp < 2 ^ 64 → lower sp + 8 ≡ sp
lower_is sp room fits = omega arith

elsewhere : (map : ℕ → ℕ) (at written value : ℕ) → written < at → updated map written value at ≡ map at
elsewhere map at written value below =
    let test : (at == written) ≡ false = grind (arith, nat_tests) in ap (λ t. if t then value else map at) test

there : (map : ℕ → ℕ) (written value : ℕ) → updated map written value written ≡ value
there map written value =
    let test : (written == written) ≡ true = grind (arith, nat_tests) in ap (λ t. if t then value else map written) test

pushed : (list : List Instruction) (s : State) → AllByRecursion IsPush list → s.sp < 2 ^ 64 → 8 * length list ≤ s.sp → HasPushed s (state_after list s) (length list)
pushed [] s all fits room = record { lowered = omega arith; kept = λ at above. refl; same_bp = refl }
pushed (Push p low ∷ more) s all fits room =
    let s1 : State = effect (Push p low) s in
    let down : s1.sp + 8 ≡ s.sp = lower_is s.sp (omega arith) fits in
    let next = pushed more s1 all.1 (omega (arith, down)) (omega (arith, down)) in
    record {
      lowered = omega (arith, down, next.lowered);
      kept = λ at above. next.kept at (omega (arith, down, above)) ∙ elsewhere s.memory at (lower s.sp) (register s (register_number p low)) (omega (arith, down, above));
      same_bp = next.same_bp;
    }
pushed (Pop p low ∷ more) s all fits room = absurd all.0
pushed (SetFramePointer ∷ more) s all fits room = absurd all.0
pushed (Return ∷ more) s all fits room = absurd all.0
pushed (Jump first ∷ more) s all fits room = absurd all.0

-- what a rule answers that moves to the frame before the call
after_return : (before present : State) (registers : UnwindRegsX86_64) (words : Words) (caller : Caller UnwindRegsX86_64) (frame : StackFrame) (sp bp : ℕ)
    → IsAt present registers words → IsFrame frame sp bp → sp ≡ before.sp + 8 → bp ≡ before.bp → present.memory before.sp ≡ before.memory before.sp
    → returned_caller registers words frame ≡ Answers caller → HasReturned (returned before) caller
after_return before present registers words caller (frame_sp, frame_bp) sp bp is_at frame is_sp is_bp kept is =
    let answered = caller_is present registers words frame_sp frame_bp caller is_at is in
    record {
      ip = answered.to ∙ ap present.memory (omega (arith, frame.has_sp, is_sp)) ∙ kept;
      sp = answered.has_sp ∙ omega (arith, frame.has_sp, is_sp, frame.fits);
      bp = answered.has_bp ∙ frame.has_bp ∙ is_bp;
    }

-- how many words they push
abbrev words_of : Bool → List Instruction → ℕ
words_of true pushes = length pushes + 1
words_of false pushes = length pushes

prologue_returns : (has_setup : Bool) (pushes : List Instruction) (rule : UnwindRuleX86_64) (before : State) (registers : UnwindRegsX86_64) (words : Words) (caller : Caller UnwindRegsX86_64)
    → AllByRecursion IsPush pushes → prologue_rule has_setup pushes ≡ Some rule → before.sp < 2 ^ 64 → 8 * words_of has_setup pushes ≤ before.sp
    → IsAt (state_after (prologue has_setup pushes) before) registers words → rule_meaning rule true registers words ≡ Answers caller → HasReturned (returned before) caller
prologue_returns true pushes rule before registers words caller all is_rule fits room is_at is =
    let same : UseFramePointer ≡ rule = cc in
    let meaning : rule_meaning UseFramePointer true registers words ≡ Answers caller = subst (λ (r : UnwindRuleX86_64). rule_meaning r true registers words ≡ Answers caller) (sym same) is in
    let present : State = state_after (prologue true pushes) before in
    let s1 : State = effect (Push NoRex 5) before in
    let s2 : State = effect SetFramePointer s1 in
    let down : s1.sp + 8 ≡ before.sp = lower_is before.sp (omega arith) fits in
    let next = pushed pushes s2 all (omega (arith, down)) (omega (arith, down)) in
    let (frame, frame_is, more) = and_then-answers (moves UseFramePointer true registers words) (returned_caller registers words) caller meaning in
    let (not_null, last) = past-end (bp_of registers == 0) (by_frame_pointer registers words) frame frame_is in
    let followed = followed_is present registers words is_at frame last in
    let at_frame : bp_of registers ≡ s1.sp = sym is_at.bp ∙ next.same_bp in
    after_return before present registers words caller frame (bp_of registers + 16) (present.memory (bp_of registers)) is_at followed
    (omega (arith, at_frame, down))
    (ap present.memory at_frame ∙ next.kept s1.sp (omega arith) ∙ there before.memory (lower before.sp) before.bp)
    (next.kept before.sp (omega (arith, down)) ∙ elsewhere before.memory before.sp (lower before.sp) before.bp (omega (arith, down)))
    more
prologue_returns false pushes rule before registers words caller all is_rule fits room is_at is =
    let same : rule ≡ OffsetSp (length pushes + 1) = by (nat_lt (length pushes + 1) (2 ^ 16)) is_rule in
    let meaning : rule_meaning (OffsetSp (length pushes + 1)) true registers words ≡ Answers caller = subst (λ (r : UnwindRuleX86_64). rule_meaning r true registers words ≡ Answers caller) same is in
    let present : State = state_after (prologue false pushes) before in
    let next = pushed pushes before all fits room in
    let (frame, frame_is, more) = and_then-answers (moves (OffsetSp (length pushes + 1)) true registers words) (returned_caller registers words) caller meaning in
    after_return before present registers words caller frame (sp_of registers + 8 * (length pushes + 1)) (bp_of registers) is_at
    (raised_is registers (8 * (length pushes + 1)) frame frame_is)
    (omega (arith, is_at.sp, next.lowered))
    (sym is_at.bp ∙ next.same_bp)
    (next.kept before.sp (omega arith))
    more
  where
    by : (test : Bool) → (if test then Some (OffsetSp (length pushes + 1)) else None) ≡ Some rule → rule ≡ OffsetSp (length pushes + 1)
    by true e = cc
    by false e = cc

counted : (pushes : List Instruction) → AllByRecursion IsPush pushes → pushed_words pushes ≡ length pushes
counted [] all = refl
counted (Push rex low ∷ more) all = omega (arith, counted more all.1)
counted (Pop rex low ∷ more) all = absurd all.0
counted (SetFramePointer ∷ more) all = absurd all.0
counted (Return ∷ more) all = absurd all.0
counted (Jump first ∷ more) all = absurd all.0

pub recognised_returns : (text : List ℕ) (offset : ℕ) (has_setup : Bool) (pushes : List Instruction) (rule : UnwindRuleX86_64) → IsPrologue text offset has_setup pushes → prologue_rule has_setup pushes ≡ Some rule
    → (before : State) → HasRoom before (prologue has_setup pushes) → (registers : UnwindRegsX86_64) (words : Words) (caller : Caller UnwindRegsX86_64)
    → IsAt (state_after (prologue has_setup pushes) before) registers words → rule_meaning rule true registers words ≡ Answers caller → HasReturned (returned before) caller
recognised_returns text offset true pushes rule stands is_rule before room registers words caller is_at is =
    prologue_returns true pushes rule before registers words caller stands.run.all is_rule room.fits (omega (arith, room.room, counted pushes stands.run.all)) is_at is
recognised_returns text offset false pushes rule stands is_rule before room registers words caller is_at is =
    prologue_returns false pushes rule before registers words caller stands.run.all is_rule room.fits (omega (arith, room.room, counted pushes stands.run.all)) is_at is
