-- The rule of an epilogue, and the machine that runs it.
use Rattle.std.proofs.Common.{◌≡◌, ◌≢◌, ◌∙◌, ℕ, ◌+◌, ◌-◌, ◌*◌, ◌<◌, ◌≤◌, ◌^◌, ◌⊎◌, inl, inr, refl, sym, ap, subst, arith, Bool, true, false, List, [], ◌∷◌, length, take, Option, Some, None}
use Rattle.std.specs.List.{AllByRecursion}
use Rattle.std.specs.Prelude.{pos, ◌==◌, nat_lt, if◌then◌else◌}
use Rattle.std.proofs.lemmas.Bool.Decides.{nat_tests, Decides-eqb}
use Rattle.framehop_registers.specs.Callback.{Words}
use Rattle.framehop_registers.specs.Registers.{sp_of, bp_of}
use Rattle.framehop_registers.specs.declared.x86_64.unwindregs.UnwindRegsX86_64.{UnwindRegsX86_64}
use Rattle.framehop_rules.specs.Outcome.{Answers, Caller, and_then}
use Rattle.framehop_rules.specs.RuleMeaning.{StackFrame, moves, rule_meaning, returned_caller}
use Rattle.framehop_rules.specs.declared.x86_64.unwind_rule.UnwindRuleX86_64.{UnwindRuleX86_64}
use Rattle.framehop_rules.specs.declared.x86_64.unwind_rule.UnwindRuleX86_64.TheVariants.{JustReturn, OffsetSp, OffsetSpAndRestoreBp}
use Rattle.framehop_rules.proofs.Laws.{and_then-answers}
use Rattle.framehop_analysis.specs.Instructions.{RexPrefix, NoRex, Rex, RexB, Instruction, Push, Pop, SetFramePointer, Return, Jump, Fits, is_plain_rbp_pop}
use Rattle.framehop_analysis.specs.Machine.{State, with_register, higher, updated, effect, state_after}
use Rattle.framehop_analysis.specs.Epilogue.{IsEpilogue, ends_like_pop, LeavesFunction, last_rbp_pop, one_further, rule_of_pops, epilogue_rule}
use Rattle.framehop_analysis.specs.Returns.{IsAt, HasReturned, IsReadAsExecuted}
use Rattle.framehop_analysis.proofs.RuleMeanings.{IsFrame, raised_is, restored_is, caller_is}

-- ---- one pop

-- another value of a register that isn't the stack pointer
put_is : (s : State) (number value : ℕ) → number ≢ 4 → with_register s number value ≡ (if number == 5 then record s { bp = value } else record s { others = updated s.others number value })
put_is s number value other =
    let test : (number == 4) ≡ false = grind (arith, nat_tests) in
    ap (λ t. if t then record s { sp = value } else if number == 5 then record s { bp = value } else record s { others = updated s.others number value }) test

pub record IsPopped (s after : State) (is_bp : Bool) : Type 0 where
  pub moved : after.sp ≡ s.sp + 8
  pub kept : after.memory ≡ s.memory
  pub taken : after.bp ≡ (if is_bp then s.memory s.sp else s.bp)

higher_is : (sp : ℕ) → sp + 8 < 2 ^ 64 → higher sp ≡ sp + 8
higher_is sp fits = omega arith

put_other : (s : State) (number : ℕ) (test : Bool) → number ≢ 4 → (number == 5) ≡ test → s.sp + 8 < 2 ^ 64
    → IsPopped s (with_register (record s { sp = higher s.sp }) number (s.memory s.sp)) test
put_other s number test other is fits =
    let s8 : State = record s { sp = higher s.sp } in
    let put : with_register s8 number (s.memory s.sp) ≡ (if test then record s8 { bp = s.memory s.sp } else record s8 { others = updated s.others number (s.memory s.sp) }) =
    put_is s8 number (s.memory s.sp) other ∙ ap (λ t. if t then record s8 { bp = s.memory s.sp } else record s8 { others = updated s.others number (s.memory s.sp) }) is in
    subst (λ (after : State). IsPopped s after test) (sym put) (by test)
  where
    by : (t : Bool) → IsPopped s (if t then record s { sp = higher s.sp; bp = s.memory s.sp } else record s { sp = higher s.sp; others = updated s.others number (s.memory s.sp) }) t
    by true = record { moved = higher_is s.sp fits; kept = refl; taken = refl }
    by false = record { moved = higher_is s.sp fits; kept = refl; taken = refl }

pop_is : (p : RexPrefix) (low : ℕ) (s : State) → low < 8 → IsReadAsExecuted (Pop p low) → s.sp + 8 < 2 ^ 64 → IsPopped s (effect (Pop p low) s) (is_plain_rbp_pop (Pop p low))
pop_is NoRex low s in_low as_executed fits = put_other s low (low == 5) as_executed refl fits
pop_is Rex low s in_low as_executed fits = put_other s low false as_executed.0 (let differs : low ≢ 5 = as_executed.1 in grind (arith, nat_tests)) fits
pop_is RexB low s in_low as_executed fits = put_other s (8 + low) false (λ e. absurd (omega (arith, e))) (grind (arith, nat_tests)) fits

-- ---- a whole epilogue

-- the frame pointer, popped last after so many others
abbrev bp_after : State → Option ℕ → ℕ
bp_after s None = s.bp
bp_after s (Some bp_offset) = s.memory (s.sp + 8 * bp_offset)

record HasLeft (s after : State) (list : List Instruction) : Type 0 where
  pub raised : after.sp ≡ s.sp + 8 * length list
  pub to : after.ip ≡ s.memory (s.sp + 8 * (length list - 1))
  pub restored : after.bp ≡ bp_after s (last_rbp_pop list)
  pub some : 1 ≤ length list

restored_more : (s s1 : State) (p : RexPrefix) (low : ℕ) → IsPopped s s1 (is_plain_rbp_pop (Pop p low)) → (bp_offset : Option ℕ) → bp_after s1 bp_offset ≡ bp_after s (one_further bp_offset (is_plain_rbp_pop (Pop p low)))
restored_more s s1 p low popped (Some bp_offset) =
    ap (λ (m : ℕ → ℕ). m (s1.sp + 8 * bp_offset)) popped.kept ∙ ap s.memory (omega (arith, popped.moved))
restored_more s s1 p low popped None = popped.taken ∙ by (is_plain_rbp_pop (Pop p low))
  where
    by : (test : Bool) → (if test then s.memory s.sp else s.bp) ≡ bp_after s (one_further None test)
    by true = ap s.memory (omega arith)
    by false = refl

left : (flag : Bool) (list : List Instruction) (s : State) → AllByRecursion Fits list → LeavesFunction flag list → AllByRecursion IsReadAsExecuted list
    → s.sp + 8 * length list < 2 ^ 64 → HasLeft s (state_after list s) list
left flag [] s fit leaves as_executed fits = absurd leaves
left flag (Return ∷ []) s fit leaves as_executed fits =
    record { raised = higher_is s.sp (omega arith) ∙ omega arith; to = ap s.memory (omega arith); restored = refl; some = omega arith }
left flag (Jump first ∷ []) s fit leaves as_executed fits =
    record { raised = higher_is s.sp (omega arith) ∙ omega arith; to = ap s.memory (omega arith); restored = refl; some = omega arith }
left flag (Pop p low ∷ more) s fit leaves as_executed fits =
    let s1 : State = effect (Pop p low) s in
    let popped = pop_is p low s fit.0 as_executed.0 (omega arith) in
    let room : s1.sp + 8 * length more < 2 ^ 64 = omega (arith, popped.moved) in
    let next = left true more s1 fit.1 leaves as_executed.1 room in
    record {
      raised = next.raised ∙ omega (arith, popped.moved);
      to = next.to ∙ ap (λ (m : ℕ → ℕ). m (s1.sp + 8 * (length more - 1))) popped.kept ∙ ap s.memory (omega (arith, popped.moved, next.some));
      restored = next.restored ∙ restored_more s s1 p low popped (last_rbp_pop more);
      some = omega arith;
    }
left flag (Push p low ∷ more) s fit leaves as_executed fits = absurd leaves
left flag (SetFramePointer ∷ more) s fit leaves as_executed fits = absurd leaves
left flag (Return ∷ next ∷ more) s fit leaves as_executed fits = absurd leaves
left flag (Jump first ∷ next ∷ more) s fit leaves as_executed fits = absurd leaves

-- ---- what the rule answers

record IsAnswer (state : State) (pops : ℕ) (bp_offset : Option ℕ) (caller : Caller UnwindRegsX86_64) : Type 0 where
  pub to : caller.return_address ≡ state.memory (state.sp + 8 * pops)
  pub has_sp : sp_of caller.registers ≡ state.sp + 8 * (pops + 1)
  pub has_bp : bp_of caller.registers ≡ bp_after state bp_offset
  pub fits : state.sp + 8 * (pops + 1) < 2 ^ 64

answer_by : (state : State) (registers : UnwindRegsX86_64) (words : Words) (caller : Caller UnwindRegsX86_64) (pops bp : ℕ) (bp_offset : Option ℕ) (frame : StackFrame)
    → IsAt state registers words → IsFrame frame (sp_of registers + 8 * (pops + 1)) bp → bp ≡ bp_after state bp_offset
    → returned_caller registers words frame ≡ Answers caller → IsAnswer state pops bp_offset caller
answer_by state registers words caller pops bp bp_offset (sp, fp) is_at frame same is =
    let answered = caller_is state registers words sp fp caller is_at is in
    record {
      to = answered.to ∙ ap state.memory (omega (arith, frame.has_sp, is_at.sp));
      has_sp = answered.has_sp ∙ omega (arith, frame.has_sp, is_at.sp);
      has_bp = answered.has_bp ∙ frame.has_bp ∙ same;
      fits = omega (arith, frame.fits, is_at.sp);
    }

abbrev IsRuleOfPops : ℕ → Option ℕ → UnwindRuleX86_64 → Type 0
IsRuleOfPops pops bp_offset rule =
    ((pops ≡ 0) × (rule ≡ JustReturn)) ⊎ (((bp_offset ≡ None) × (rule ≡ OffsetSp (pops + 1)))
    ⊎ ((y : ℕ) × (bp_offset ≡ Some y) × (rule ≡ OffsetSpAndRestoreBp (pops + 1) (pos y))))

rule_cases : (pops : ℕ) (bp_offset : Option ℕ) (rule : UnwindRuleX86_64) → rule_of_pops pops bp_offset ≡ Some rule → IsRuleOfPops pops bp_offset rule
rule_cases pops bp_offset rule is = by (pops == 0) (nat_lt (pops + 1) (2 ^ 16)) bp_offset refl refl is
  where
    some : (a b : UnwindRuleX86_64) → Some a ≡ Some b → b ≡ a
    some a b e = cc

    small : (y : ℕ) (test : Bool) → (if test then Some (OffsetSpAndRestoreBp (pops + 1) (pos y)) else None) ≡ Some rule → rule ≡ OffsetSpAndRestoreBp (pops + 1) (pos y)
    small y true is = some (OffsetSpAndRestoreBp (pops + 1) (pos y)) rule is
    small y false is = cc

    by : (first fits : Bool) (p : Option ℕ) → (pops == 0) ≡ first → bp_offset ≡ p
        → (if first then Some JustReturn else if fits then (elim p as (λ _. Option UnwindRuleX86_64) [ None ↦ Some (OffsetSp (pops + 1)) | Some y ↦ if nat_lt y (2 ^ 15) then Some (OffsetSpAndRestoreBp (pops + 1) (pos y)) else None ]) else None) ≡ Some rule
        → IsRuleOfPops pops bp_offset rule
    by true fits p zero_is offset_is is = inl ((Decides-eqb pops 0).0 zero_is, some JustReturn rule is)
    by false true None zero_is offset_is is = inr (inl (offset_is, some (OffsetSp (pops + 1)) rule is))
    by false true (Some y) zero_is offset_is is = inr (inr (y, offset_is, small y (nat_lt y (2 ^ 15)) is))
    by false false p zero_is offset_is is = cc

answers : (state : State) (registers : UnwindRegsX86_64) (words : Words) (caller : Caller UnwindRegsX86_64) (pops : ℕ) (bp_offset : Option ℕ) (rule : UnwindRuleX86_64)
    → IsAt state registers words → (pops ≡ 0 → bp_offset ≡ None) → IsRuleOfPops pops bp_offset rule
    → rule_meaning rule true registers words ≡ Answers caller → IsAnswer state pops bp_offset caller
answers state registers words caller pops bp_offset rule is_at none (inl (no_pops, is_rule)) is =
    let meaning : and_then (moves JustReturn true registers words) (returned_caller registers words) ≡ Answers caller =
    subst (λ (r : UnwindRuleX86_64). rule_meaning r true registers words ≡ Answers caller) is_rule is in
    let (frame, frame_is, there) = and_then-answers (moves JustReturn true registers words) (returned_caller registers words) caller meaning in
    let raised = raised_is registers 8 frame frame_is in
    answer_by state registers words caller pops (bp_of registers) bp_offset frame is_at
    (record { has_sp = raised.has_sp ∙ omega (arith, no_pops); has_bp = raised.has_bp; fits = omega (arith, raised.fits, no_pops) })
    (sym is_at.bp ∙ ap (bp_after state) (sym (none no_pops))) there
answers state registers words caller pops bp_offset rule is_at none (inr (inl (no_bp, is_rule))) is =
    let meaning : and_then (moves (OffsetSp (pops + 1)) true registers words) (returned_caller registers words) ≡ Answers caller =
    subst (λ (r : UnwindRuleX86_64). rule_meaning r true registers words ≡ Answers caller) is_rule is in
    let (frame, frame_is, there) = and_then-answers (moves (OffsetSp (pops + 1)) true registers words) (returned_caller registers words) caller meaning in
    answer_by state registers words caller pops (bp_of registers) bp_offset frame is_at
    (raised_is registers (8 * (pops + 1)) frame frame_is) (sym is_at.bp ∙ ap (bp_after state) (sym no_bp)) there
answers state registers words caller pops bp_offset rule is_at none (inr (inr (y, is_offset, is_rule))) is =
    let meaning : and_then (moves (OffsetSpAndRestoreBp (pops + 1) (pos y)) true registers words) (returned_caller registers words) ≡ Answers caller =
    subst (λ (r : UnwindRuleX86_64). rule_meaning r true registers words ≡ Answers caller) is_rule is in
    let (frame, frame_is, there) = and_then-answers (moves (OffsetSpAndRestoreBp (pops + 1) (pos y)) true registers words) (returned_caller registers words) caller meaning in
    answer_by state registers words caller pops (state.memory (sp_of registers + 8 * y)) bp_offset frame is_at
    (restored_is state registers words is_at (8 * (pops + 1)) y frame frame_is)
    (ap (λ sp. state.memory (sp + 8 * y)) (sym is_at.sp) ∙ ap (bp_after state) (sym is_offset)) there

returned : (list : List Instruction) (flag : Bool) (rule : UnwindRuleX86_64) (state : State) (registers : UnwindRegsX86_64) (words : Words) (caller : Caller UnwindRegsX86_64)
    → AllByRecursion Fits list → LeavesFunction flag list → AllByRecursion IsReadAsExecuted list → epilogue_rule list ≡ Some rule → IsAt state registers words
    → rule_meaning rule true registers words ≡ Answers caller → HasReturned (state_after list state) caller
returned list flag rule state registers words caller fit leaves as_executed is_rule is_at is =
    let pops : ℕ = length list - 1 in
    let bp_offset = last_rbp_pop list in
    let (some, none) = shape flag list leaves in
    let answered = answers state registers words caller pops bp_offset rule is_at (λ e. none (omega (arith, some, e))) (rule_cases pops bp_offset rule is_rule) is in
    let gone = left flag list state fit leaves as_executed (omega (arith, answered.fits, some)) in
    record {
      ip = answered.to ∙ sym gone.to;
      sp = answered.has_sp ∙ omega (arith, gone.raised, some);
      bp = answered.has_bp ∙ sym gone.restored;
    }
  where
    shape : (flag : Bool) (list : List Instruction) → LeavesFunction flag list → (1 ≤ length list) × (length list ≡ 1 → last_rbp_pop list ≡ None)
    shape flag [] leaves = absurd leaves
    shape flag (Return ∷ []) leaves = (omega arith, λ e. refl)
    shape flag (Jump first ∷ []) leaves = (omega arith, λ e. refl)
    shape flag (Pop p low ∷ []) leaves = absurd leaves
    shape flag (Pop p low ∷ next ∷ more) leaves = (omega arith, λ e. absurd (omega (arith, e)))
    shape flag (Push p low ∷ more) leaves = absurd leaves
    shape flag (SetFramePointer ∷ more) leaves = absurd leaves
    shape flag (Return ∷ next ∷ more) leaves = absurd leaves
    shape flag (Jump first ∷ next ∷ more) leaves = absurd leaves

pub recognised_returns : (text : List ℕ) (offset : ℕ) (list : List Instruction) (rule : UnwindRuleX86_64) → IsEpilogue text offset list → epilogue_rule list ≡ Some rule → AllByRecursion IsReadAsExecuted list
    → (state : State) (registers : UnwindRegsX86_64) (words : Words) (caller : Caller UnwindRegsX86_64) → IsAt state registers words → rule_meaning rule true registers words ≡ Answers caller
    → HasReturned (state_after list state) caller
recognised_returns text offset list rule stands is_rule as_executed state registers words caller is_at is =
    returned list (ends_like_pop (take offset text)) rule state registers words caller stands.fit stands.leaves as_executed is_rule is_at is
