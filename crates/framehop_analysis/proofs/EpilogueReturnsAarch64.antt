-- The rule of an epilogue, and the machine that runs it.
use Rattle.std.proofs.Common.{◌≡◌, ◌∙◌, ℕ, ◌*◌, ◌<◌, ◌^◌, refl, sym, ap, arith, Bool, true, false, List, [], ◌∷◌, Option, Some, None}
use Rattle.std.specs.Prelude.{ℤ, pos, negsuc, ◌+ℤ◌, ◌*ℤ◌, ◌==◌, ◌&&◌, not, if◌then◌else◌}
use Rattle.std.specs.Option.{option_map}
use Rattle.std.proofs.lemmas.Bool.Decides.{nat_tests, Decides-eqb}
use Rattle.framehop_registers.specs.Callback.{Words}
use Rattle.framehop_registers.specs.RegistersAarch64.{stripped_address, mask_of, lr_of, sp_of, fp_of}
use Rattle.framehop_registers.specs.declared.aarch64.unwindregs.UnwindRegsAarch64.{UnwindRegsAarch64}
use Rattle.framehop_registers.specs.declared.error.Error.TheVariants.{DidNotAdvance}
use Rattle.framehop_rules.specs.Outcome.{Outcome, Refuses, Answers, Caller, and_then, address, word}
use Rattle.framehop_rules.specs.RuleMeaningAarch64.{CallerFrame, stored_word, moves, return_address, caller_registers, returned_caller, rule_meaning}
use Rattle.framehop_rules.specs.declared.aarch64.unwind_rule.UnwindRuleAarch64.{UnwindRuleAarch64}
use Rattle.framehop_rules.specs.declared.aarch64.unwind_rule.UnwindRuleAarch64.TheVariants.{NoOp, NoOpIfFirstFrameOtherwiseFp, OffsetSp, OffsetSpIfFirstFrameOtherwiseStackEndsHere, OffsetSpAndRestoreLr, OffsetSpAndRestoreFpAndLr, UseFramePointer, UseFramepointerWithOffsets}
use Rattle.framehop_rules.proofs.Laws.{and_then-answers, past-end, word-answers}
use Rattle.framehop_analysis.specs.EpilogueInstructionsAarch64.{EpilogueInstruction, Load, Add}
use Rattle.framehop_analysis.specs.MachineAarch64.{State, moved, put, access_offset, raise, epilogue_effect, state_after_epilogue, CheckInstruction, Authenticate, ShiftedXor, TestBit, MoveToX16, check_effect, state_after_checks, leave}
use Rattle.framehop_analysis.specs.EpilogueAarch64.{FieldsFit, raise_of, raise_of_all, load_offset, later, last_load_offset, IsRuleFor, IsRuleOfEpilogue}
use Rattle.framehop_analysis.specs.LookBackAarch64.{IsEpilogue}
use Rattle.framehop_analysis.specs.ReturnsAarch64.{IsAt, HasReturned}
use Rattle.framehop_analysis.proofs.Wrapped.{moved_again, stays, not_wrapped, moved_fits}

-- ---- one instruction

record IsPut (is_fp is_lr : Bool) (value : ℕ) (s after : State) : Type 0 where
  pub same_sp : after.sp ≡ s.sp
  pub same_memory : after.memory ≡ s.memory
  pub fp_is : after.fp ≡ (if is_fp then value else s.fp)
  pub lr_is : after.lr ≡ (if is_lr then value else s.lr)

put_is : (number value : ℕ) (s : State) → IsPut (number == 29) (number == 30) value s (put number value s)
put_is number value s = by (number == 29) (number == 30) apart
  where
    apart : (number == 29) ≡ true → (number == 30) ≡ false
    apart is = let same : number ≡ 29 = (Decides-eqb number 29).0 is in grind (arith, nat_tests)

    by : (a b : Bool) → (a ≡ true → b ≡ false)
        → IsPut a b value s (if a then record s { fp = value } else if b then record s { lr = value } else record s { others = λ other. if other == number then value else s.others other })
    by true true h = absurd (let e = h refl in cc)
    by true false h = record { same_sp = refl; same_memory = refl; fp_is = refl; lr_is = refl }
    by false true h = record { same_sp = refl; same_memory = refl; fp_is = refl; lr_is = refl }
    by false false h = record { same_sp = refl; same_memory = refl; fp_is = refl; lr_is = refl }

-- a register that is loaded from a offset, or stays
abbrev pub loaded : State → Option ℤ → ℕ → ℕ
loaded s None old = old
loaded s (Some bytes) old = s.memory (moved s.sp bytes)

record IsStepped (s after : State) (instruction : EpilogueInstruction) : Type 0 where
  pub raised : after.sp ≡ moved s.sp (raise_of instruction)
  pub same_memory : after.memory ≡ s.memory
  pub fp_is : after.fp ≡ loaded s (load_offset 29 instruction) s.fp
  pub lr_is : after.lr ≡ loaded s (load_offset 30 instruction) s.lr

loaded_pair : (a b : Bool) (s : State) (at : ℤ) (old : ℕ)
    → (if a then s.memory (moved (moved s.sp at) (pos 8)) else if b then s.memory (moved s.sp at) else old)
    ≡ loaded s (if a then Some (at +ℤ pos 8) else if b then Some at else None) old
loaded_pair true b s at old = ap s.memory (moved_again s.sp at (pos 8))
loaded_pair false true s at old = refl
loaded_pair false false s at old = refl

stepped : (instruction : EpilogueInstruction) (s : State) → s.sp < 2 ^ 64 → IsStepped s (epilogue_effect instruction s) instruction
stepped (Load bit_30 pair) s fits =
    let at = moved s.sp (access_offset pair) in
    let raised : State = record s { sp = moved s.sp (raise pair) } in
    let one = put_is pair.first (s.memory at) raised in
    let two = put_is pair.second (s.memory (moved at (pos 8))) (put pair.first (s.memory at) raised) in
    record {
      raised = two.same_sp ∙ one.same_sp;
      same_memory = two.same_memory ∙ one.same_memory;
      fp_is = two.fp_is ∙ ap (λ old. if pair.second == 29 then s.memory (moved at (pos 8)) else old) one.fp_is ∙ loaded_pair (pair.second == 29) (pair.first == 29) s (access_offset pair) s.fp;
      lr_is = two.lr_is ∙ ap (λ old. if pair.second == 30 then s.memory (moved at (pos 8)) else old) one.lr_is ∙ loaded_pair (pair.second == 30) (pair.first == 30) s (access_offset pair) s.lr;
    }
stepped (Add shift number) s fits = record { raised = refl; same_memory = refl; fp_is = refl; lr_is = refl }

-- ---- a whole epilogue

loaded_more : (s s1 : State) (raise : ℤ) (last first : Option ℤ) (old1 old : ℕ) → s1.sp ≡ moved s.sp raise → s1.memory ≡ s.memory → old1 ≡ loaded s first old
    → loaded s1 last old1 ≡ loaded s (later (option_map (λ bytes. raise +ℤ bytes) last) first) old
loaded_more s s1 raise None first old1 old raised same_memory old_is = old_is
loaded_more s s1 raise (Some bytes) first old1 old raised same_memory old_is =
    ap (λ (m : ℕ → ℕ). m (moved s1.sp bytes)) same_memory ∙ ap (λ sp. s.memory (moved sp bytes)) raised ∙ ap s.memory (moved_again s.sp raise bytes)

record HasRun (s after : State) (list : List EpilogueInstruction) : Type 0 where
  pub raised : after.sp ≡ moved s.sp (raise_of_all list)
  pub fp_is : after.fp ≡ loaded s (last_load_offset 29 list) s.fp
  pub lr_is : after.lr ≡ loaded s (last_load_offset 30 list) s.lr

has_run : (list : List EpilogueInstruction) (s : State) → s.sp < 2 ^ 64 → HasRun s (state_after_epilogue list s) list
has_run [] s fits = record { raised = sym (stays s.sp fits); fp_is = refl; lr_is = refl }
has_run (Load bit_30 pair ∷ more) s fits =
    one_more (Load bit_30 pair) more s fits (has_run more (epilogue_effect (Load bit_30 pair) s) (after_fits (Load bit_30 pair) s fits))
  where
    after_fits : (i : EpilogueInstruction) (s : State) → s.sp < 2 ^ 64 → (epilogue_effect i s).sp < 2 ^ 64
    after_fits i s fits = let e = (stepped i s fits).raised in omega (arith, e, moved_fits s.sp (raise_of i))

    one_more : (i : EpilogueInstruction) (more : List EpilogueInstruction) (s : State) → s.sp < 2 ^ 64 → HasRun (epilogue_effect i s) (state_after_epilogue more (epilogue_effect i s)) more → HasRun s (state_after_epilogue more (epilogue_effect i s)) (i ∷ more)
    one_more i more s fits next =
        let here = stepped i s fits in
        record {
          raised = next.raised ∙ ap (λ sp. moved sp (raise_of_all more)) here.raised ∙ moved_again s.sp (raise_of i) (raise_of_all more);
          fp_is = next.fp_is ∙ loaded_more s (epilogue_effect i s) (raise_of i) (last_load_offset 29 more) (load_offset 29 i) (epilogue_effect i s).fp s.fp here.raised here.same_memory here.fp_is;
          lr_is = next.lr_is ∙ loaded_more s (epilogue_effect i s) (raise_of i) (last_load_offset 30 more) (load_offset 30 i) (epilogue_effect i s).lr s.lr here.raised here.same_memory here.lr_is;
        }
has_run (Add shift number ∷ more) s fits =
    let i = Add shift number in
    let here = stepped i s fits in
    let next = has_run more (epilogue_effect i s) (moved_fits s.sp (raise_of i)) in
    record {
      raised = next.raised ∙ moved_again s.sp (raise_of i) (raise_of_all more);
      fp_is = next.fp_is ∙ loaded_more s (epilogue_effect i s) (raise_of i) (last_load_offset 29 more) (load_offset 29 i) (epilogue_effect i s).fp s.fp here.raised here.same_memory here.fp_is;
      lr_is = next.lr_is ∙ loaded_more s (epilogue_effect i s) (raise_of i) (last_load_offset 30 more) (load_offset 30 i) (epilogue_effect i s).lr s.lr here.raised here.same_memory here.lr_is;
    }

-- ---- what a rule answers

record IsAddress (z : ℤ) (a : ℕ) : Type 0 where
  pub is : z ≡ pos a
  pub fits : a < 2 ^ 64

address_is : (z : ℤ) (a : ℕ) → address z ≡ Answers a → IsAddress z a
address_is (pos n) a is = record { is = grind arith; fits = grind arith }
address_is (negsuc n) a is = cc

read_is : (state : State) (registers : UnwindRegsAarch64) (words : Words) → IsAt state registers words → (at value : ℕ) → word words at ≡ Answers value → state.memory at ≡ value
read_is state registers words is_at at value is = is_at.part at value (word-answers words at value is)

raised_is : (state : State) (registers : UnwindRegsAarch64) (words : Words) → IsAt state registers words → (bytes sp : ℕ) → address (pos (sp_of registers) +ℤ pos bytes) ≡ Answers sp → moved state.sp (pos bytes) ≡ sp
raised_is state registers words is_at bytes sp is =
    let at = address_is (pos (sp_of registers) +ℤ pos bytes) sp is in
    ap (λ a. moved a (pos bytes)) is_at.sp ∙ not_wrapped (sp_of registers) sp (pos bytes) at.is at.fits

stored_is : (state : State) (registers : UnwindRegsAarch64) (words : Words) → IsAt state registers words → (offset : ℤ) (value : ℕ)
    → stored_word words (sp_of registers) offset ≡ Answers value → state.memory (moved state.sp (pos 8 *ℤ offset)) ≡ value
stored_is state registers words is_at offset value is =
    let (at, at_is, more) = and_then-answers (address (pos (sp_of registers) +ℤ pos 8 *ℤ offset)) (word words) value is in
    let there = address_is (pos (sp_of registers) +ℤ pos 8 *ℤ offset) at at_is in
    ap (λ a. state.memory (moved a (pos 8 *ℤ offset))) is_at.sp ∙ ap state.memory (not_wrapped (sp_of registers) at (pos 8 *ℤ offset) there.is there.fits)
    ∙ read_is state registers words is_at at value more

abbrev pub strip : UnwindRegsAarch64 → ℕ → ℕ
strip registers lr = stripped_address (mask_of registers) lr

record IsFrame (registers : UnwindRegsAarch64) (frame : CallerFrame) (lr sp fp : ℕ) : Type 0 where
  pub has_lr : strip registers frame.0 ≡ strip registers lr
  pub has_sp : frame.1 ≡ sp
  pub has_fp : frame.2 ≡ fp

frame_of : (state : State) (registers : UnwindRegsAarch64) (words : Words) → IsAt state registers words → (raised : ℤ) (fp_at lr_at : Option ℤ) (rule : UnwindRuleAarch64) (frame : CallerFrame)
    → IsRuleFor raised fp_at lr_at rule → moves rule true registers words ≡ Answers frame
    → IsFrame registers frame (loaded state lr_at state.lr) (moved state.sp raised) (loaded state fp_at state.fp)
frame_of state registers words is_at raised fp_at lr_at NoOp frame (raise_is, no_fp, no_lr) is =
    let same : (lr_of registers, sp_of registers, fp_of registers) ≡ frame = cc in
    record {
      has_lr = sym (ap (λ (f : CallerFrame). strip registers f.0) same) ∙ sym is_at.lr ∙ ap (λ o. strip registers (loaded state o state.lr)) (sym no_lr);
      has_sp = sym (ap (λ (f : CallerFrame). f.1) same) ∙ sym is_at.sp ∙ sym (stays state.sp is_at.fits) ∙ ap (moved state.sp) (sym raise_is);
      has_fp = sym (ap (λ (f : CallerFrame). f.2) same) ∙ sym is_at.fp ∙ ap (λ o. loaded state o state.fp) (sym no_fp);
    }
frame_of state registers words is_at raised fp_at lr_at (OffsetSp x) frame (raise_is, no_fp, no_lr) is =
    let (sp, sp_is, there) = and_then-answers (address (pos (sp_of registers) +ℤ pos (16 * x))) (λ sp. Answers (lr_of registers, sp, fp_of registers)) frame is in
    let same : (lr_of registers, sp, fp_of registers) ≡ frame = cc in
    record {
      has_lr = sym (ap (λ (f : CallerFrame). strip registers f.0) same) ∙ sym is_at.lr ∙ ap (λ o. strip registers (loaded state o state.lr)) (sym no_lr);
      has_sp = sym (ap (λ (f : CallerFrame). f.1) same) ∙ sym (raised_is state registers words is_at (16 * x) sp sp_is) ∙ ap (moved state.sp) (sym raise_is);
      has_fp = sym (ap (λ (f : CallerFrame). f.2) same) ∙ sym is_at.fp ∙ ap (λ o. loaded state o state.fp) (sym no_fp);
    }
frame_of state registers words is_at raised fp_at lr_at (OffsetSpAndRestoreLr x y) frame (raise_is, no_fp, lr_offset) is =
    let (sp, sp_is, more) = and_then-answers (address (pos (sp_of registers) +ℤ pos (16 * x))) (λ sp. and_then (stored_word words (sp_of registers) y) (λ lr. Answers (lr, sp, fp_of registers))) frame is in
    let (lr, lr_is, there) = and_then-answers (stored_word words (sp_of registers) y) (λ lr. Answers (lr, sp, fp_of registers)) frame more in
    let same : (lr, sp, fp_of registers) ≡ frame = cc in
    record {
      has_lr = sym (ap (λ (f : CallerFrame). strip registers f.0) same) ∙ ap (strip registers) (sym (stored_is state registers words is_at y lr lr_is)) ∙ ap (λ o. strip registers (loaded state o state.lr)) (sym lr_offset);
      has_sp = sym (ap (λ (f : CallerFrame). f.1) same) ∙ sym (raised_is state registers words is_at (16 * x) sp sp_is) ∙ ap (moved state.sp) (sym raise_is);
      has_fp = sym (ap (λ (f : CallerFrame). f.2) same) ∙ sym is_at.fp ∙ ap (λ o. loaded state o state.fp) (sym no_fp);
    }
frame_of state registers words is_at raised fp_at lr_at (OffsetSpAndRestoreFpAndLr x y z) frame (raise_is, fp_offset, lr_offset) is =
    let (sp, sp_is, more) = and_then-answers (address (pos (sp_of registers) +ℤ pos (16 * x))) (λ sp. and_then (stored_word words (sp_of registers) z) (λ lr. and_then (stored_word words (sp_of registers) y) (λ fp. Answers (lr, sp, fp)))) frame is in
    let (lr, lr_is, last) = and_then-answers (stored_word words (sp_of registers) z) (λ lr. and_then (stored_word words (sp_of registers) y) (λ fp. Answers (lr, sp, fp))) frame more in
    let (fp, fp_is, there) = and_then-answers (stored_word words (sp_of registers) y) (λ fp. Answers (lr, sp, fp)) frame last in
    let same : (lr, sp, fp) ≡ frame = cc in
    record {
      has_lr = sym (ap (λ (f : CallerFrame). strip registers f.0) same) ∙ ap (strip registers) (sym (stored_is state registers words is_at z lr lr_is)) ∙ ap (λ o. strip registers (loaded state o state.lr)) (sym lr_offset);
      has_sp = sym (ap (λ (f : CallerFrame). f.1) same) ∙ sym (raised_is state registers words is_at (16 * x) sp sp_is) ∙ ap (moved state.sp) (sym raise_is);
      has_fp = sym (ap (λ (f : CallerFrame). f.2) same) ∙ sym (stored_is state registers words is_at y fp fp_is) ∙ ap (λ o. loaded state o state.fp) (sym fp_offset);
    }
frame_of state registers words is_at raised fp_at lr_at NoOpIfFirstFrameOtherwiseFp frame is_rule is = absurd is_rule
frame_of state registers words is_at raised fp_at lr_at (OffsetSpIfFirstFrameOtherwiseStackEndsHere x) frame is_rule is = absurd is_rule
frame_of state registers words is_at raised fp_at lr_at UseFramePointer frame is_rule is = absurd is_rule
frame_of state registers words is_at raised fp_at lr_at (UseFramepointerWithOffsets x y z) frame is_rule is = absurd is_rule

-- what the rule answers is what any state has that has these values
pub answered : (state after : State) (registers : UnwindRegsAarch64) (words : Words) → IsAt state registers words → (raised : ℤ) (fp_at lr_at : Option ℤ) (rule : UnwindRuleAarch64) (caller : Caller UnwindRegsAarch64)
    → IsRuleFor raised fp_at lr_at rule → rule_meaning rule true registers words ≡ Answers caller
    → strip registers after.ip ≡ strip registers (loaded state lr_at state.lr) → after.sp ≡ moved state.sp raised → after.fp ≡ loaded state fp_at state.fp → HasReturned after registers caller
answered state after registers words is_at raised fp_at lr_at rule caller is_rule is ip_is sp_is fp_is =
    let (frame, frame_is, more) = and_then-answers (moves rule true registers words) (returned_caller registers true) caller is in
    let there = frame_of state registers words is_at raised fp_at lr_at rule frame is_rule frame_is in
    by frame there more
  where
    by : (frame : CallerFrame) → IsFrame registers frame (loaded state lr_at state.lr) (moved state.sp raised) (loaded state fp_at state.fp)
        → returned_caller registers true frame ≡ Answers caller → HasReturned after registers caller
    by (lr, sp, fp) there is =
        let made : ℕ → Outcome (Caller UnwindRegsAarch64) = λ to. Answers (record { return_address = to; registers = caller_registers registers (lr, sp, fp) }) in
        let (to, to_is, last) = and_then-answers (return_address registers true (lr, sp, fp)) made caller is in
        let to_stripped = past-end (stripped_address (mask_of registers) lr == 0) (if not true && (sp == sp_of registers) then Refuses DidNotAdvance else Answers (stripped_address (mask_of registers) lr)) to to_is in
        let same_to : Answers (stripped_address (mask_of registers) lr) ≡ Answers to = to_stripped.1 in
        let kept : record { return_address = to; registers = caller_registers registers (lr, sp, fp) } ≡ caller = cc in
        let value : stripped_address (mask_of registers) lr ≡ to = cc in
        record {
          ip = sym (ap (λ (c : Caller UnwindRegsAarch64). c.return_address) kept) ∙ sym value ∙ there.has_lr ∙ sym ip_is;
          sp = sym (ap (λ (c : Caller UnwindRegsAarch64). sp_of c.registers) kept) ∙ there.has_sp ∙ sym sp_is;
          fp = sym (ap (λ (c : Caller UnwindRegsAarch64). fp_of c.registers) kept) ∙ there.has_fp ∙ sym fp_is;
        }

-- checks of an address write x16 alone
record IsKept (s after : State) : Type 0 where
  pub sp_is : after.sp ≡ s.sp
  pub fp_is : after.fp ≡ s.fp
  pub lr_is : after.lr ≡ s.lr

checked : (checks : List CheckInstruction) (s : State) → IsKept s (state_after_checks checks s)
checked [] s = record { sp_is = refl; fp_is = refl; lr_is = refl }
checked (Authenticate ∷ more) s = checked more s
checked (ShiftedXor ∷ more) s = let next = checked more (check_effect ShiftedXor s) in record { sp_is = next.sp_is; fp_is = next.fp_is; lr_is = next.lr_is }
checked (TestBit ∷ more) s = checked more s
checked (MoveToX16 number ∷ more) s = let next = checked more (check_effect (MoveToX16 number) s) in record { sp_is = next.sp_is; fp_is = next.fp_is; lr_is = next.lr_is }

returned : (list : List EpilogueInstruction) (checks : List CheckInstruction) (rule : UnwindRuleAarch64) (state : State) (registers : UnwindRegsAarch64) (words : Words) (caller : Caller UnwindRegsAarch64)
    → IsRuleOfEpilogue list rule → IsAt state registers words → rule_meaning rule true registers words ≡ Answers caller → HasReturned (leave checks (state_after_epilogue list state)) registers caller
returned list checks rule state registers words caller is_rule is_at is =
    let ran = has_run list state is_at.fits in
    let kept = checked checks (state_after_epilogue list state) in
    answered state (leave checks (state_after_epilogue list state)) registers words is_at (raise_of_all list) (last_load_offset 29 list) (last_load_offset 30 list) rule caller is_rule is
    (ap (strip registers) (kept.lr_is ∙ ran.lr_is)) (kept.sp_is ∙ ran.raised) (kept.fp_is ∙ ran.fp_is)

pub recognised_returns : (text : List ℕ) (offset : ℕ) (list : List EpilogueInstruction) (rule : UnwindRuleAarch64) → IsEpilogue text offset list → FieldsFit rule → IsRuleOfEpilogue list rule
    → (checks : List CheckInstruction) (state : State) (registers : UnwindRegsAarch64) (words : Words) (caller : Caller UnwindRegsAarch64) → IsAt state registers words
    → rule_meaning rule true registers words ≡ Answers caller → HasReturned (leave checks (state_after_epilogue list state)) registers caller
recognised_returns text offset list rule stands fits is_rule checks state registers words caller is_at is = returned list checks rule state registers words caller is_rule is_at is
