-- What a rule's operations do is what the machine does with the codes.
use Rattle.std.proofs.Common.{◌≡◌, ◌∙◌, ℕ, ◌+◌, ◌*◌, ◌/◌, ◌%◌, ◌<◌, ◌^◌, Bool, true, false, List, [], ◌∷◌, map, get_or, ap, sym, refl, arith}
use Rattle.std.specs.Prelude.{pos, ◌+ℤ◌, ◌==◌, ◌&&◌, nat_lt, if◌then◌else◌, Option, Some, None, Ok}
use Rattle.std.proofs.lemmas.Bool.Decides.{nat_tests}
use Rattle.framehop_registers.specs.Callback.{Words}
use Rattle.framehop_registers.specs.Registers.{sp_of, with_register, dwarf_number}
use Rattle.framehop_registers.specs.declared.x86_64.unwindregs.Reg.{Reg}
use Rattle.framehop_registers.specs.declared.x86_64.unwindregs.Reg.TheVariants.{RSP}
use Rattle.framehop_registers.specs.declared.x86_64.unwindregs.UnwindRegsX86_64.{UnwindRegsX86_64}
use Rattle.framehop_rules.specs.Outcome as rules
use Rattle.framehop_rules.specs.Outcome.{Answers, Caller}
use Rattle.framehop_rules.specs.Pops.{raised_registers, registers_after_pop}
use Rattle.framehop_rules.specs.RuleMeaning.{rule_meaning}
use Rattle.framehop_rules.specs.Sequences.{registers_after_operation, registers_after_operations, sequence_meaning}
use Rattle.framehop_rules.specs.declared.x86_64.offset_or_pop.OffsetOrPop.TheVariants as part
use Rattle.framehop_rules.specs.declared.x86_64.unwind_rule.UnwindRuleX86_64.TheVariants.{JustReturn}
use Rattle.framehop_errors.specs.declared.pe.PeUnwinderError.{PeUnwinderError}
use Rattle.framehop_errors.specs.declared.pe.PeUnwinderError.TheVariants.{MissingStackData}
use Rattle.framehop_pe_codes.specs.declared.epilog.SpAdjustment.TheVariants.{Stays, Add, Lea}
use Rattle.framehop_pe_codes.specs.declared.operation.UnwindOperation.TheVariants.{Push, Allocate, SetFrame, Save, SaveVector, MachineFrame}
use Rattle.framehop_pe.specs.PeSteps.{LeadsTo}
use Rattle.framehop_pe.specs.RuleParts.{adjustment_parts, epilog_parts, offset_part, operation_part}
use Rattle.framehop_pe.specs.ToUndo.{ByCodes, ByEpilog, Leaf, ToUndo, caller_of, parts_of}
use Rattle.framehop_pe_codes.specs.EpilogRuns.{adjusted, caller_by_epilog, caller_by_pops}
use Rattle.framehop_pe_codes.specs.Epilogs.{EpilogLeft}
use Rattle.framehop_pe_codes.specs.Machine.{GoesOn, Undone, above, caller_by_codes, popped, raised, resumed, returned, undone, word_or}
use Rattle.framehop_pe_codes.specs.Refusals.{PeResult, or_refusal, result_and_then}
use Rattle.framehop_pe_codes.specs.declared.epilog.SpAdjustment.{SpAdjustment}
use Rattle.framehop_pe_codes.specs.declared.machine.FrameBase.{FrameBase}
use Rattle.framehop_pe_codes.specs.declared.operation.UnwindOperation.{UnwindOperation}
use Rattle.framehop_pe.proofs.RuleAnswers.{and_then-answers, sum-answers, word-answers, return-answers}
use Rattle.framehop_pe.proofs.Followed.{IsFollowed, AreFollowed}

pub above-ok : (base bytes s : ℕ) → s ≡ base + bytes → s < 2 ^ 64 → above base bytes ≡ Ok s
above-ok base bytes s is fits =
    let yes_ : nat_lt (base + bytes) (2 ^ 64) ≡ true = grind (arith, nat_tests) in
    rw yes_ (ap (λ (k : ℕ). let o : PeResult ℕ = Ok k in o) (sym is))

whole-words : (n : ℕ) → ((n % 8 == 0) && nat_lt (n / 8) 65536) ≡ true → 8 * (n / 8) ≡ n
whole-words n tests = grind (arith, nat_tests)

pub word-ok : (refusal : PeUnwinderError) (words : Words) (at value : ℕ) → words at ≡ Some value → word_or refusal words at ≡ Ok value
word-ok refusal words at value is = ap (or_refusal refusal) is

module _ (registers : UnwindRegsX86_64) (words : Words) (next : UnwindRegsX86_64) where
  pub raised-ok : (bytes : ℕ) → raised_registers registers bytes ≡ Answers next → raised registers bytes ≡ Ok next
  raised-ok bytes is =
      let (s, s_is, made) = and_then-answers (rules.address (pos (sp_of registers) +ℤ pos bytes)) (λ sp. Answers (with_register registers RSP sp)) next is in
      let (up, fits) = sum-answers (sp_of registers) bytes s s_is in
      let last : with_register registers RSP s ≡ next = cc in
      ap (λ (o : PeResult ℕ). result_and_then o (λ sp. Ok (with_register registers RSP sp))) (above-ok (sp_of registers) bytes s up fits)
      ∙ ap (λ (r : UnwindRegsX86_64). let o : PeResult UnwindRegsX86_64 = Ok r in o) last

  pub popped-ok : (refusal : PeUnwinderError) (register : Reg) → registers_after_pop register registers words ≡ Answers next → popped refusal register registers words ≡ Ok next
  popped-ok refusal register is =
      let rest : ℕ → rules.Outcome UnwindRegsX86_64 = λ value. rules.and_then (rules.address (pos (sp_of registers) +ℤ pos 8)) (λ sp. Answers (with_register (with_register registers register value) RSP sp)) in
      let (value, value_is, more) = and_then-answers (rules.word words (sp_of registers)) rest next is in
      let (s, s_is, made) = and_then-answers (rules.address (pos (sp_of registers) +ℤ pos 8)) (λ sp. Answers (with_register (with_register registers register value) RSP sp)) next more in
      let (up, fits) = sum-answers (sp_of registers) 8 s s_is in
      let last : with_register (with_register registers register value) RSP s ≡ next = cc in
      let ends : ℕ → PeResult UnwindRegsX86_64 = λ value. result_and_then (above (sp_of registers) 8) (λ sp. Ok (with_register (with_register registers register value) RSP sp)) in
      ap (λ (o : PeResult ℕ). result_and_then o ends) (word-ok refusal words (sp_of registers) value (word-answers words (sp_of registers) value value_is))
      ∙ ap (λ (o : PeResult ℕ). result_and_then o (λ sp. Ok (with_register (with_register registers register value) RSP sp))) (above-ok (sp_of registers) 8 s up fits)
      ∙ ap (λ (r : UnwindRegsX86_64). let o : PeResult UnwindRegsX86_64 = Ok r in o) last

  allocated : (frame : FrameBase) (bytes : ℕ) (fits : Bool) → ((bytes % 8 == 0) && nat_lt (bytes / 8) 65536) ≡ fits
      → IsFollowed (if fits then part.OffsetBy8 (bytes / 8) else part.None)
      → registers_after_operation (if fits then part.OffsetBy8 (bytes / 8) else part.None) registers words ≡ Answers next
      → undone frame (Allocate bytes) registers words ≡ Ok (GoesOn next)
  allocated frame bytes false tests followed is = absurd followed
  allocated frame bytes true tests followed is =
      let whole : 8 * (bytes / 8) ≡ bytes = whole-words bytes tests in
      ap (λ (o : PeResult UnwindRegsX86_64). result_and_then o (λ (r : UnwindRegsX86_64). Ok (GoesOn r)))
      (raised-ok bytes (ap (λ (n : ℕ). raised_registers registers n) (sym whole) ∙ is))

  -- one operation is one code
  pub undone-alike : (frame : FrameBase) (operation : UnwindOperation) → IsFollowed (operation_part operation)
      → registers_after_operation (operation_part operation) registers words ≡ Answers next → undone frame operation registers words ≡ Ok (GoesOn next)
  undone-alike frame (Push register) followed is =
      ap (λ (o : PeResult UnwindRegsX86_64). result_and_then o (λ (r : UnwindRegsX86_64). Ok (GoesOn r))) (popped-ok (MissingStackData None) register is)
  undone-alike frame (Allocate bytes) followed is = allocated frame bytes ((bytes % 8 == 0) && nat_lt (bytes / 8) 65536) refl followed is
  undone-alike frame SetFrame followed is = absurd followed
  undone-alike frame (Save register offset) followed is = absurd followed
  undone-alike frame SaveVector followed is = absurd followed
  undone-alike frame (MachineFrame has_error_code) followed is = absurd followed

-- all operations are all codes
pub runs-on : (frame : FrameBase) (operations : List UnwindOperation) (registers : UnwindRegsX86_64) (words : Words) (last : UnwindRegsX86_64) → AreFollowed (map operation_part operations)
    → registers_after_operations (map operation_part operations) registers words ≡ Answers last → caller_by_codes frame operations registers words ≡ returned last words
runs-on frame [] registers words last followed is = let same : registers ≡ last = cc in ap (λ (r : UnwindRegsX86_64). returned r words) same
runs-on frame (operation ∷ operations) registers words last followed is =
    let (next, next_is, rest) = and_then-answers (registers_after_operation (operation_part operation) registers words)
    (λ next. registers_after_operations (map operation_part operations) next words) last is in
    ap (λ (o : PeResult Undone). result_and_then o (resumed (λ next. caller_by_codes frame operations next words))) (undone-alike registers words next frame operation followed.0 next_is)
    ∙ runs-on frame operations next words last followed.1 rest

-- pops of an epilog
pub pops-on : (pops : List Reg) (registers : UnwindRegsX86_64) (words : Words) (last : UnwindRegsX86_64) → AreFollowed (map part.Pop pops)
    → registers_after_operations (map part.Pop pops) registers words ≡ Answers last → caller_by_pops pops registers words ≡ returned last words
pops-on [] registers words last followed is = let same : registers ≡ last = cc in ap (λ (r : UnwindRegsX86_64). returned r words) same
pops-on (register ∷ pops) registers words last followed is =
    let (next, next_is, rest) = and_then-answers (registers_after_operation (part.Pop register) registers words)
    (λ next. registers_after_operations (map part.Pop pops) next words) last is in
    ap (λ (o : PeResult UnwindRegsX86_64). result_and_then o (λ next. caller_by_pops pops next words))
    (popped-ok registers words next (MissingStackData (Some (sp_of registers))) register next_is)
    ∙ pops-on pops next words last followed.1 rest

-- an addition of an epilog is an allocation undone
added : (bytes : ℕ) (registers next : UnwindRegsX86_64) (words : Words) (fits : Bool) → ((bytes % 8 == 0) && nat_lt (bytes / 8) 65536) ≡ fits
    → IsFollowed (if fits then part.OffsetBy8 (bytes / 8) else part.None)
    → registers_after_operation (if fits then part.OffsetBy8 (bytes / 8) else part.None) registers words ≡ Answers next
    → raised registers bytes ≡ Ok next
added bytes registers next words false tests followed is = absurd followed
added bytes registers next words true tests followed is =
    raised-ok registers words next bytes (ap (λ (n : ℕ). raised_registers registers n) (sym (whole-words bytes tests)) ∙ is)

pub epilog-on : (frame_register : Option Reg) (epilog : EpilogLeft) (registers : UnwindRegsX86_64) (words : Words) (last : UnwindRegsX86_64) → AreFollowed (epilog_parts epilog)
    → registers_after_operations (epilog_parts epilog) registers words ≡ Answers last → caller_by_epilog frame_register epilog registers words ≡ returned last words
epilog-on frame_register epilog registers words last = by epilog.adjustment
  where
    by : (adjustment : SpAdjustment) → AreFollowed (adjustment_parts adjustment (map part.Pop epilog.pops))
        → registers_after_operations (adjustment_parts adjustment (map part.Pop epilog.pops)) registers words ≡ Answers last
        → result_and_then (adjusted frame_register adjustment registers) (λ next. caller_by_pops epilog.pops next words) ≡ returned last words
    by Stays followed is = pops-on epilog.pops registers words last followed is
    by (Add bytes) followed is =
        let (next, next_is, rest) = and_then-answers (registers_after_operation (offset_part bytes) registers words)
        (λ next. registers_after_operations (map part.Pop epilog.pops) next words) last is in
        ap (λ (o : PeResult UnwindRegsX86_64). result_and_then o (λ next. caller_by_pops epilog.pops next words))
        (added bytes registers next words ((bytes % 8 == 0) && nat_lt (bytes / 8) 65536) refl followed.0 next_is)
        ∙ pops-on epilog.pops next words last followed.1 rest
    by (Lea displacement) followed is = absurd followed.0

-- whatever is undone
pub undo-on : (undo : ToUndo) (registers : UnwindRegsX86_64) (words : Words) (last : UnwindRegsX86_64) → AreFollowed (parts_of undo)
    → registers_after_operations (parts_of undo) registers words ≡ Answers last → caller_of undo registers words ≡ returned last words
undo-on Leaf registers words last followed is = let same : registers ≡ last = cc in ap (λ (r : UnwindRegsX86_64). returned r words) same
undo-on (ByEpilog frame_register epilog) registers words last followed is = epilog-on frame_register epilog registers words last followed is
undo-on (ByCodes codes) registers words last followed is = runs-on codes.frame codes.operations registers words last followed is

-- the whole
pub leads : (undo : ToUndo) (is_first : Bool) (registers : UnwindRegsX86_64) (words : Words) (caller : Caller UnwindRegsX86_64) → AreFollowed (parts_of undo)
    → sequence_meaning (parts_of undo) is_first registers words ≡ Answers caller → LeadsTo undo registers words caller
leads undo is_first registers words caller followed is =
    let (last, last_is, rest) = and_then-answers (registers_after_operations (parts_of undo) registers words)
    (λ next. rule_meaning JustReturn is_first next words) caller is in
    let left = return-answers is_first last words caller rest in
    record {
      after = with_register last RSP (sp_of last + 8);
      comes = undo-on undo registers words last followed last_is
          ∙ ap (λ (o : PeResult ℕ). result_and_then o (λ to. result_and_then (above (sp_of last) 8) (λ sp. Ok (to, with_register last RSP sp))))
          (word-ok (MissingStackData (Some (sp_of last))) words (sp_of last) caller.return_address left.there)
          ∙ ap (λ (o : PeResult ℕ). result_and_then o (λ sp. Ok (caller.return_address, with_register last RSP sp))) (above-ok (sp_of last) 8 (sp_of last + 8) refl left.fits);
      same = λ register. ap (λ (l : List ℕ). get_or l (dwarf_number register) 0) (sym left.regs);
    }
