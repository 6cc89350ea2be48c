-- Steps of a module by its call frames, by the method that its data gives.
use Rattle.std.proofs.Common.{◌≡◌, ℕ, ◌+◌, ◌^◌, ◌<◌, ◌≤◌, Bool, true, false, Option, Result, Ok, Err, refl, sym, ap, subst, arith}
use Rattle.std.specs.Prelude.{nat_lt}
use Rattle.std.proofs.lemmas.Bool.Decides.{nat_tests}
use Rattle.dwarf_constants.specs.declared.error.Error.{Error}
use Rattle.dwarf_frame_entries.specs.Entries.{Fde, fde_from_offset}
use Rattle.dwarf_frame_rows.specs.FrameSection.{FrameSection}
use Rattle.dwarf_frame_rows.specs.Row.{Row}
use Rattle.framehop_rules.specs.declared.unwind_result.UnwindResult.{UnwindResult}
use Rattle.framehop_unwinder.specs.Attempt.{Attempt, SaysNothing}
use Rattle.framehop_unwinder.specs.Trials.{AnswersAttempt}
use Rattle.framehop_unwinder.specs.declared.unwinding.UnwindFailure.{UnwindFailure}
use Rattle.framehop_unwinder.specs.declared.unwinding.UnwindFailure.TheVariants as failure
use Rattle.framehop_errors.specs.declared.dwarf.DwarfUnwinderError.{DwarfUnwinderError}
use Rattle.framehop_errors.specs.declared.dwarf.DwarfUnwinderError.TheVariants as why
use Rattle.framehop_rows.specs.Memory.{TakesMemory, takes_memory}
use Rattle.framehop_rows.specs.RowMeanings.{RowMeanings}
use Rattle.framehop.specs.Attempts.{attempt_by_method}
use Rattle.framehop_loads.specs.StepLimits.{StepLimits}
use Rattle.framehop.specs.MethodViews.{AnswersMethod}
use Rattle.framehop_loads.specs.CallFrames.{frames_for}
use Rattle.framehop.specs.Coverage.{by_known}
use Rattle.framehop.specs.DwarfViews.{AnswersCoverage}
use Rattle.framehop.specs.Methods.{Method, UsesFde, UsesNothing, method_at_offset, method_by_frames, method_found}
use Rattle.framehop_index.specs.FdeLookups.{FoundFde, PlacedFrames, fde_read}
use Rattle.framehop.proofs.TruthfulLookups.{fits-64}
use Rattle.framehop.specs.RowAttempts.{dwarf_failure}
use Rattle.framehop.proofs.RowTrials.{answers-covered, answers-nothing, fails-covered, memory-by_row}

module _ {Rule Registers S : Type 0} {step : S → ℕ → Result ℕ (Unit {0}) → S → Type 0} where
  -- nothing is said of the address
  pub nothing-answered : (state : S) (registers : Registers) (f : UnwindFailure) (attempt : Attempt Rule Registers) → f ≡ failure.OfModule → attempt ≡ SaysNothing
      → AnswersAttempt step state state registers registers (Err f) attempt
  nothing-answered state registers f attempt same is =
      subst (λ (f : UnwindFailure). AnswersAttempt step state state registers registers (Err f) attempt) (sym same) (answers-nothing state registers attempt is)

  module _ (m : RowMeanings Rule Registers) (meets : Row ℕ → Type 0) (limits : StepLimits) (in_place first : Bool) (section : FrameSection) (address : ℕ) (known : Option Fde) where
    -- by what is known of the FDE
    pub known-answers : (old new : S) (registers left : Registers) (answer : UnwindResult Rule)
        → AnswersCoverage step old new registers left (Ok answer) m meets first limits.values (by_known limits.rows m.vendor section address known)
        → AnswersMethod step old new registers left (Ok answer) m meets limits (takes_memory in_place limits.values) first (UsesFde section address known)
    known-answers old new registers left answer says = record {
      answer = answers-covered m meets first limits.values old new registers left answer (by_known limits.rows m.vendor section address known) says;
      memory = record { never = λ none. refl; asked = λ wanted. cc };
    }

    pub known-fails : (old new : S) (registers left : Registers) (e : DwarfUnwinderError) (f : UnwindFailure) → f ≡ dwarf_failure e
        → (◌≡◌ {A = Result (UnwindResult Rule) DwarfUnwinderError} (Err e) (Err why.OutOfMemory) → TakesMemory in_place limits.values)
        → AnswersCoverage step old new registers left (Err e) m meets first limits.values (by_known limits.rows m.vendor section address known)
        → AnswersMethod step old new registers left (Err f) m meets limits (takes_memory in_place limits.values) first (UsesFde section address known)
    known-fails old new registers left e f same takes says = record {
      answer = fails-covered m meets first limits.values old new registers left e f (by_known limits.rows m.vendor section address known) same says;
      memory = memory-by_row {Rule = Rule} e f in_place limits.values _ same takes says.expression;
    }

  module _ (m : RowMeanings Rule Registers) (meets : Row ℕ → Type 0) (limits : StepLimits) (takes first : Bool) (state : S) (registers : Registers) (method : Method Rule Registers) where
    -- by nothing
    pub nothing-by : (f : UnwindFailure) → f ≡ failure.OfModule → method ≡ UsesNothing
        → AnswersMethod step state state registers registers (Err f) m meets limits takes first method
    nothing-by f same is = rw same (record {
      answer = nothing-answered state registers failure.OfModule _ refl (ap (attempt_by_method m limits first) is);
      memory = record { never = λ none. refl; asked = λ wanted. cc };
    })

    -- by an attempt that says nothing
    pub nothing-said : (f : UnwindFailure) → f ≡ failure.OfModule → attempt_by_method m limits first method ≡ SaysNothing
        → AnswersMethod step state state registers registers (Err f) m meets limits takes first method
    nothing-said f same is = rw same (record {
      answer = nothing-answered state registers failure.OfModule _ refl is;
      memory = record { never = λ none. refl; asked = λ wanted. cc };
    })

-- the method by what is known of the FDE
pub found-as : {Rule Registers : Type 0} (section here : FrameSection) (address at : ℕ) (known : Option Fde) (found : FoundFde) → here ≡ section → at ≡ address → found ≡ Ok known
    → ◌≡◌ {A = Method Rule Registers} (UsesFde here at known) (method_found section address found)
found-as section here address at known found same is ok = rw (same, is, ok) refl

-- without an address of 64 bits it isn't known
out-of-range : (base relative : ℕ) → 2 ^ 64 ≤ base + relative → nat_lt (base + relative) (2 ^ 64) ≡ false
out-of-range base relative high = grind (arith, nat_tests)

pub frames-nowhere : {Rule Registers : Type 0} (frames : PlacedFrames) (relative : ℕ) → 2 ^ 64 ≤ frames.base_svma + relative
    → ◌≡◌ {A = Method Rule Registers} (method_by_frames frames relative) UsesNothing
frames-nowhere frames relative high = let none = out-of-range frames.base_svma relative high in rw none refl

pub offset-nowhere : {Rule Registers : Type 0} (section : FrameSection) (base relative offset : ℕ) → 2 ^ 64 ≤ base + relative
    → ◌≡◌ {A = Method Rule Registers} (method_at_offset section base relative offset) UsesNothing
offset-nowhere section base relative offset high = let none = out-of-range base relative high in rw none refl

-- an address that has 64 bits
pub offset-there : {Rule Registers : Type 0} (section : FrameSection) (base relative offset address : ℕ) (read : Result Fde Error) → address ≡ base + relative → address < 2 ^ 64 → fde_from_offset section offset ≡ read
    → ◌≡◌ {A = Method Rule Registers} (method_found section address (fde_read read)) (method_at_offset section base relative offset)
offset-there section base relative offset address read is fits at =
    let within : nat_lt (base + relative) (2 ^ 64) ≡ true = fits-64 (subst (λ (n : ℕ). n < 2 ^ 64) is fits) in
    rw (within, at, is) refl

module _ {Rule Registers S : Type 0} {step : S → ℕ → Result ℕ (Unit {0}) → S → Type 0} (m : RowMeanings Rule Registers) (meets : Row ℕ → Type 0) (limits : StepLimits) (takes first : Bool) where
  -- methods that are the same
  pub method-as : (old new : S) (before after : Registers) (result : Result (UnwindResult Rule) UnwindFailure) (one other : Method Rule Registers) → one ≡ other
      → AnswersMethod step old new before after result m meets limits takes first one → AnswersMethod step old new before after result m meets limits takes first other
  method-as old new before after result one other alike answers =
      subst (λ (w : Method Rule Registers). AnswersMethod step old new before after result m meets limits takes first w) alike answers

module _ {Rule Registers S : Type 0} {step : S → ℕ → Result ℕ (Unit {0}) → S → Type 0} (m : RowMeanings Rule Registers) (meets : Row ℕ → Type 0) (first : Bool) where
  -- limits, and whether memory is taken, that are the same
  pub policy-as : (old new : S) (before after : Registers) (result : Result (UnwindResult Rule) UnwindFailure) (method : Method Rule Registers) (limits also : StepLimits) (takes too : Bool) → limits ≡ also → takes ≡ too
      → AnswersMethod step old new before after result m meets also too first method → AnswersMethod step old new before after result m meets limits takes first method
  policy-as old new before after result method limits also takes too same alike answers =
      subst (λ (b : Bool). AnswersMethod step old new before after result m meets limits b first method) (sym alike)
      (subst (λ (l : StepLimits). AnswersMethod step old new before after result m meets l too first method) (sym same) answers)

-- the section that is used of two
pub as_used : {Rule Registers S : Type 0} {step : S → ℕ → Result ℕ (Unit {0}) → S → Type 0} {old new : S} {before after : Registers} {result : Result (UnwindResult Rule) UnwindFailure} {m : RowMeanings Rule Registers}
    {meets : Row ℕ → Type 0} {limits : StepLimits} {takes first : Bool} (main beside used : PlacedFrames) (relative : ℕ) → frames_for main beside relative ≡ used
    → AnswersMethod step old new before after result m meets limits takes first (method_by_frames used relative)
    → AnswersMethod step old new before after result m meets limits takes first (method_by_frames (frames_for main beside relative) relative)
as_used {step = step} {old = old} {new = new} {before = before} {after = after} {result = result} {m = m} {meets = meets} {limits = limits} {takes = takes} {first = first} main beside used relative is answers =
    subst (λ (f : PlacedFrames). AnswersMethod step old new before after result m meets limits takes first (method_by_frames f relative)) (sym is) answers
