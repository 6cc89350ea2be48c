-- A run, one code after the other.
use Rattle.std.proofs.Common.{◌≡◌, ◌∙◌, ℕ, List, [], ◌∷◌, refl, ap, subst, sym}
use Rattle.std.specs.Prelude.{IsOk, Option, Some, None, Result, Ok, Err}
use Rattle.framehop_registers.specs.Callback.{Words}
use Rattle.framehop_registers.specs.declared.x86_64.unwindregs.UnwindRegsX86_64.{UnwindRegsX86_64}
use Rattle.framehop_errors.specs.declared.pe.PeUnwinderError.{PeUnwinderError}
use Rattle.framehop_pe_codes.specs.InfoViews.{next_and_left, with_operation}
use Rattle.framehop_pe_codes.specs.Machine.{Undone, caller_by_codes, resumed, returned, undone}
use Rattle.framehop_pe_codes.specs.MachineViews.{undone_seen}
use Rattle.framehop_pe_codes.specs.Refusals.{PeResult, result_and_then}
use Rattle.framehop_pe_codes.specs.declared.machine.FrameBase.{FrameBase}
use Rattle.framehop_pe_codes.specs.declared.operation.UnwindOperation.{UnwindOperation}

abbrev pub Operations : Type 0
Operations = Result (List UnwindOperation) PeUnwinderError

-- what can be read with one in front can be read
pub record Splits (operation : UnwindOperation) (left : Operations) (all : List UnwindOperation) : Type 0 where
  pub more : List UnwindOperation
  pub left_is : left ≡ Ok more
  pub all_is : all ≡ operation ∷ more

pub splits : (operation : UnwindOperation) (left : Operations) (all : List UnwindOperation) → with_operation operation left ≡ Ok all → Splits operation left all
splits operation (Ok more) all is = record { more = more; left_is = refl; all_is = let e : operation ∷ more ≡ all = cc in sym e }
splits operation (Err e) all is = cc

-- the operation that came next
pub next-splits : (next : Option UnwindOperation) (operation : UnwindOperation) (before left : Operations) (all : List UnwindOperation)
    → before ≡ next_and_left next left → next ≡ Some operation → before ≡ Ok all → Splits operation left all
next-splits next operation before left all is one whole =
    splits operation left all (sym (ap (λ (o : Option UnwindOperation). next_and_left o left) one) ∙ sym is ∙ whole)

pub next-end : (next : Option UnwindOperation) (before left : Operations) (all : List UnwindOperation)
    → before ≡ next_and_left next left → next ≡ None → before ≡ Ok all → all ≡ []
next-end next before left all is none whole =
    let e : Ok [] ≡ Ok all = sym (ap (λ (o : Option UnwindOperation). next_and_left o left) none) ∙ sym is ∙ whole in
    cc

-- codes that can be read aren't refused
pub refused-no : (left : Operations) (e : PeUnwinderError) → IsOk left → left ≡ Err e → ⊥
refused-no left e ok is = cc

reads-more : (operation : UnwindOperation) (left : Operations) → IsOk (with_operation operation left) → IsOk left
reads-more operation (Ok more) ok = refl
reads-more operation (Err e) ok = ok

-- where all can be read, what comes after one can
pub reads-on : (next : Option UnwindOperation) (operation : UnwindOperation) (before left : Operations)
    → before ≡ next_and_left next left → next ≡ Some operation → IsOk before → IsOk left
reads-on next operation before left is one ok =
    reads-more operation left (subst (λ (o : Operations). IsOk o) (is ∙ ap (λ (o : Option UnwindOperation). next_and_left o left) one) ok)

module _ (frame : FrameBase) (operation : UnwindOperation) (more all : List UnwindOperation) (registers : UnwindRegsX86_64) (words : Words)
    (is : all ≡ operation ∷ more) where
  -- the run of all, from what undoing the first came to
  pub run-from : (answer : PeResult (Option ℕ)) (after : UnwindRegsX86_64) → undone_seen answer after ≡ undone frame operation registers words
      → result_and_then (undone_seen answer after) (resumed (λ next. caller_by_codes frame more next words)) ≡ caller_by_codes frame all registers words
  run-from answer after came =
      ap (λ (o : PeResult Undone). result_and_then o (resumed (λ next. caller_by_codes frame more next words))) came
      ∙ ap (λ (l : List UnwindOperation). caller_by_codes frame l registers words) (sym is)

pub run-empty : (frame : FrameBase) (all : List UnwindOperation) (registers : UnwindRegsX86_64) (words : Words) → all ≡ [] → returned registers words ≡ caller_by_codes frame all registers words
run-empty frame all registers words none = ap (λ (l : List UnwindOperation). caller_by_codes frame l registers words) (sym none)
