use Rattle.std.proofs.Common.{◌≡◌, ◌∙◌, Bool, true, false, ap, refl, sym}
use Rattle.std.specs.Prelude.{◌||◌, Option, Some, Ok, Err}
use Rattle.framehop_pe_codes.specs.CodesToUndo.{sets_frame}
use Rattle.framehop_pe_codes.specs.InfoViews.{next_and_left, operations_left, with_operation}
use Rattle.framehop_pe_codes.specs.Refusals.{PeResult, result_and_then}
use Rattle.framehop_pe_codes.specs.declared.operation.UnwindOperation.{UnwindOperation}
use Rattle.framehop_pe_codes.specs.declared.operation.UnwindOperation.TheVariants.{Push, Allocate, SetFrame, Save, SaveVector, MachineFrame}
use Rattle.framehop_pe_codes.proofs.Runs.{Operations}
use Rattle.framehop_pe_codes.proofs.run.has_set_frame.Goals as goal
use Rattle.framehop_pe_codes.proofs.run.has_set_frame.Goals.{in-SetFrame, in_default-matches}

-- whether a frame is set by codes, or was set before them
set_by : Bool → Operations → PeResult Bool
set_by set left = result_and_then left (λ operations. Ok (set || sets_frame operations))

-- one code sets it
with-set : (set : Bool) (left : Operations) → set_by set (with_operation SetFrame left) ≡ set_by true left
unfolding set_by
with-set true (Ok more) = refl
with-set false (Ok more) = refl
with-set set (Err e) = refl

-- any other doesn't
with-other : (operation : UnwindOperation) (set : Bool) (left : Operations) → (operation ≡ SetFrame → ⊥) → set_by set (with_operation operation left) ≡ set_by set left
unfolding set_by
with-other (Push r) set (Ok more) other = refl
with-other (Allocate n) set (Ok more) other = refl
with-other SetFrame set (Ok more) other = absurd (other refl)
with-other (Save r n) set (Ok more) other = refl
with-other SaveVector set (Ok more) other = refl
with-other (MachineFrame b) set (Ok more) other = refl
with-other operation set (Err e) other = refl

-- the code that came next
split : (next : Option UnwindOperation) (operation : UnwindOperation) (set : Bool) (before left : Operations) → before ≡ next_and_left next left → next ≡ Some operation
    → set_by set before ≡ set_by set (with_operation operation left)
split next operation set before left is one = ap (set_by set) (is ∙ ap (λ (o : Option UnwindOperation). next_and_left o left) one)

pub codes-preserved-then-matches : goal.codes-preserved-then-matches
unfolding set_by
codes-preserved-then-matches c =
    elim c.match-matches.branch [
      | in-SetFrame w ↦ (
          let left = operations_left c.next.new.self in
          let here = split c.in_ok-operation.field-0 c.in-Some.operation c.codes.is_set (operations_left c.codes.rest) left c.in_ok-operation.ensures.ok c.in-Some.is in
          sym (with-set c.codes.is_set left) ∙ ap (λ (o : UnwindOperation). set_by c.codes.is_set (with_operation o left)) (sym w.in-SetFrame.is) ∙ sym here ∙ c.codes.invariant)
      | in_default-matches w ↦ absurd (let no = sym w.matches-is ∙ c.if-matches.true in cc)
    ]

pub codes-preserved : goal.codes-preserved
unfolding set_by
codes-preserved c =
    elim c.match-matches.branch [
      | in-SetFrame w ↦ absurd (let no = sym w.matches-is ∙ c.if-matches.false in cc)
      | in_default-matches w ↦ (
          let left = operations_left c.next.new.self in
          let here = split c.in_ok-operation.field-0 c.in-Some.operation c.codes.is_set (operations_left c.codes.rest) left c.in_ok-operation.ensures.ok c.in-Some.is in
          sym (with-other c.in-Some.operation c.codes.is_set left w.in_default-matches.not-SetFrame) ∙ sym here ∙ c.codes.invariant)
    ]
