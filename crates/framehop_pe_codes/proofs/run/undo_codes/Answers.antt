use Rattle.std.proofs.Common.{◌∙◌, ℕ, ap, sym}
use Rattle.std.specs.Prelude.{Ok, Err, Option, Some, None}
use Rattle.std.proofs.lemmas.Result.{err_from_is_err_and}
use Rattle.framehop_registers.proofs.Laws.{over_weaker, over_both}
use Rattle.framehop_pe_codes.specs.InfoViews.{operations_left}
use Rattle.framehop_pe_codes.specs.MachineViews.{undone_seen}
use Rattle.framehop_pe_codes.proofs.Runs.{next-splits, next-end, reads-on, refused-no, run-from, run-empty}
use Rattle.framehop_pe_codes.proofs.run.undo_codes.Goals as goal

pub returns-in_err-operation-clause-run : goal.returns-in_err-operation-clause-run
returns-in_err-operation-clause-run g c =
    over_weaker c.codes.invariant.run (λ words so_far operations is.
    let (more, left, same) = so_far operations is in
    let refused = c.in_err-operation.ensures.err in
    absurd (cc (left, refused)))

-- all codes can be read, as was tested before
pub returns-in_err-operation-clause-refusal : goal.returns-in_err-operation-clause-refusal
returns-in_err-operation-clause-refusal g c = λ operations is.
    absurd (refused-no (operations_left c.codes.rest) _ (c.codes.invariant.read operations is) c.in_err-operation.ensures.err)

pub returns-in_err-to-clause-run : goal.returns-in_err-to-clause-run
returns-in_err-to-clause-run g c =
    over_both c.codes.invariant.run c.in_err-to.ensures.undone (λ words so_far came operations is.
    let (all, left, same) = so_far operations is in
    let split = next-splits c.in_ok-operation.field-0 c.in-Some.operation (operations_left c.codes.rest) (operations_left c.next.new.self) all c.in_ok-operation.ensures.ok c.in-Some.is left in
    let from = err_from_is_err_and c.from_residual-in_err-to.result c.from_residual-in_err-to.ensures.1 in
    rw (from.1, from.2) (run-from c.args.frame.now c.in-Some.operation split.more all c.codes.regs words split.all_is (Err c.in_err-to.field-0.0) c.undo.new.regs came ∙ same))

pub returns-in-Some-2-clause-run : goal.returns-in-Some-2-clause-run
returns-in-Some-2-clause-run g c =
    over_both c.codes.invariant.run c.in_ok-to.ensures.undone (λ words so_far came operations is.
    let (all, left, same) = so_far operations is in
    let split = next-splits c.in_ok-operation.field-0 c.in-Some.operation (operations_left c.codes.rest) (operations_left c.next.new.self) all c.in_ok-operation.ensures.ok c.in-Some.is left in
    let returns = ap (λ (o : Option ℕ). undone_seen (Ok o) c.undo.new.regs) (sym c.in-Some-2.is) ∙ came in
    run-from c.args.frame.now c.in-Some.operation split.more all c.codes.regs words split.all_is (Ok (Some c.in-Some-2.to)) c.undo.new.regs returns ∙ same)

pub codes-preserved : goal.codes-preserved
codes-preserved g c = record {
  callable = c.in_ok-to.ensures.callable;
  read = λ operations is. reads-on c.in_ok-operation.field-0 c.in-Some.operation (operations_left c.codes.rest) (operations_left c.next.new.self) c.in_ok-operation.ensures.ok c.in-Some.is (c.codes.invariant.read operations is);
  run = over_both c.codes.invariant.run c.in_ok-to.ensures.undone (λ words so_far came operations is.
      let (all, left, same) = so_far operations is in
      let split = next-splits c.in_ok-operation.field-0 c.in-Some.operation (operations_left c.codes.rest) (operations_left c.next.new.self) all c.in_ok-operation.ensures.ok c.in-Some.is left in
      let goes_on = ap (λ (o : Option ℕ). undone_seen (Ok o) c.undo.new.regs) (sym c.in_default-2.is) ∙ came in
      (split.more, split.left_is, run-from c.args.frame.now c.in-Some.operation split.more all c.codes.regs words split.all_is (Ok None) c.undo.new.regs goes_on ∙ same));
}

pub returns-clause-run : goal.returns-clause-run
returns-clause-run g c =
    over_both c.codes.invariant.run c.return_to_caller.ensures.returned (λ words so_far came operations is.
    let (all, left, same) = so_far operations is in
    let none = next-end c.in_ok-operation.field-0 (operations_left c.codes.rest) (operations_left c.next.new.self) all c.in_ok-operation.ensures.ok c.in_default.is left in
    came ∙ run-empty c.args.frame.now all c.codes.regs words none ∙ same)
