use Rattle.std.proofs.Common.{sym}
use Rattle.std.specs.Prelude.{Ok, Err}
use Rattle.std.proofs.lemmas.Result.{err_from_is_err_and}
use Rattle.framehop_registers.proofs.Laws.{over_both}
use Rattle.framehop_pe_codes.proofs.Interrupts.{interrupted-by}
use Rattle.framehop_pe_codes.proofs.machine.interrupt.Goals as goal

pub returns-in_err-sp-clause-interrupted : goal.returns-in_err-sp-clause-interrupted
returns-in_err-sp-clause-interrupted g c =
    over_both c.in_ok-to.ensures.word c.in_err-sp.ensures.word (λ words first second.
    let from = err_from_is_err_and c.from_residual-in_err-sp.result c.from_residual-in_err-sp.ensures.1 in
    rw (from.1, from.2) (interrupted-by c.args.has_error_code c.args.regs.now words c.in_ok-at.at c.in_ok-to.to c.in_ok-sp_at.sp_at (Err c.in_err-sp.field-0.0)
    (sym (rw (← c.sp.ensures, ← c.error_code_size.ensures) c.in_ok-at.ensures.sum)) (sym first) (sym c.in_ok-sp_at.ensures.sum) (sym second)))

pub returns-clause-interrupted : goal.returns-clause-interrupted
returns-clause-interrupted g c =
    over_both c.in_ok-to.ensures.word c.in_ok-sp.ensures.word (λ words first second.
    rw c.set_sp.ensures (interrupted-by c.args.has_error_code c.args.regs.now words c.in_ok-at.at c.in_ok-to.to c.in_ok-sp_at.sp_at (Ok c.in_ok-sp.sp)
    (sym (rw (← c.sp.ensures, ← c.error_code_size.ensures) c.in_ok-at.ensures.sum)) (sym first) (sym c.in_ok-sp_at.ensures.sum) (sym second)))
