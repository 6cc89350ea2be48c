use Rattle.std.proofs.Common.{◌≡◌, Ok, Err, refl, ap, ◌∙◌}
use Rattle.framehop_registers.proofs.Laws.{over_weaker}
use Rattle.framehop_rows.specs.RowAttempt.{direct_trial}
use Rattle.framehop_errors.specs.declared.dwarf.DwarfUnwinderError.TheVariants.{OutOfMemory}
use Rattle.framehop_rows.proofs.aarch64.dwarf.ArchAarch64PartsUnwinding.unwind_by_parts.Goals as goal

-- the caller is answered
pub returns-in-Ok-clause-caller : goal.returns-in-Ok-clause-caller
returns-in-Ok-clause-caller g c =
    record {
      answer =
          over_weaker c.in-Ok.ensures.caller (λ words is _.
          ap (λ to. (Ok to, c.in-Ok.caller)) c.lr.ensures ∙ ap (direct_trial c.args.regs.now) (is (λ h. cc)));
      registers = tt;
    }

-- there is none
pub returns-in-Err-clause-caller : goal.returns-in-Err-clause-caller
returns-in-Err-clause-caller g c =
    record {
      answer =
          over_weaker c.in-Err.ensures.caller (λ words is other.
          ap (direct_trial c.args.regs.now) (is (λ h. other (let same : c.in-Err.error ≡ OutOfMemory = cc in ap (λ e. Err e) same))));
      registers = refl;
    }
