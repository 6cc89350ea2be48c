use Rattle.std.proofs.Common.{rules, ◌≡◌, Ok, Err, refl, ap, ◌∙◌}
use Rattle.framehop_rules.specs.RuleMeaning.{caller_registers}
use Rattle.framehop_registers.proofs.Laws.{over_weaker}
use Rattle.framehop_registers.specs.declared.x86_64.unwindregs.UnwindRegsX86_64.{UnwindRegsX86_64}
use Rattle.framehop_rows.specs.RowAttempt.{direct_trial}
use Rattle.framehop_errors.specs.declared.dwarf.DwarfUnwinderError.TheVariants.{OutOfMemory}
use Rattle.framehop_rows.proofs.x86_64.dwarf.ArchX86_64PartsUnwinding.unwind_by_parts.Goals as goal

-- the caller is answered
pub returns-in-Ok-clause-caller : goal.returns-in-Ok-clause-caller
returns-in-Ok-clause-caller g c =
    let to = c.in-Ok.caller.return_address in
    let registers : UnwindRegsX86_64 = caller_registers c.args.regs.now to c.in-Ok.caller.sp c.in-Ok.caller.bp in
    let moved : c.set_bp.new.self ≡ registers = search rules in
    record {
      answer =
          over_weaker c.in-Ok.ensures.caller (λ words is _.
          ap (λ (r : UnwindRegsX86_64). (Ok to, r)) moved ∙ ap (direct_trial c.args.regs.now) (is (λ h. cc)));
      registers = tt;
    }

-- there is none
pub returns-in-Err-clause-caller : goal.returns-in-Err-clause-caller
returns-in-Err-clause-caller g c =
    record {
      answer =
          over_weaker c.in-Err.ensures.caller (λ words is other.
          ap (direct_trial c.args.regs.now) (is (λ h. other (let same : c.in-Err.error ≡ OutOfMemory = cc in ap (λ e. Err e) same))));
      registers = refl;
    }
