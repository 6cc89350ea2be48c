use Rattle.std.proofs.Common.{None, Ok, Err, refl}
use Rattle.framehop_whole_steps.specs.Views.{row_seen}
use Rattle.framehop_whole_steps.proofs.WholeCallers.{found-over}
use Rattle.framehop_whole_steps.proofs.row_step.caller_by_row.Goals as goal

pub returns-in-Ok-Some-clause-caller : goal.returns-in-Ok-Some-clause-caller
returns-in-Ok-Some-clause-caller g c =
    let known = c.known_of-registers in
    found-over g.A.CarriesRegisters.carrying c.args.first (row_seen c.args.found.now) c.args.regs.now known.result known.ensures.architecture known.ensures.mask known.ensures.values
    c.new-place.result _ c.new-place.ensures c.new-section.ensures.section (Ok c.in-Ok-Some.field-0) c.take_caller.result c.take_caller.new.regs
    c.in-Ok-Some.ensures.caller (rw c.in-Ok-Some.field-0-is c.take_caller.ensures.caller)

pub returns-in-Ok-None-clause-caller : goal.returns-in-Ok-None-clause-caller
returns-in-Ok-None-clause-caller g c =
    let known = c.known_of-registers in
    found-over g.A.CarriesRegisters.carrying c.args.first (row_seen c.args.found.now) c.args.regs.now known.result known.ensures.architecture known.ensures.mask known.ensures.values
    c.new-place.result _ c.new-place.ensures c.new-section.ensures.section (Ok c.in-Ok-None.field-0) None c.args.regs.now
    c.in-Ok-None.ensures.caller (rw c.in-Ok-None.field-0-is (record { address = refl; registers = refl }))

pub returns-in-Err-clause-caller : goal.returns-in-Err-clause-caller
returns-in-Err-clause-caller g c =
    let known = c.known_of-registers in
    found-over g.A.CarriesRegisters.carrying c.args.first (row_seen c.args.found.now) c.args.regs.now known.result known.ensures.architecture known.ensures.mask known.ensures.values
    c.new-place.result _ c.new-place.ensures c.new-section.ensures.section (Err c.in-Err.field-0) None c.args.regs.now
    c.in-Err.ensures.caller (record { address = refl; registers = refl })
