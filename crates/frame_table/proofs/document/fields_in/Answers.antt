use Rattle.std.proofs.Common.{sym, ap, ◌∙◌}
use Rattle.json_program.specs.Decoded.{result_map}
use Rattle.json_program.proofs.Laws.{keep_fault-decoded, passed_on}
use Rattle.frame_table.specs.Document.{stated_of}
use Rattle.frame_table.proofs.Fields.{Four, five_fields}
use Rattle.frame_table.proofs.document.fields_in.Goals as goal

pub returns-in_err-name-clause-stated : goal.returns-in_err-name-clause-stated
returns-in_err-name-clause-stated c =
    passed_on _ _ _ _ c.from_residual-in_err-name.ensures.1
    (ap (result_map (λ (p : Four). stated_of p.0.0.0.0 p.0.0.0.1 p.0.0.1 p.0.1 p.1.items)) (sym c.in_err-name.was)
    ∙ five_fields _ _ _ _ _ _ _ _ _ _ _ _ _ _ c.name_field-name.ensures c.machine_field-machine.ensures c.address_field-start.ensures c.size_field-size.ensures.size
    (keep_fault-decoded _ _ _ _ c.bytes_field.ensures (sym c.keep_fault.ensures ∙ c.in_ok-bytes.was))
    c.both.ensures c.both-front.ensures c.both-2.ensures c.both-3.ensures)

pub returns-clause-stated : goal.returns-clause-stated
returns-clause-stated c =
    sym
    (ap (result_map (λ (p : Four). stated_of p.0.0.0.0 p.0.0.0.1 p.0.0.1 p.0.1 p.1.items)) (sym c.in_ok-name.was)
    ∙ five_fields _ _ _ _ _ _ _ _ _ _ _ _ _ _ c.name_field-name.ensures c.machine_field-machine.ensures c.address_field-start.ensures c.size_field-size.ensures.size
    (keep_fault-decoded _ _ _ _ c.bytes_field.ensures (sym c.keep_fault.ensures ∙ c.in_ok-bytes.was))
    c.both.ensures c.both-front.ensures c.both-2.ensures c.both-3.ensures)
