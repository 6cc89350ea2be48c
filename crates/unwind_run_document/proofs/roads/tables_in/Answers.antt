use Rattle.std.proofs.Common.{sym, ap, ◌∙◌}
use Rattle.json_program.specs.Decoded.{result_map}
use Rattle.json_program.proofs.Laws.{keep_fault-decoded, passed_on}
use Rattle.unwind_run_document.proofs.RoadFields.{tables_made, table_fields}
use Rattle.unwind_run_document.proofs.roads.tables_in.Goals as goal

pub returns-in_err-section-2 : goal.returns-in_err-section-2
returns-in_err-section-2 c =
    passed_on _ _ _ _ c.from_residual-in_err-section-2.ensures.1
    (ap (result_map tables_made) (sym c.in_err-section-2.was)
    ∙ table_fields _ _ _ _ _ _ _ _ _ _ _ _ _ _
    (keep_fault-decoded _ _ _ _ c.bytes_field.ensures (sym c.keep_fault.ensures ∙ c.in_ok-section.was)) c.address_field-section_start.ensures
    (keep_fault-decoded _ _ _ _ c.bytes_field-2.ensures (sym c.keep_fault-2.ensures ∙ c.in_ok-header.was)) c.address_field-header_start.ensures
    c.address_field-base_svma.ensures
    c.both.ensures c.both-2.ensures c.both-3.ensures c.both-4.ensures)

pub returns : goal.returns
returns c =
    sym
    (ap (result_map tables_made) (sym c.in_ok-section-2.was)
    ∙ table_fields _ _ _ _ _ _ _ _ _ _ _ _ _ _
    (keep_fault-decoded _ _ _ _ c.bytes_field.ensures (sym c.keep_fault.ensures ∙ c.in_ok-section.was)) c.address_field-section_start.ensures
    (keep_fault-decoded _ _ _ _ c.bytes_field-2.ensures (sym c.keep_fault-2.ensures ∙ c.in_ok-header.was)) c.address_field-header_start.ensures
    c.address_field-base_svma.ensures
    c.both.ensures c.both-2.ensures c.both-3.ensures c.both-4.ensures)
