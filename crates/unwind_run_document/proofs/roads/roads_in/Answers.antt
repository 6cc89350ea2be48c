use Rattle.std.proofs.Common.{sym, ap, ◌∙◌}
use Rattle.json_program.specs.Decoded.{result_map}
use Rattle.json_program.proofs.Laws.{keep_fault-decoded, passed_on}
use Rattle.unwind_run_document.proofs.RoadFields.{roads_made, road_fields}
use Rattle.unwind_run_document.proofs.Steps.{under}
use Rattle.unwind_run_document.proofs.roads.roads_in.Goals as goal

pub returns-in_err-tables-2 : goal.returns-in_err-tables-2
returns-in_err-tables-2 c =
    passed_on _ _ _ _ c.from_residual-in_err-tables-2.ensures.1
    (under _ _ _ _ (sym c.has_only.ensures ∙ c.if-not-has_only.false)
    (ap (result_map roads_made) (sym c.in_err-tables-2.was)
    ∙ road_fields _ _ _ _ _ _ _ _ _ _ _
    (keep_fault-decoded _ _ _ _ c.tables_in.ensures (sym c.keep_fault.ensures ∙ c.in_ok-tables.was)) c.frame_in-frame.ensures c.registers_field-registers.ensures
    (keep_fault-decoded _ _ _ _ c.stack_field.ensures (sym c.keep_fault-2.ensures ∙ c.in_ok-stack.was))
    c.both.ensures c.both-2.ensures c.both-3.ensures))

pub returns : goal.returns
returns c =
    sym
    (under _ _ _ _ (sym c.has_only.ensures ∙ c.if-not-has_only.false)
    (ap (result_map roads_made) (sym c.in_ok-tables-2.was)
    ∙ road_fields _ _ _ _ _ _ _ _ _ _ _
    (keep_fault-decoded _ _ _ _ c.tables_in.ensures (sym c.keep_fault.ensures ∙ c.in_ok-tables.was)) c.frame_in-frame.ensures c.registers_field-registers.ensures
    (keep_fault-decoded _ _ _ _ c.stack_field.ensures (sym c.keep_fault-2.ensures ∙ c.in_ok-stack.was))
    c.both.ensures c.both-2.ensures c.both-3.ensures))
