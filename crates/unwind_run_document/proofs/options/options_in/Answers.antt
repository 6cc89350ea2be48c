use Rattle.std.proofs.Common.{sym, ap, ◌∙◌}
use Rattle.json_program.specs.Decoded.{result_map}
use Rattle.json_program.proofs.Laws.{same_fault}
use Rattle.unwind_run_document.proofs.OptionFields.{options_made, option_fields}
use Rattle.unwind_run_document.proofs.options.options_in.Goals as goal

pub returns-in_err-lookup : goal.returns-in_err-lookup
returns-in_err-lookup c =
    same_fault _ _ _ c.from_residual.ensures.1
    (ap (result_map options_made) (sym c.in_err-lookup.was)
    ∙ option_fields _ _ _ _ _ _ _ _ _ _ _ _ _ _ c.lookup_field-lookup.ensures c.flag_field-tables.ensures c.flag_field-beside.ensures c.code_rules_field-rules.ensures
    c.rows_field-rows.ensures c.both.ensures c.both-2.ensures c.both-3.ensures c.both-4.ensures)

pub returns : goal.returns
returns c =
    ap (result_map options_made) (sym c.in_ok-lookup.was)
    ∙ option_fields _ _ _ _ _ _ _ _ _ _ _ _ _ _ c.lookup_field-lookup.ensures c.flag_field-tables.ensures c.flag_field-beside.ensures c.code_rules_field-rules.ensures
    c.rows_field-rows.ensures c.both.ensures c.both-2.ensures c.both-3.ensures c.both-4.ensures
