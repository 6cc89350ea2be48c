use Rattle.std.proofs.Common.{sym, ap, ◌∙◌}
use Rattle.json_program.specs.Decoded.{result_map}
use Rattle.json_program.proofs.Laws.{keep_fault-decoded, passed_on}
use Rattle.unwind_run_document.proofs.Steps.{under}
use Rattle.unwind_run_document.proofs.Loads.{loaded, nine_fields}
use Rattle.unwind_run_document.proofs.load.load_in.Goals as goal

pub returns-in_err-unwinder : goal.returns-in_err-unwinder
returns-in_err-unwinder c =
    passed_on _ _ _ _ c.from_residual-in_err-unwinder.ensures.1
    (under _ _ _ _ (sym c.has_only.ensures ∙ c.if-not-has_only.false)
    (ap (result_map loaded) (sym c.in_err-unwinder.was)
    ∙ nine_fields _ _ _ _ _ _ _ _ _ _ _ _ _ _ _ _ _ _ _ _ _ _ _ _ _ _ c.made_number-unwinder.ensures
    (keep_fault-decoded _ _ _ _ c.name_in.ensures (sym c.keep_fault.ensures ∙ c.in_ok-name.was))
    c.address_field-start.ensures c.address_field-end.ensures c.address_field-base.ensures c.address_field-base_svma.ensures
    (keep_fault-decoded _ _ _ _ c.sections_field.ensures (sym c.keep_fault-2.ensures ∙ c.in_ok-sections.was))
    (keep_fault-decoded _ _ _ _ c.segments_field.ensures (sym c.keep_fault-3.ensures ∙ c.in_ok-segments.was)) c.options_in.ensures
    c.both.ensures c.both-2.ensures c.both-front.ensures c.both-3.ensures c.both-4.ensures c.both-front-2.ensures c.both-front-3.ensures c.both-5.ensures))

pub returns : goal.returns
returns c =
    sym
    (under _ _ _ _ (sym c.has_only.ensures ∙ c.if-not-has_only.false)
    (ap (result_map loaded) (sym c.in_ok-unwinder.was)
    ∙ nine_fields _ _ _ _ _ _ _ _ _ _ _ _ _ _ _ _ _ _ _ _ _ _ _ _ _ _ c.made_number-unwinder.ensures
    (keep_fault-decoded _ _ _ _ c.name_in.ensures (sym c.keep_fault.ensures ∙ c.in_ok-name.was))
    c.address_field-start.ensures c.address_field-end.ensures c.address_field-base.ensures c.address_field-base_svma.ensures
    (keep_fault-decoded _ _ _ _ c.sections_field.ensures (sym c.keep_fault-2.ensures ∙ c.in_ok-sections.was))
    (keep_fault-decoded _ _ _ _ c.segments_field.ensures (sym c.keep_fault-3.ensures ∙ c.in_ok-segments.was)) c.options_in.ensures
    c.both.ensures c.both-2.ensures c.both-front.ensures c.both-3.ensures c.both-4.ensures c.both-front-2.ensures c.both-front-3.ensures c.both-5.ensures))
