use Rattle.std.proofs.Common.{string_bytes, sym, ap, ◌∙◌}
use Rattle.json_program.specs.Decoded.{result_map}
use Rattle.json_program.proofs.Laws.{keep_fault-decoded, passed_on}
use Rattle.unwind_run_document.proofs.Steps.{under}
use Rattle.unwind_run_document.proofs.Loads.{section, bytes_view, three_fields}
use Rattle.unwind_run_document.proofs.load.section_in.Goals as goal

pub returns-in_err-name-2 : goal.returns-in_err-name-2
returns-in_err-name-2 c =
    passed_on _ _ _ _ c.from_residual-in_err-name-2.ensures.1
    (under _ _ _ _ (sym c.has_only.ensures ∙ c.if-not-has_only.false)
    (ap (result_map (λ p. section (string_bytes p.0.0) p.0.1 (bytes_view p.1))) (sym c.in_err-name-2.was)
    ∙ three_fields _ _ _ _ _ _ _ _ (keep_fault-decoded string_bytes _ _ _ c.name_in.ensures (sym c.keep_fault.ensures ∙ c.in_ok-name.was)) c.range_in-range.ensures
    (keep_fault-decoded bytes_view _ _ _ c.bytes_field.ensures (sym c.keep_fault-2.ensures ∙ c.in_ok-bytes.was)) c.both.ensures c.both-2.ensures))

pub returns : goal.returns
returns c =
    sym
    (under _ _ _ _ (sym c.has_only.ensures ∙ c.if-not-has_only.false)
    (ap (result_map (λ p. section (string_bytes p.0.0) p.0.1 (bytes_view p.1))) (sym c.in_ok-name-2.was)
    ∙ three_fields _ _ _ _ _ _ _ _ (keep_fault-decoded string_bytes _ _ _ c.name_in.ensures (sym c.keep_fault.ensures ∙ c.in_ok-name.was)) c.range_in-range.ensures
    (keep_fault-decoded bytes_view _ _ _ c.bytes_field.ensures (sym c.keep_fault-2.ensures ∙ c.in_ok-bytes.was)) c.both.ensures c.both-2.ensures))
