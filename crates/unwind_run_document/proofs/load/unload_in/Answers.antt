use Rattle.std.proofs.Common.{sym, ap, ◌∙◌}
use Rattle.json_program.specs.Decoded.{result_map}
use Rattle.unwind_run_document.specs.Loads.{unloading_of}
use Rattle.unwind_run_document.proofs.Steps.{under}
use Rattle.unwind_run_document.proofs.Loads.{unload_fields}
use Rattle.unwind_run_document.proofs.load.unload_in.Goals as goal

pub returns : goal.returns
returns c = under _ _ _ _ (sym c.has_only.ensures ∙ c.if-not-has_only.false)
    (ap (result_map (λ p. unloading_of p.0 p.1)) (sym c.in_ok-unwinder.was) ∙ unload_fields _ _ _ _ _ c.made_number-unwinder.ensures c.address_field.ensures c.both.ensures)
