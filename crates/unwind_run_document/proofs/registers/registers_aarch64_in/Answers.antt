use Rattle.std.proofs.Common.{sym, ap, ◌∙◌}
use Rattle.json_program.specs.Decoded.{result_map}
use Rattle.json_program.proofs.Laws.{same_fault}
use Rattle.unwind_run_document.proofs.Steps.{under, four_registers}
use Rattle.unwind_run_document.specs.Registers.{registers_of}
use Rattle.unwind_run_document.proofs.registers.registers_aarch64_in.Goals as goal

pub returns-in_err-lr : goal.returns-in_err-lr
returns-in_err-lr c =
    same_fault _ _ _ c.from_residual.ensures.1
    (under _ _ _ _ (sym c.has_only.ensures ∙ c.if-not-has_only.false)
    (ap (result_map (λ p. registers_of p.0.0.0.0 p.0.0.0.1 p.0.0.1 p.0.1 p.1)) (sym c.in_err-lr.was)
    ∙ four_registers _ _ _ _ _ _ _ _ _ _ _ _ _ _ c.address_field-lr.ensures c.address_field-sp.ensures c.address_field-fp.ensures c.mask_field-mask.ensures
    c.others_in-others.ensures c.both.ensures c.both-2.ensures c.both-front.ensures c.both-3.ensures))

pub returns : goal.returns
returns c =
    under _ _ _ _ (sym c.has_only.ensures ∙ c.if-not-has_only.false)
    (ap (result_map (λ p. registers_of p.0.0.0.0 p.0.0.0.1 p.0.0.1 p.0.1 p.1)) (sym c.in_ok-lr.was)
    ∙ four_registers _ _ _ _ _ _ _ _ _ _ _ _ _ _ c.address_field-lr.ensures c.address_field-sp.ensures c.address_field-fp.ensures c.mask_field-mask.ensures
    c.others_in-others.ensures c.both.ensures c.both-2.ensures c.both-front.ensures c.both-3.ensures)
