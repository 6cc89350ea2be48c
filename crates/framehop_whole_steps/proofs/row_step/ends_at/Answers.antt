use Rattle.std.proofs.Common.{ap, option_map, sym, ◌∙◌}
use Rattle.dwarf_frame_instructions.proofs.Laws.{rule_seen}
use Rattle.dwarf_frame_instructions.specs.StateViews.{rule_as}
use Rattle.framehop_whole_steps.specs.FoundRows.{is_undefined}
use Rattle.framehop_whole_steps.proofs.row_step.ends_at.Goals as goal

pub returns : goal.returns
returns g c =
    let found = c.args.found.now in
    let seen = ap (option_map (rule_as (λ offset. offset))) c.register.ensures ∙ sym (rule_seen (rule_as (λ offset. offset)) found.row.now.registers found.column.0) in
    c.is_undefined.ensures ∙ ap is_undefined seen
