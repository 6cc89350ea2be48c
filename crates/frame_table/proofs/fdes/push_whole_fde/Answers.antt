use Rattle.std.proofs.Common.{◌∙◌}
use Rattle.frame_table.proofs.Entries.{whole_part}
use Rattle.frame_table.proofs.fdes.push_whole_fde.Goals as goal

pub returns : goal.returns
returns g c =
    let limits = g.S.UnwindContextStorage.limits in
    whole_part limits c.end_part.result _ _ _ _ _ _ _ _ _ _ _ _ _ c.in_ok-push_fde_line.ensures c.in_ok-refusal.ensures.lines c.in_ok-refusal.ensures.refusal
    (c.in_ok-table.ensures limits) c.program-program.ensures (c.into_u64.ensures.value ∙ c.offset.ensures) c.end_part.ensures
