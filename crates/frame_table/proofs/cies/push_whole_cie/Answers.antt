use Rattle.std.proofs.Common.{ℕ, List, [], ap, ◌∙◌}
use Rattle.dwarf_frame_instructions.specs.Programs.{Instructions}
use Rattle.dwarf_frame_entries.specs.EntryViews.{cie_view}
use Rattle.frame_table.specs.Entries.{entry_table}
use Rattle.frame_table.proofs.Entries.{whole_part}
use Rattle.frame_table.proofs.cies.push_whole_cie.Goals as goal

pub returns : goal.returns
returns g c =
    let limits = g.S.UnwindContextStorage.limits in
    let cie = cie_view g.R.Reader.stretch g.R.Offset.ReaderOffset.value c.args.cie.now in
    whole_part limits c.end_part.result _ _ _ _ _ _ _ _ _ _ _ _ _ c.in_ok-push_cie_line.ensures c.in_ok-refusal.ensures.lines c.in_ok-refusal.ensures.refusal
    (c.in_ok-table.ensures ∙ ap (λ (keys : List ℕ). entry_table c.args.listed.now.machine cie keys c.instructions-own.result) c.new-none.ensures.empty
    ∙ ap (λ (own : Instructions ℕ). entry_table c.args.listed.now.machine cie [] own) c.instructions-own.ensures)
    c.cie_program.ensures (c.into_u64.ensures.value ∙ c.offset.ensures) c.end_part.ensures
