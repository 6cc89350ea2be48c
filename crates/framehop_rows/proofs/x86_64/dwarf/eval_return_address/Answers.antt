use Rattle.std.proofs.Common.{ap, sym, ◌∙◌, option_map}
use Rattle.std.specs.Prelude.{option_and_then}
use Rattle.std.specs.Option.{option_or}
use Rattle.dwarf_frame_instructions.specs.StateViews.{rule_as}
use Rattle.framehop_registers.proofs.Laws.{over_weaker, over_both}
use Rattle.framehop_rows.specs.Columns.{column_by}
use Rattle.framehop_rows.specs.DirectRow.{frame_sources}
use Rattle.framehop_rows.specs.RowSources.{word_below_cfa}
use Rattle.framehop_rows.proofs.x86_64.dwarf.eval_return_address.Goals as goal

pub returns-in-Some-clause-value : goal.returns-in-Some-clause-value
returns-in-Some-clause-value g c =
    let sources = frame_sources g.S.Stack.ArrayLike.capacity c.args.encoding.address_size (g.R.Reader.stretch (g.Section._UnwindSectionPrivate.reader c.args.section.now)) c.args.regs.now in
    let rule = option_map (rule_as g.R.Offset.ReaderOffset.value) c.args.rule in
    over_weaker c.in_ok-stored.ensures.value (λ words column.
    ap (λ o. option_or o (word_below_cfa words c.args.cfa)) (sym c.in-Some.is ∙ column ∙ ap (λ own. option_and_then (column_by sources words c.args.cfa own) rule) c.ip-ip.ensures))

pub returns-in-None-clause-value : goal.returns-in-None-clause-value
returns-in-None-clause-value g c =
    let sources = frame_sources g.S.Stack.ArrayLike.capacity c.args.encoding.address_size (g.R.Reader.stretch (g.Section._UnwindSectionPrivate.reader c.args.section.now)) c.args.regs.now in
    let rule = option_map (rule_as g.R.Offset.ReaderOffset.value) c.args.rule in
    over_both c.in_ok-stored.ensures.value c.read_below.ensures.value (λ words column below.
    below ∙ ap (λ o. option_or o (word_below_cfa words c.args.cfa)) (sym c.in-None.is ∙ column ∙ ap (λ own. option_and_then (column_by sources words c.args.cfa own) rule) c.ip-ip.ensures))
