use Rattle.std.proofs.Common.{sym, ap, ◌∙◌}
use Rattle.std.specs.Prelude.{option_map}
use Rattle.framehop.specs.Attempts.{attempt_by_format, format_meanings}
use Rattle.framehop.specs.TableMethods.{table_methods}
use Rattle.framehop_whole_modules.specs.ModuleRows.{row_at}
use Rattle.framehop_whole_modules.proofs.RowOrPlain.{by-row, without-row}
use Rattle.framehop_whole_steps.specs.Views.{row_seen}
use Rattle.framehop_whole_modules.proofs.arch.ByWholeRowsModuleUnwinding.unwind_frame.Goals as goal

pub returns-in-Some-clause-answers : goal.returns-in-Some-clause-answers
returns-in-Some-clause-answers g c =
    let limits = g.P.AllocationPolicy.limits in
    let formats = format_meanings g.A.DwarfUnwinding.rows (table_methods g.A.PeUnwinding.pe_attempt g.A.CompactUnwindInfoUnwinding.compact) g.A.WayUnwinding.first_rule in
    let plain = attempt_by_format formats limits c.args.unwind_data.now c.args.relative_address c.args.is_first_frame in
    let row = row_at limits.rows g.A.DwarfUnwinding.rows.vendor c.args.unwind_data.now c.args.relative_address in
    by-row _ _ _ g.A.CarriesRegisters.carrying c.args.is_first_frame row plain _ _ _ (row_seen c.in-Some.found)
    (ap (option_map row_seen) (sym c.in-Some.is) ∙ c.row_at.ensures) c.step_by_row.ensures.answers

pub returns-clause-answers : goal.returns-clause-answers
returns-clause-answers g c =
    let limits = g.P.AllocationPolicy.limits in
    let formats = format_meanings g.A.DwarfUnwinding.rows (table_methods g.A.PeUnwinding.pe_attempt g.A.CompactUnwindInfoUnwinding.compact) g.A.WayUnwinding.first_rule in
    let plain = attempt_by_format formats limits c.args.unwind_data.now c.args.relative_address c.args.is_first_frame in
    let row = row_at limits.rows g.A.DwarfUnwinding.rows.vendor c.args.unwind_data.now c.args.relative_address in
    without-row _ _ _ g.A.CarriesRegisters.carrying c.args.is_first_frame row plain
    g.A.CarriesRegisters.other_rule g.A.UnwindRule.UnwindRule.fallback g.met.A.CarriesRegisters.two_rules
    c.args.regs.now c.plain_answer.new.regs c.unwind_frame-answer.new.regs c.unwind_frame-answer.result c.plain_answer.result
    (ap (option_map row_seen) (sym c.in_default.is) ∙ c.row_at.ensures)
    c.plain_answer.ensures.answer c.plain_answer.ensures.registers c.unwind_frame-answer.ensures.answers
