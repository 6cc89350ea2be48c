use Rattle.std.proofs.Common.{sym, ap, ◌∙◌}
use Rattle.framehop_loads.specs.UnwindData.{ModuleFormat}
use Rattle.framehop_loads.specs.UnwindDataViews.{format_view}
use Rattle.framehop.specs.Attempts.{attempt_by_tables}
use Rattle.framehop.specs.FormatMethods.{method_by_format}
use Rattle.framehop.specs.Methods.{Method}
use Rattle.framehop.specs.TableMethods.{table_methods}
use Rattle.framehop.specs.WayAttempts.{way_after, way_before}
use Rattle.framehop.proofs.MethodAnswers.{method-as}
use Rattle.framehop.proofs.WayTrials.{by-tables-first}
use Rattle.framehop.proofs.arch.BySectionsModuleUnwinding.unwind_frame.Goals as goal

pub returns-in-Compact-clause-answers : goal.returns-in-Compact-clause-answers
returns-in-Compact-clause-answers g c =
    let given = c.args.unwind_data.now in
    let relative = c.args.relative_address in
    let first = c.args.is_first_frame in
    let ways = g.A.WayUnwinding.first_rule in
    let tables = table_methods g.A.PeUnwinding.pe_attempt g.A.CompactUnwindInfoUnwinding.compact in
    let by : ModuleFormat → Method g.row.A-UnwindRule.Denot g.row.A-UnwindRegs.Denot = λ f. method_by_format tables c.bases.result.now c.base_svma.result relative first f in
    let says = method-as g.A.DwarfUnwinding.rows g.A.DwarfUnwinding.MeetsExpression g.P.AllocationPolicy.limits g.P.AllocationPolicy.may_allocate first _ _ _ _ _ _ _
    (ap (λ f. by (format_view g.D.SectionBytes.content f)) (sym c.in-Compact.is) ∙ ap by c.format.ensures
    ∙ ap (λ b. method_by_format tables b c.base_svma.result relative first given.format) c.bases.ensures
    ∙ ap (λ n. method_by_format tables given.bases n relative first given.format) c.base_svma.ensures)
    c.unwind_frame_by_compact-said.ensures.answers in
    by-tables-first c.args.read_stack.now c.unwind_frame_by_compact-said.new.read_stack c.args.regs.now c.unwind_frame_by_compact-said.new.regs
    c.unwind_frame_by_compact-said.result c.said_or_rule.result
    (attempt_by_tables g.A.DwarfUnwinding.rows tables g.P.AllocationPolicy.limits given relative first)
    (way_before ways given relative first) (way_after ways given relative first)
    (sym c.rule_before.ensures.rule ∙ c.in_default.is) c.said_or_rule.ensures.said says.answer
