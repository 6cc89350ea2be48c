use Rattle.std.proofs.Common.{sym, subst}
use Rattle.json_program.specs.Stream.{WritesText}
use Rattle.unwind_run_document.specs.CommandViews.{tasks_of}
use Rattle.unwind_run_document.specs.declared.document.Policy.{Policy}
use Rattle.framehop_whole_modules.specs.Attempts.{whole_with}
use Rattle.unwind_run_program.specs.Registers.{whole_forms}
use Rattle.unwind_run_program.specs.Text.{lines_under, limits_of_policy}
use Rattle.unwind_run_program.proofs.program.run_on.Goals as goal

pub returns-in-May-clause-text : goal.returns-in-May-clause-text
returns-in-May-clause-text g c =
    subst (λ (policy : Policy). WritesText c.run_commands.result (g.W.Sink.contents c.args.writer.now) (g.W.Sink.contents c.run_commands.new.writer)
    (lines_under (whole_with g.A.CarriesRegisters.carrying g.A.UnwindRule.UnwindRule.meaning g.A.UnwindRule.UnwindRule.fallback g.A.DwarfUnwinding.rows g.A.PeUnwinding.pe_attempt
    g.A.CompactUnwindInfoUnwinding.compact g.A.WayUnwinding.first_rule) (whole_forms g.A.DocumentArch.forms) g.A.Tabulating.arch (limits_of_policy policy) c.args.generation (tasks_of c.args.commands.items)))
    (sym c.in-May.is) c.run_commands.ensures.text

pub returns-in-Must-clause-text : goal.returns-in-Must-clause-text
returns-in-Must-clause-text g c =
    subst (λ (policy : Policy). WritesText c.run_commands-in-Must.result (g.W.Sink.contents c.args.writer.now) (g.W.Sink.contents c.run_commands-in-Must.new.writer)
    (lines_under (whole_with g.A.CarriesRegisters.carrying g.A.UnwindRule.UnwindRule.meaning g.A.UnwindRule.UnwindRule.fallback g.A.DwarfUnwinding.rows g.A.PeUnwinding.pe_attempt
    g.A.CompactUnwindInfoUnwinding.compact g.A.WayUnwinding.first_rule) (whole_forms g.A.DocumentArch.forms) g.A.Tabulating.arch (limits_of_policy policy) c.args.generation (tasks_of c.args.commands.items)))
    (sym c.in-Must.is) c.run_commands-in-Must.ensures.text
