use Rattle.std.proofs.Common.{sym, subst}
use Rattle.json_program.specs.Stream.{WritesText}
use Rattle.unwind_run_document.specs.CommandViews.{tasks_of}
use Rattle.unwind_run_document.specs.declared.document.Architecture.{Architecture}
use Rattle.unwind_run_program.specs.Text.{lines_on, limits_of_policy}
use Rattle.unwind_run_program.proofs.program.run_document.Goals as goal

pub returns-in-X86_64-clause-text : goal.returns-in-X86_64-clause-text
returns-in-X86_64-clause-text g c =
    subst (λ (machine : Architecture). WritesText c.run_on.result (g.W.Sink.contents c.args.writer.now) (g.W.Sink.contents c.run_on.new.writer)
    (lines_on machine (limits_of_policy c.args.document.policy) c.args.document.generation (tasks_of c.args.document.commands.items)))
    (sym c.in-X86_64.is) c.run_on.ensures.text

pub returns-in-Aarch64-clause-text : goal.returns-in-Aarch64-clause-text
returns-in-Aarch64-clause-text g c =
    subst (λ (machine : Architecture). WritesText c.run_on-in-Aarch64.result (g.W.Sink.contents c.args.writer.now) (g.W.Sink.contents c.run_on-in-Aarch64.new.writer)
    (lines_on machine (limits_of_policy c.args.document.policy) c.args.document.generation (tasks_of c.args.document.commands.items)))
    (sym c.in-Aarch64.is) c.run_on-in-Aarch64.ensures.text
