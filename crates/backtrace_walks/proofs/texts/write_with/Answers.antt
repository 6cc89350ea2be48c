use Rattle.std.proofs.Common.{false, subst, sym, ◌∙◌}
use Rattle.backtrace_files.specs.FileViews.{files_seen}
use Rattle.backtrace_json.specs.Forms.{stacks_part}
use Rattle.core_files.specs.CoreViews.{contents_of}
use Rattle.elf_files.specs.declared.header.Machine.{Machine}
use Rattle.json_program.specs.Stream.{WritesText}
use Rattle.backtrace_walks.specs.Backtraces.{backtraces_on}
use Rattle.backtrace_walks.proofs.texts.write_with.Goals as goal

pub returns-in-X86_64-clause-text : goal.returns-in-X86_64-clause-text
returns-in-X86_64-clause-text g c =
    let old = g.W.Sink.contents c.args.sink.now in
    let new = g.W.Sink.contents c.write_by.new.sink in
    let text = λ (m : Machine). stacks_part c.args.options.now.form false (backtraces_on m (contents_of c.args.core.now) (files_seen c.args.files.now) c.args.options.now) in
    subst (λ (m : Machine). WritesText c.write_by.result old new (text m)) (sym c.in-X86_64.is ∙ c.machine.ensures) c.write_by.ensures.text

pub returns-in-Aarch64-clause-text : goal.returns-in-Aarch64-clause-text
returns-in-Aarch64-clause-text g c =
    let old = g.W.Sink.contents c.args.sink.now in
    let new = g.W.Sink.contents c.write_by-in-Aarch64.new.sink in
    let text = λ (m : Machine). stacks_part c.args.options.now.form false (backtraces_on m (contents_of c.args.core.now) (files_seen c.args.files.now) c.args.options.now) in
    subst (λ (m : Machine). WritesText c.write_by-in-Aarch64.result old new (text m)) (sym c.in-Aarch64.is ∙ c.machine.ensures) c.write_by-in-Aarch64.ensures.text
