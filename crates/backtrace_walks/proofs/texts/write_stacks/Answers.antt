use Rattle.std.proofs.Common.{List, ◌++◌, false, map, subst, ap, refl, sym, ◌∙◌}
use Rattle.std.proofs.lemmas.List.{append-nil}
use Rattle.std.specs.Io.KnownBytes.{Appends}
use Rattle.backtrace_files.specs.FileViews.{files_seen}
use Rattle.backtrace_files.specs.Files.{ProcessFile}
use Rattle.backtrace_files.specs.GivenViews.{given_seen}
use Rattle.backtrace_headings.specs.Headings.{Heading, heading_of}
use Rattle.backtrace_json.proofs.Laws.{text_in-parts}
use Rattle.backtrace_json.specs.Forms.{close_part, heading_part, stacks_part}
use Rattle.core_files.specs.CoreViews.{contents_of}
use Rattle.json_program.proofs.Laws.{writes_nothing, written_none}
use Rattle.json_program.specs.Stream.{AppendsPrefix}
use Rattle.backtrace_walks.specs.Backtraces.{core_backtraces, core_text}
use Rattle.backtrace_walks.specs.StackTexts.{text_with}
use Rattle.backtrace_walks.proofs.Writes.{fails_in, writes_last, writes_more}
use Rattle.backtrace_walks.proofs.texts.write_stacks.Goals as goal

pub returns-in_err-loaded-clause-text : goal.returns-in_err-loaded-clause-text
returns-in_err-loaded-clause-text g c = writes_nothing c.from_residual.result _ _ c.from_residual.ensures.0

pub returns-in_err-write_heading_part-clause-text : goal.returns-in_err-write_heading_part-clause-text
returns-in_err-write_heading_part-clause-text g c =
    let core = contents_of c.args.core.now in
    let given = map given_seen c.args.given.now in
    let options = c.args.options.now in
    let all = core_text core given options in
    let stacks = core_backtraces core given options in
    let old = g.W.Sink.contents c.args.sink.now in
    let new = g.W.Sink.contents c.write_heading_part.new.sink in
    fails_in c.from_residual-in_err-write_heading_part.result old old new all (heading_part options.form (heading_of core))
    (stacks_part options.form false stacks ++ close_part options.form) all
    c.from_residual-in_err-write_heading_part.ensures.0 (written_none old all) (text_in-parts options.form (heading_of core) stacks)
    (subst (λ (h : Heading). AppendsPrefix old new (heading_part options.form h)) c.heading_of-heading.ensures c.in_err-write_heading_part.ensures.text.prefix)

pub returns-in_err-write_with-clause-text : goal.returns-in_err-write_with-clause-text
returns-in_err-write_with-clause-text g c =
    let core = contents_of c.args.core.now in
    let given = map given_seen c.args.given.now in
    let options = c.args.options.now in
    let all = core_text core given options in
    let stacks = core_backtraces core given options in
    let rest = stacks_part options.form false stacks ++ close_part options.form in
    let old = g.W.Sink.contents c.args.sink.now in
    let mid = g.W.Sink.contents c.write_heading_part.new.sink in
    let new = g.W.Sink.contents c.write_with.new.sink in
    let written = subst (λ (h : Heading). Appends old mid (heading_part options.form h)) c.heading_of-heading.ensures c.in_ok-write_heading_part.ensures.text.whole in
    let begun = writes_more old old mid all (heading_part options.form (heading_of core)) rest all (written_none old all) (text_in-parts options.form (heading_of core) stacks) written in
    fails_in c.from_residual-in_err-write_with.result old mid new rest (stacks_part options.form false stacks) (close_part options.form) all
    c.from_residual-in_err-write_with.ensures.0 begun refl
    (subst (λ (fs : List ProcessFile). AppendsPrefix mid new (text_with core fs options)) (ap files_seen c.as_slice.ensures.value ∙ c.in_ok-loaded.ensures)
    c.in_err-write_with.ensures.text.prefix)

pub returns-clause-text : goal.returns-clause-text
returns-clause-text g c =
    let core = contents_of c.args.core.now in
    let given = map given_seen c.args.given.now in
    let options = c.args.options.now in
    let all = core_text core given options in
    let stacks = core_backtraces core given options in
    let close = close_part options.form in
    let rest = stacks_part options.form false stacks ++ close in
    let old = g.W.Sink.contents c.args.sink.now in
    let one = g.W.Sink.contents c.write_heading_part.new.sink in
    let two = g.W.Sink.contents c.write_with.new.sink in
    let new = g.W.Sink.contents c.write_close.new.sink in
    let written = subst (λ (h : Heading). Appends old one (heading_part options.form h)) c.heading_of-heading.ensures c.in_ok-write_heading_part.ensures.text.whole in
    let begun = writes_more old old one all (heading_part options.form (heading_of core)) rest all (written_none old all) (text_in-parts options.form (heading_of core) stacks) written in
    let threads = subst (λ (fs : List ProcessFile). Appends one two (text_with core fs options)) (ap files_seen c.as_slice.ensures.value ∙ c.in_ok-loaded.ensures)
    c.in_ok-write_with.ensures.text.whole in
    let walked = writes_more old one two rest (stacks_part options.form false stacks) close all begun refl threads in
    writes_last c.write_close.result old two new close close all walked (sym (append-nil close)) c.write_close.ensures.text
