use Rattle.std.proofs.Common.{arith, sym, drop, subst, ap, ◌∙◌}
use Rattle.std.specs.Prelude.{Ok, List}
use Rattle.core_files.specs.MappedFiles.{FileMapping}
use Rattle.core_files.specs.NoteViews.{notes_seen, mappings_of}
use Rattle.core_files.specs.Refusals.{CoreResult, Gives}
use Rattle.core_files.specs.declared.mapped_files.MappedFile.{MappedFile}
use Rattle.core_files.proofs.NoteLaws.{files-here, files-later, files-end, notes-end}
use Rattle.core_files.proofs.notes.files_of.Goals as goal

pub returns-then-is_file_table : goal.returns-then-is_file_table
returns-then-is_file_table c =
    subst (λ (said : CoreResult (List FileMapping)). Gives (λ files. mappings_of files.items) c.read_files.result said)
    (sym (c.loop-number.invariant ∙ files-here c.args.notes.now c.loop-number.number _ (omega arith) c.if-is_file_table.ensures)) c.read_files.ensures

pub loop-number-preserved : goal.loop-number-preserved
loop-number-preserved c = c.loop-number.invariant ∙ files-later c.args.notes.now c.loop-number.number _ (omega arith) c.if-is_file_table.ensures

pub returns : goal.returns
returns c =
    c.loop-number.invariant ∙ files-end c.loop-number.number (drop c.loop-number.number (notes_seen c.args.notes.now)) (notes-end c.args.notes.now c.loop-number.number (omega arith))
    ∙ ap (λ (files : List MappedFile). Ok (mappings_of files)) (sym c.new.ensures.items)
