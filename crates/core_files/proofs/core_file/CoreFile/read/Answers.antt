use Rattle.std.specs.Option.{option_copied}
use Rattle.std.proofs.lemmas.Result.{err_from_is_err_and}
use Rattle.core_files.specs.NoteViews.{notes_seen}
use Rattle.core_files.specs.RangeViews.{ranges_seen}
use Rattle.core_files.specs.SegmentViews.{loaded_by, noted_by}
use Rattle.core_files.proofs.CoreLaws.{header-fails, segments-fail, notes-fail, threads-fail, files-fail, core-is}
use Rattle.core_files.proofs.core_file.CoreFile.read.Goals as goal

pub returns-in_err-elf : goal.returns-in_err-elf
returns-in_err-elf c =
    let given = err_from_is_err_and c.from_residual.result c.from_residual.ensures.1 in
    rw (given.1, given.2) (header-fails (loaded_by (option_copied c.args.parts) c.args.bytes.now) (noted_by (option_copied c.args.parts) c.args.bytes.now) c.args.bytes.now c.in_err-elf.field-0.0 c.in_err-elf.ensures)

pub returns-in_err-segments : goal.returns-in_err-segments
returns-in_err-segments c =
    let header = c.in_ok-elf.elf.header in
    let given = err_from_is_err_and c.from_residual-in_err-segments.result c.from_residual-in_err-segments.ensures.1 in
    rw (given.1, given.2) (segments-fail (loaded_by (option_copied c.args.parts) c.args.bytes.now) (noted_by (option_copied c.args.parts) c.args.bytes.now) c.args.bytes.now header c.in_ok-elf.ensures.1 c.in_err-segments.field-0.0 (rw c.in_ok-elf.ensures.0 at c.in_err-segments.ensures))

pub returns-in_err-notes : goal.returns-in_err-notes
returns-in_err-notes c =
    let header = c.in_ok-elf.elf.header in
    let loaded = rw c.in_ok-elf.ensures.0 at c.in_ok-segments.ensures in
    let given = err_from_is_err_and c.from_residual-in_err-notes.result c.from_residual-in_err-notes.ensures.1 in
    rw (given.1, given.2) (notes-fail (loaded_by (option_copied c.args.parts) c.args.bytes.now) (noted_by (option_copied c.args.parts) c.args.bytes.now) c.args.bytes.now header c.in_ok-elf.ensures.1 (ranges_seen c.in_ok-segments.segments.items) loaded c.in_err-notes.field-0.0 (rw c.in_ok-elf.ensures.0 at c.in_err-notes.ensures))

pub returns-in_err-threads : goal.returns-in_err-threads
returns-in_err-threads c =
    let header = c.in_ok-elf.elf.header in
    let loaded = rw c.in_ok-elf.ensures.0 at c.in_ok-segments.ensures in
    let noted = rw c.in_ok-elf.ensures.0 at c.in_ok-notes.ensures in
    let given = err_from_is_err_and c.from_residual-in_err-threads.result c.from_residual-in_err-threads.ensures.1 in
    rw (given.1, given.2) (threads-fail (loaded_by (option_copied c.args.parts) c.args.bytes.now) (noted_by (option_copied c.args.parts) c.args.bytes.now) c.args.bytes.now header c.in_ok-elf.ensures.1 (ranges_seen c.in_ok-segments.segments.items) loaded (notes_seen c.in_ok-notes.notes.items) noted c.in_err-threads.field-0.0
    (rw (c.machine.ensures, c.deref.ensures.value) at c.in_err-threads.ensures))

pub returns-in_err-mapped_files : goal.returns-in_err-mapped_files
returns-in_err-mapped_files c =
    let header = c.in_ok-elf.elf.header in
    let loaded = rw c.in_ok-elf.ensures.0 at c.in_ok-segments.ensures in
    let noted = rw c.in_ok-elf.ensures.0 at c.in_ok-notes.ensures in
    let threaded = rw (c.machine.ensures, c.deref.ensures.value) at c.in_ok-threads.ensures in
    let given = err_from_is_err_and c.from_residual-in_err-mapped_files.result c.from_residual-in_err-mapped_files.ensures.1 in
    rw (given.1, given.2) (files-fail (loaded_by (option_copied c.args.parts) c.args.bytes.now) (noted_by (option_copied c.args.parts) c.args.bytes.now) c.args.bytes.now header c.in_ok-elf.ensures.1 (ranges_seen c.in_ok-segments.segments.items) loaded (notes_seen c.in_ok-notes.notes.items) noted c.in_ok-threads.threads.items threaded
    c.in_err-mapped_files.field-0.0 (rw c.deref-2.ensures.value at c.in_err-mapped_files.ensures))

pub returns : goal.returns
returns c =
    let header = c.in_ok-elf.elf.header in
    let loaded = rw c.in_ok-elf.ensures.0 at c.in_ok-segments.ensures in
    let noted = rw c.in_ok-elf.ensures.0 at c.in_ok-notes.ensures in
    let threaded = rw (c.machine.ensures, c.deref.ensures.value) at c.in_ok-threads.ensures in
    let filed = rw c.deref-2.ensures.value at c.in_ok-mapped_files.ensures in
    rw (c.machine-2.ensures, c.descriptor_of.ensures, c.deref-3.ensures.value, c.descriptor_of-2.ensures, c.deref-4.ensures.value, c.descriptor_of-3.ensures, c.deref-5.ensures.value)
    (core-is (loaded_by (option_copied c.args.parts) c.args.bytes.now) (noted_by (option_copied c.args.parts) c.args.bytes.now) c.args.bytes.now header c.in_ok-elf.ensures.1 (ranges_seen c.in_ok-segments.segments.items) loaded (notes_seen c.in_ok-notes.notes.items) noted c.in_ok-threads.threads.items threaded _ filed)
