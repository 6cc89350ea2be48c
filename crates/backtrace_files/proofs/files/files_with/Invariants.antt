use Rattle.std.proofs.Common.{◌≡◌, ◌++◌, drop, map}
use Rattle.core_files.specs.CoreViews.{contents_of}
use Rattle.core_files.specs.NoteViews.{mappings_of}
use Rattle.backtrace_files.specs.FileViews.{files_seen}
use Rattle.backtrace_files.specs.GivenViews.{given_seen}
use Rattle.backtrace_files.specs.ProcessFiles.{files_from}
use Rattle.backtrace_files.proofs.files.files_with.Given as goal

-- the files so far, and then those that are left
abbrev pub invariant-loop-number : goal.invariant-loop-number
invariant-loop-number l =
    let given = map given_seen l.given in
    files_seen l.files.items ++ files_from (contents_of l.core) given l.number (mappings_of (drop l.number l.mappings))
    ≡ files_from (contents_of l.core) given 0 (mappings_of l.mappings)
