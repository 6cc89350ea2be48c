use Rattle.std.proofs.Common.{◌≡◌, drop}
use Rattle.backtrace_files.specs.FileViews.{files_seen}
use Rattle.backtrace_files.specs.Locations.{file_at}
use Rattle.backtrace_files.proofs.locations.file_at.Given as goal

abbrev pub invariant-loop-file : goal.invariant-loop-file
invariant-loop-file l = file_at (files_seen (drop l.file-index l.files)) l.address ≡ file_at (files_seen l.files) l.address
