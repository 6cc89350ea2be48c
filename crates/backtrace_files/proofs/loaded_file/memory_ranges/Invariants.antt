use Rattle.std.proofs.Common.{◌≡◌, ◌++◌, drop}
use Rattle.core_files.specs.RangeViews.{ranges_seen}
use Rattle.backtrace_files.specs.FileViews.{files_seen}
use Rattle.backtrace_files.specs.Files.{ranges_of}
use Rattle.backtrace_files.proofs.loaded_file.memory_ranges.Given as goal

-- what the files so far have, and then those that are left
abbrev pub invariant-loop-file : goal.invariant-loop-file
invariant-loop-file l = ranges_seen l.ranges.items ++ ranges_of (files_seen (drop l.file-index l.files)) ≡ ranges_of (files_seen l.files)
