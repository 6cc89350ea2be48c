use Rattle.std.proofs.Common.{◌≡◌, drop}
use Rattle.core_files.specs.RangeViews.{ranges_seen}
use Rattle.backtrace_files.specs.BuildIds.{file_at}
use Rattle.backtrace_files.proofs.build_ids.file_at.Given as goal

abbrev pub invariant-loop-segment : goal.invariant-loop-segment
invariant-loop-segment l = file_at (ranges_seen (drop l.segment-index l.segments)) l.address ≡ file_at (ranges_seen l.segments) l.address
