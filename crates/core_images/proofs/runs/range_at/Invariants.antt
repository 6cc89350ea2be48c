use Rattle.std.proofs.Common.{◌≡◌, drop}
use Rattle.std.specs.List.{find}
use Rattle.core_files.specs.Ranges.{contains}
use Rattle.core_files.specs.RangeViews.{ranges_seen}
use Rattle.core_images.proofs.runs.range_at.Given as goal

abbrev pub invariant-loop-segment : goal.invariant-loop-segment
invariant-loop-segment l = find (contains l.address) (ranges_seen (drop l.segment-index l.segments)) ≡ find (contains l.address) (ranges_seen l.segments)
