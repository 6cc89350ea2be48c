use Rattle.std.proofs.Common.{◌≡◌, ◌&&◌, drop}
use Rattle.std.specs.Prelude.{◌==◌}
use Rattle.core_files.specs.SegmentViews.{all_zero}
use Rattle.core_files.proofs.segment_bytes.all_zero.Given as goal

abbrev pub invariant-loop-byte : goal.invariant-loop-byte
invariant-loop-byte l = ((l.any == 0) && all_zero (drop l.byte-index l.block)) ≡ all_zero l.block
