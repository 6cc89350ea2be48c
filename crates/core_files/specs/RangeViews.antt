-- What contracts see of ranges.
use Rattle.std.specs.Prelude.{List, map}
use Rattle.core_files.specs.declared.memory_range.MemoryRange.{MemoryRange}
use Rattle.core_files.specs.Ranges.{KnownRange, after_zeros}

-- A range, with its bytes.
abbrev pub range_seen : MemoryRange → KnownRange
range_seen range = record {
  address = range.address;
  size = range.size;
  bytes = after_zeros range.zeros range.bytes.now;
  lost = range.lost;
  executable = range.executable;
}

-- Ranges, with their bytes.
abbrev pub ranges_seen : List MemoryRange → List KnownRange
ranges_seen ranges = map range_seen ranges
