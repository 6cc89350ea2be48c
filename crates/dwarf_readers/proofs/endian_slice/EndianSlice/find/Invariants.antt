use Rattle.std.proofs.Common.{◌≡◌, drop}
use Rattle.dwarf_readers.specs.Stretch.{count_before}
use Rattle.dwarf_readers.proofs.Places.{later}
use Rattle.dwarf_readers.proofs.endian_slice.EndianSlice.find.Given as goal

-- a count from here on is one from the start
abbrev pub invariant-loop-i : goal.invariant-loop-i
invariant-loop-i g l = later l.i (count_before l.byte (drop l.i l.self.slice.now)) ≡ count_before l.byte l.self.slice.now
