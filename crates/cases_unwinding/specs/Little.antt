-- A little-endian reader as contracts see it.
use Rattle.std.specs.Prelude.{false}
use Rattle.dwarf_readers.specs.declared.endian_slice.EndianSlice.{EndianSlice}
use Rattle.dwarf_endianity.specs.declared.endianity.LittleEndian.{LittleEndian}
use Rattle.dwarf_readers.specs.EndianSlice.{stretch_of}
use Rattle.dwarf_readers.specs.Stretch.{Stretch}

-- the bytes that are left, and the offset of the first of them; the least significant byte of a number comes first
abbrev pub little : EndianSlice LittleEndian → Stretch
little reader = stretch_of (λ _. false) reader
