-- What contracts see of bytes that are loaded.
use Rattle.elf_segments.specs.Segments.{Placed}
use Rattle.elf_segments.specs.declared.segments.PlacedBytes.{PlacedBytes}

-- the address of the first, and the bytes
abbrev pub placed_seen : PlacedBytes → Placed
placed_seen placed = record { address = placed.address; bytes = placed.bytes.now }
