-- Spellings in memory.
use Rattle.std.specs.Prelude.{ℕ, List, take}
use Rattle.dwarf_readers.specs.declared.leb128.write.Leb128.{Leb128}

-- the bytes of a spelling
abbrev pub spelling : Leb128 → List ℕ
spelling s = take s.len s.bytes
