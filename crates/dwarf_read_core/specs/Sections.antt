-- Strings, string offsets and addresses, found by their offset in a section.
use Rattle.std.specs.Prelude.{ℕ, ◌+◌, ◌*◌, Result, Ok}
use Rattle.dwarf_constants.specs.Format.{word_size}
use Rattle.dwarf_constants.specs.declared.common.Format.{Format}
use Rattle.dwarf_constants.specs.declared.error.Error.{Error}
use Rattle.dwarf_readers.specs.InitialLength.{address_at, word_at}
use Rattle.dwarf_endianity.specs.Offset.{offset_below}
use Rattle.dwarf_readers.specs.Stretch.{Stretch, ◌>>=◌, behind_at, prefix_at, string_at}

-- a part of a section, by its offset and its size
abbrev pub range_in : ℕ → ℕ → Stretch → Result Stretch Error
range_in offset size section = do
  s ← behind_at offset section
  prefix_at size s

-- the string at an offset (DWARF 5, 7.5.5, class string)
abbrev pub string_in : ℕ → Stretch → Result Stretch Error
string_in offset section = do
  s ← behind_at offset section
  string ← string_at s
  Ok string.0

-- what is left after the base and n entries of this size; an error if its offset isn't below the limit
abbrev pub behind_entries : ℕ → ℕ → ℕ → ℕ → Stretch → Result Stretch Error
behind_entries limit base index size section = do
  offset ← offset_below limit (base + index * size)
  behind_at offset section

-- the string offset of this index (DWARF 5, 7.26)
abbrev pub string_offset_in : ℕ → Format → ℕ → ℕ → Stretch → Result ℕ Error
string_offset_in limit format base index section = do
  s ← behind_entries limit base index (word_size format) section
  offset ← word_at limit format s
  Ok offset.0

-- the address of this index (DWARF 5, 7.27)
abbrev pub address_in : ℕ → ℕ → ℕ → ℕ → Stretch → Result ℕ Error
address_in limit size base index section = do
  s ← behind_entries limit base index size section
  address ← address_at size s
  Ok address.0
