-- Sets of addresses, and the addresses of a set (DWARF 5, 7.27).
use Rattle.std.specs.Prelude.{ℕ, ◌-◌, ◌==◌, List, length, Result, Ok}
use Rattle.dwarf_constants.specs.declared.common.Encoding.{Encoding}
use Rattle.dwarf_constants.specs.declared.common.Format.{Format}
use Rattle.dwarf_constants.specs.declared.error.Error.{Error}
use Rattle.dwarf_constants.specs.declared.error.Error.TheVariants.{UnknownVersion, UnsupportedSegmentSize}
use Rattle.dwarf_readers.specs.InitialLength.{address_at, address_size_at, initial_length_at}
use Rattle.dwarf_readers.specs.Stretch.{Stretch, ◌>>=◌, byte_at, requirement, number_at, split_at}
use Rattle.dwarf_readers.specs.Remainder.{item_at, size_of}
use Rattle.list_laws.specs.Items.{Answer, items_of}

-- a set of addresses: its offset in the section, its length, how it is encoded, and its addresses
pub record AddressSet : Type 0 where
  pub offset : ℕ
  pub length : ℕ
  pub encoding : Encoding
  pub addresses : Stretch

-- the encoding of the addresses in a set of this format
abbrev pub set_encoding_at : Format → Stretch → Result (Encoding × Stretch) Error
set_encoding_at format s = do
  version ← number_at 2 s
  _ ← requirement (version.0 == 5) (UnknownVersion version.0)
  size ← address_size_at version.1
  segment ← byte_at size.1
  _ ← requirement (segment.0 == 0) UnsupportedSegmentSize
  Ok (record { address_size = size.0; format = format; version = version.0 }, segment.1)

-- the encoding and the addresses of a set, which follow its length
abbrev pub set_behind : ℕ → ℕ → Format → Stretch → Result AddressSet Error
set_behind offset length format s = do
  encoding ← set_encoding_at format s
  Ok (record { offset = offset; length = length; encoding = encoding.0; addresses = encoding.1 })

-- the set at this offset, and what is left after it
abbrev pub set_at : ℕ → ℕ → Stretch → Result (AddressSet × Stretch) Error
set_at limit offset s = do
  length ← initial_length_at limit s
  part ← split_at length.0.0 length.1
  set ← set_behind offset length.0.0 length.0.1 part.0
  Ok (set, part.1)

-- the next set, which is at this offset, if bytes are left
abbrev pub next_set : ℕ → ℕ → Stretch → Answer Stretch AddressSet Error
next_set limit offset s = item_at (set_at limit offset) s

-- the next address of this size, if bytes are left
abbrev pub next_address : ℕ → Stretch → Answer Stretch ℕ Error
next_address size s = item_at (address_at size) s

-- the next set of a section of this length: its offset is the length of what is before it
abbrev pub set_step : ℕ → ℕ → Stretch → Answer Stretch AddressSet Error
set_step limit size s = next_set limit (size - length s.bytes) s

-- the sets that are left of a section of this length, up to the first error
unfoldable pub sets_left : ℕ → ℕ → Stretch → List (Result AddressSet Error)
sets_left limit size s = items_of size_of (set_step limit size) s

-- the sets of a section
abbrev pub sets_in : ℕ → Stretch → List (Result AddressSet Error)
sets_in limit section = sets_left limit (length section.bytes) section

-- the addresses of this size, up to the first error
unfoldable pub addresses_at : ℕ → Stretch → List (Result ℕ Error)
addresses_at size s = items_of size_of (next_address size) s

-- the addresses of a set
abbrev pub addresses_of : AddressSet → List (Result ℕ Error)
addresses_of set = addresses_at set.encoding.address_size set.addresses
