-- Initial lengths, and lengths, offsets and addresses of a given size in bytes (DWARF 5, 7.2.2, 7.4 and 7.5.5).
use Rattle.std.specs.Prelude.{ℕ, ◌==◌, ◌||◌, Bool, Result, Ok, Err, nat_lt, if◌then◌else◌}
use Rattle.dwarf_constants.specs.Format.{word_size}
use Rattle.dwarf_constants.specs.declared.common.Format.{Format}
use Rattle.dwarf_constants.specs.declared.common.Format.TheVariants.{Dwarf32, Dwarf64}
use Rattle.dwarf_constants.specs.declared.error.Error.{Error}
use Rattle.dwarf_constants.specs.declared.error.Error.TheVariants.{UnknownReservedLength, UnsupportedAddressSize, UnsupportedOffsetSize}
use Rattle.dwarf_endianity.specs.Offset.{offset_below}
use Rattle.dwarf_readers.specs.Stretch.{Stretch, ◌>>=◌, byte_at, requirement, number_at}

-- what is left after a read: after an error, all that there was
abbrev pub left_by : {A : Type 0} → Result (A × Stretch) Error → Stretch → Stretch
left_by (Ok x) s = x.1
left_by (Err e) s = s

-- a number as an offset, and what is left
abbrev pub as_offset : ℕ → ℕ × Stretch → Result (ℕ × Stretch) Error
as_offset limit n = do
  offset ← offset_below limit n.0
  Ok (offset, n.1)

-- an offset of the format's size (DWARF 5, 7.4)
abbrev pub word_at : ℕ → Format → Stretch → Result (ℕ × Stretch) Error
word_at limit format s = number_at (word_size format) s >>= as_offset limit

-- an initial length by its first four bytes: a length, or an escape before eight bytes of the 64-bit format (DWARF 5, 7.2.2)
abbrev pub length_behind : ℕ → ℕ × Stretch → Result ((ℕ × Format) × Stretch) Error
length_behind limit n =
    if nat_lt n.0 0xfffffff0 then (do
      length ← as_offset limit n
      Ok ((length.0, Dwarf32), length.1))
    else if n.0 == 0xffffffff then (do
      length ← word_at limit Dwarf64 n.1
      Ok ((length.0, Dwarf64), length.1))
    else Err UnknownReservedLength

-- an initial length and its format (DWARF 5, 7.2.2)
abbrev pub initial_length_at : ℕ → Stretch → Result ((ℕ × Format) × Stretch) Error
initial_length_at limit s = number_at 4 s >>= length_behind limit

-- a length with its format, as the number that value shows it to be
abbrev pub length_shown : {O : Type 0} → (O → ℕ) → O × Format → ℕ × Format
length_shown value length = (value length.0, length.1)

-- what is left after an error in an initial length whose first four bytes were read
abbrev pub left_by_length : ℕ × Stretch → Stretch
left_by_length n = if n.0 == 0xffffffff then left_by (number_at 8 n.1) n.1 else n.1

-- what is left after an error in an initial length
abbrev pub left_by_initial_length : Result (ℕ × Stretch) Error → Stretch → Stretch
left_by_initial_length (Ok n) s = left_by_length n
left_by_initial_length (Err e) s = s

-- the size of an address or an offset, in bytes
abbrev pub is_size : ℕ → Bool
is_size n = n == 1 || n == 2 || n == 4 || n == 8

-- the size of addresses, in one byte
abbrev pub address_size_at : Stretch → Result (ℕ × Stretch) Error
address_size_at s = do
  size ← byte_at s
  _ ← requirement (is_size size.0) (UnsupportedAddressSize size.0)
  Ok size

-- an address of this size in bytes
abbrev pub address_at : ℕ → Stretch → Result (ℕ × Stretch) Error
address_at size s = do
  _ ← requirement (is_size size) (UnsupportedAddressSize size)
  number_at size s

-- the number of an offset of this size in bytes
abbrev pub sized_number_at : ℕ → Stretch → Result (ℕ × Stretch) Error
sized_number_at size s = do
  _ ← requirement (is_size size) (UnsupportedOffsetSize size)
  number_at size s

-- an offset of this size in bytes
abbrev pub sized_offset_at : ℕ → ℕ → Stretch → Result (ℕ × Stretch) Error
sized_offset_at limit size s = sized_number_at size s >>= as_offset limit
