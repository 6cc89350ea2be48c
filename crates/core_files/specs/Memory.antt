-- The memory of a process, as a map from addresses to bytes and to words.
--
-- A segment of a core (gABI, "Program Header", PT_LOAD) has p_memsz addresses from p_vaddr on. The file has the bytes of the first
-- p_filesz of them. Linux leaves out those of a mapped file that weren't written to, which the file itself has. A core that was cut off
-- lost the last of its bytes, which no file has.
use Rattle.std.specs.Prelude.{ℕ, zero, suc, ◌+◌, ◌^◌, nat_le, if◌then◌else◌, Bool, false, List, [], ◌∷◌, Option, Some, None}
use Rattle.std.specs.Option.{option_map, option_and_then, option_or}
use Rattle.dwarf_endianity.specs.ByteOrder.{little_endian}
use Rattle.core_files.specs.Ranges.{KnownRange, range_at, byte_in, loses}

-- The byte of the first range that contains an address.
abbrev pub byte_among : List KnownRange → ℕ → Option ℕ
byte_among ranges address = option_and_then (byte_in address) (range_at ranges address)

-- The core lost the byte at an address.
abbrev pub is_lost : List KnownRange → ℕ → Bool
is_lost segments address = elim (range_at segments address) [ Some range ↦ loses address range | None ↦ false ]

-- The byte that a mapped file has at an address, if it has what the core has no byte for: what the core left out, and didn't lose.
abbrev pub byte_left_out : List KnownRange → List KnownRange → ℕ → Option ℕ
byte_left_out segments files address = if is_lost segments address then None else byte_among files address

-- Whether what is at an address may be executed, as the first segment that contains it says.
abbrev pub executable_at : List KnownRange → ℕ → Option Bool
executable_at segments address = option_map (λ range. range.executable) (range_at segments address)

-- The byte at an address: that of a segment, or if the core left it out, that of a mapped file.
unfoldable pub byte_at : List KnownRange → List KnownRange → ℕ → Option ℕ
byte_at segments files address = option_or (byte_among segments address) (byte_left_out segments files address)

-- The bytes at so many addresses, from one on, if each is known.
unfoldable pub bytes_from : (ℕ → Option ℕ) → ℕ → ℕ → Option (List ℕ)
bytes_from byte address zero = Some []
bytes_from byte address (suc count) = option_and_then (λ first. option_map (λ bytes. first ∷ bytes) (bytes_from byte (address + 1) count)) (byte address)

-- The word at an address: eight bytes, the lowest first, at addresses of 64 bits.
unfoldable pub word_at : List KnownRange → List KnownRange → ℕ → Option ℕ
word_at segments files address =
    if nat_le (address + 8) (2 ^ 64) then option_map little_endian (bytes_from (byte_at segments files) address 8) else None
