-- Checksums of debug files: CRC-32, as the code in the manual of GDB computes it ("Debugging Information in Separate Files",
-- gnu_debuglink_crc32).
use Rattle.std.specs.Prelude.{◌≡◌, ℕ, ◌-◌, ◌/◌, ◌%◌, ◌^◌, ◌<◌, ◌==◌, bit_xor, fold, if◌then◌else◌, List, slice_index}

-- a value without its lowest bit; if that was 1, the polynomial is added to it, bit by bit
unfoldable pub shifted : ℕ → ℕ
shifted value = if value % 2 == 1 then bit_xor (value / 2) 0xedb88320 else value / 2

-- the entry of the table with an index: its eight bits shifted out
unfoldable pub entry_of : ℕ → ℕ
entry_of index = shifted (shifted (shifted (shifted (shifted (shifted (shifted (shifted index)))))))

-- a table has all 256 entries
abbrev pub IsTable : List ℕ → Type 0
IsTable table = (index : ℕ) → index < 256 → slice_index table index ≡ entry_of index

-- the register with a byte more
unfoldable pub with_byte : ℕ → ℕ → ℕ
with_byte register byte = bit_xor (entry_of (bit_xor register byte % 256)) (register / 256)

-- all bits of a number of 32 bits turned
abbrev pub complement : ℕ → ℕ
complement value = 2 ^ 32 - 1 - value

-- the checksum of some bytes: the register after all of them, from 0 on; it is turned before and after
abbrev pub checksum_of : List ℕ → ℕ
checksum_of bytes = complement (fold with_byte (complement 0) bytes)
