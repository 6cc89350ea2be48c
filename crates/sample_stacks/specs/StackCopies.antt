-- The words of the part of a stack that was copied.
use Rattle.std.specs.Prelude.{ℕ, ◌+◌, ◌-◌, nat_lt, nat_le, ◌&&◌, if◌then◌else◌, Bool, List, length, take, drop, Option, Some, None}
use Rattle.dwarf_endianity.specs.ByteOrder.{little_endian}
use Rattle.framehop_registers.specs.Callback.{Words}
use Rattle.sample_stacks.specs.declared.stack_copy.StackCopy.{StackCopy}

-- The number in eight bytes from an offset on, lowest byte first.
unfoldable pub number_at : List ℕ → ℕ → ℕ
number_at bytes at = little_endian (take 8 (drop at bytes))

-- The word at an address, if its eight bytes are among those from the start on.
abbrev pub word_in : ℕ → List ℕ → ℕ → Option ℕ
word_in start bytes address =
    if nat_le start address && nat_le (address - start + 8) (length bytes) then Some (number_at bytes (address - start)) else None

-- The words of a copy.
abbrev pub copied_words : StackCopy → Words
copied_words copy address = word_in copy.start copy.bytes.now address

-- A word that isn't in the copy and doesn't begin before it is behind it.
abbrev pub is_behind : ℕ → ℕ → Bool
is_behind start address = nat_le start address
