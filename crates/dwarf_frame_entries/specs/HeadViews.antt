-- The offset and length of an entry of the code as numbers.
use Rattle.std.specs.Prelude.{ℕ}
use Rattle.dwarf_frame_entries.specs.Entries.{Head}
use Rattle.dwarf_frame_entries.specs.declared.cie.Head.{Head as Read}

-- offset and length as numbers
abbrev pub head_view : {T : Type 0} → (T → ℕ) → Read T → Head
head_view value head = record { offset = value head.offset; length = value head.length }
