-- The sizes that follow from the format of a unit.
use Rattle.std.specs.Prelude.{ℕ, ◌+◌, nat_le, if◌then◌else◌}
use Rattle.dwarf_constants.specs.declared.common.DwarfFileType.{DwarfFileType}
use Rattle.dwarf_constants.specs.declared.common.DwarfFileType.TheVariants.{Main, Dwo}
use Rattle.dwarf_constants.specs.declared.common.Encoding.{Encoding}
use Rattle.dwarf_constants.specs.declared.common.Format.{Format}
use Rattle.dwarf_constants.specs.declared.common.Format.TheVariants.{Dwarf32, Dwarf64}

-- the size of an offset in bytes (DWARF 5, 7.4)
abbrev pub word_size : Format → ℕ
word_size Dwarf32 = 4
word_size Dwarf64 = 8

-- the size of an initial length in bytes: in the 64-bit format an escape of 4 bytes comes first (DWARF 5, 7.2.2)
abbrev pub initial_length_size : Format → ℕ
initial_length_size Dwarf32 = 4
initial_length_size Dwarf64 = 4 + 8

-- where a unit's string offsets begin if it has no attribute for it: in a split file of version 5 after a header of an initial
-- length, a version and a padding (DWARF 5, 7.26), else at the section's start
abbrev pub default_str_offsets_base : Encoding → DwarfFileType → ℕ
default_str_offsets_base encoding Main = 0
default_str_offsets_base encoding Dwo =
    if nat_le 5 encoding.version then initial_length_size encoding.format + 4 else 0
