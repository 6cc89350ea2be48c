-- The addresses that the pointers of one section are relative to (LSB 5.0, 10.5).
use Rattle.std.specs.Prelude.{ℕ, Some}
use Rattle.dwarf_frame_rows.specs.declared.base_addresses.SectionBaseAddresses.{SectionBaseAddresses}

-- the addresses with the start of the code, which textrel pointers are relative to
abbrev pub with_text : ℕ → SectionBaseAddresses → SectionBaseAddresses
with_text address bases = record bases { text = Some address }
