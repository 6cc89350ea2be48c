-- What pointers of a section may be relative to, if nothing is known.
use Rattle.std.specs.Prelude.{None}
use Rattle.dwarf_frame_rows.specs.declared.base_addresses.SectionBaseAddresses.{SectionBaseAddresses}

-- no address that pointers are relative to
abbrev pub no_bases : SectionBaseAddresses
no_bases = record { section = None; text = None; data_base = None }
