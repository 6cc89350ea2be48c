-- Sections that are listed as contracts see them.
use Rattle.frame_table.specs.Listing.{Listing, listing_of}
use Rattle.frame_table.specs.Located.{Located, setting_of}
use Rattle.frame_table.specs.declared.located.Located.{Located as Lent}

-- a section
abbrev pub located_view : Lent → Located
located_view located = record {
  name = located.name;
  machine = located.machine;
  bases = located.bases;
  address_size = located.address_size;
  bytes = located.bytes.now;
}

-- its listing
abbrev pub listing_by : Lent → Listing
listing_by located = listing_of (setting_of (located_view located))
