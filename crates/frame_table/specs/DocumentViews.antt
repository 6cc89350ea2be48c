-- Documents as contracts see them.
use Rattle.frame_table.specs.Document.{Stated}
use Rattle.frame_table.specs.declared.document.Stated.{Stated as Decoded}

-- a section that a document stated
abbrev pub stated_view : Decoded → Stated
stated_view stated = record {
  name = stated.name;
  machine = stated.machine;
  start = stated.start;
  address_size = stated.address_size;
  bytes = stated.bytes.items;
}
