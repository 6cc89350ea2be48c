use Rattle.dwarf_frame_entries.proofs.LookupMemory.{address_lookup_memory, cie_memory, fde_memory, skipping_lookup_memory}
use Rattle.dwarf_frame_entries.proofs.memory_laws.lookups_never_want_memory.Goals as goal

pub returns : goal.returns
returns c = record {
  cie = cie_memory;
  fde = fde_memory;
  address = address_lookup_memory;
  skipping = skipping_lookup_memory;
}
