-- Iterators over addresses in memory, as the lists that they give.
use Rattle.std.specs.Prelude.{ℕ, List, Result}
use Rattle.dwarf_constants.specs.declared.error.Error.{Error}
use Rattle.dwarf_read_core.specs.AddressSets.{addresses_at}
use Rattle.dwarf_read_core.specs.declared.addr.AddrEntryIter.{AddrEntryIter}
use Rattle.dwarf_readers.specs.Stretch.{Stretch}

-- the addresses that an iterator has left
abbrev pub addresses_left : {R : Type 0} → (R → Stretch) → AddrEntryIter R → List (Result ℕ Error)
addresses_left stretch i = addresses_at i.encoding.address_size (stretch i.input)
