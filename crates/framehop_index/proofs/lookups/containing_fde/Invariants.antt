use Rattle.std.proofs.Common.{◌≡◌, length}
use Rattle.std.specs.List.{All}
use Rattle.dwarf_frame_entries.specs.AddressLookups.{fde_for_address_skipping}
use Rattle.dwarf_frame_entries.specs.SectionFdes.{IsOfSection}
use Rattle.framehop_index.specs.LastCie.{IsLastCie}
use Rattle.framehop_index.proofs.Scans.{scan_among}
use Rattle.framehop_index.proofs.lookups.containing_fde.Given as goal

-- the entries that are left give what all do
abbrev pub invariant-entries : goal.invariant-entries
invariant-entries g l =
    let section = g.Section._UnwindSectionPrivate.frame l.section l.bases in
    record {
      left : scan_among section l.address l.entries.entries l.entries.end ≡ fde_for_address_skipping section l.address;
      within : All (IsOfSection section) l.entries.entries;
      last : IsLastCie g.R.Reader.stretch g.R.Offset.ReaderOffset.value section l.last;
    }

abbrev pub decreases-entries : goal.decreases-entries
decreases-entries g l = length l.entries.entries
