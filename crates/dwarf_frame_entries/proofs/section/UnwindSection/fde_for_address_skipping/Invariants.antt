use Rattle.std.proofs.Common.{◌≡◌, Bool, length}
use Rattle.std.specs.List.{All}
use Rattle.dwarf_frame_entries.specs.AddressLookups.{fde_for_address_skipping}
use Rattle.dwarf_frame_entries.specs.CieReaders.{ReadsCies}
use Rattle.dwarf_frame_entries.specs.SectionFdes.{IsOfSection}
use Rattle.dwarf_frame_entries.proofs.SkippingLookups.{skipping_among}
use Rattle.dwarf_frame_entries.proofs.section.UnwindSection.fde_for_address_skipping.Given as goal

-- if CIEs are read as the section says, they still are, and the entries that are left give what all do
abbrev pub invariant-loop-get_cie : goal.invariant-loop-get_cie
invariant-loop-get_cie g l =
    let frame = g.Self._UnwindSectionPrivate.frame in
    let section = frame l.self l.bases in
    let reads = ReadsCies (goal.F-step g) g.R.Reader.stretch g.R.Offset.ReaderOffset.value frame g.Self.Offset.UnwindOffset.number section in
    record {
      callable : goal.F-IsAlwaysCallable g l.get_cie;
      of_section : All (IsOfSection section) l.entries.entries;
      left : (may_allocate : Bool) → reads l.fn.get_cie may_allocate
          → reads l.get_cie may_allocate
          × (skipping_among section l.address l.entries.entries l.entries.end ≡ fde_for_address_skipping section l.address);
    }

abbrev pub decreases-loop-get_cie : goal.decreases-loop-get_cie
decreases-loop-get_cie g l = length l.entries.entries
