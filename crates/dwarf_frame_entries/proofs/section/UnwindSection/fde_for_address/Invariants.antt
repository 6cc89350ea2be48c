use Rattle.std.proofs.Common.{◌≡◌, Bool, length}
use Rattle.std.specs.List.{All}
use Rattle.dwarf_frame_entries.specs.AddressLookups.{fde_for, fde_for_address}
use Rattle.dwarf_frame_entries.specs.CieReaders.{ReadsCies}
use Rattle.dwarf_frame_entries.specs.SectionFdes.{IsOfSection}
use Rattle.dwarf_frame_entries.proofs.section.UnwindSection.fde_for_address.Given as goal

-- if CIEs are read as the section says, they still are, and the entries that are left decide as all do
abbrev pub invariant-loop-get_cie : goal.invariant-loop-get_cie
invariant-loop-get_cie g l =
    let frame = g.Self._UnwindSectionPrivate.frame in
    let section = frame l.self l.bases in
    let reads = ReadsCies (goal.F-step g) g.R.Reader.stretch g.R.Offset.ReaderOffset.value frame g.Self.Offset.UnwindOffset.number section in
    record {
      callable : goal.F-IsAlwaysCallable g l.get_cie;
      of_section : All (IsOfSection section) l.entries.entries;
      left : (may_allocate : Bool) → reads l.fn.get_cie may_allocate
          → reads l.get_cie may_allocate × (fde_for section l.address l.entries.entries ≡ fde_for_address section l.address);
    }

abbrev pub decreases-loop-get_cie : goal.decreases-loop-get_cie
decreases-loop-get_cie g l = length l.entries.entries
