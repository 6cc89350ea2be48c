use Rattle.std.proofs.Common.{◌≡◌, length}
use Rattle.std.specs.List.{All}
use Rattle.dwarf_frame_entries.specs.SectionFdes.{IsOfSection, StandsThere}
use Rattle.framehop_index.proofs.CfiIndexBuild.{Gathered}
use Rattle.framehop_index.proofs.KeptCies.{AreKeptBefore}
use Rattle.framehop_index.proofs.cfi_index.kept_fdes.Given as goal

abbrev pub invariant-entries : goal.invariant-entries
invariant-entries g l =
    let section = g.Section._UnwindSectionPrivate.frame l.section l.bases in
    record {
      gathered : Gathered section l.base_svma l.fdes.items l.left_out l.entries.entries l.entries.end;
      within : All (IsOfSection section) l.entries.entries;
      known : l.known ≡ section.within;
      there : All (StandsThere section) l.entries.entries;
      cies : AreKeptBefore section l.entries.entries l.cies;
    }

abbrev pub decreases-entries : goal.decreases-entries
decreases-entries g l = length l.entries.entries
