-- What is kept of the section's FDEs, sorted, is its index.
use Rattle.std.proofs.Common.{ℕ, map}
use Rattle.dwarf_frame_rows.specs.FrameSection.{FrameSection}
use Rattle.framehop_index.specs.CfiIndex.{index_entry}
use Rattle.framehop_index.specs.EntryFor.{indexed_fdes}
use Rattle.framehop_index.specs.Rising.{IsSortedFromBack}
use Rattle.framehop_index.proofs.CfiIndexBuild.{indexes-sorted}
use Rattle.framehop_index.proofs.cfi_index.IndexWithCies.try_new.Goals as goal

pub invariant_of-index : goal.invariant_of-index
invariant_of-index g c = record { ordered = c.in_ok-fdes-2.ensures.ordered }

pub returns : goal.returns
returns g c =
    let base : ℕ = c.args.base_svma in
    let section : FrameSection = g.Section._UnwindSectionPrivate.frame c.args.section.now c.args.bases.now in
    let made = c.in_ok-fdes.ensures in
    let sorted : IsSortedFromBack (map (index_entry base) (indexed_fdes base section)) c.in_ok-fdes-2.fdes.items = rw made.0.0.0 at c.in_ok-fdes-2.ensures in
    ((indexes-sorted base section c.in_ok-fdes-2.fdes.items _ made.1 made.0.0.1 sorted.ordered sorted.moved sorted.stable, made.0.1), made.1)
