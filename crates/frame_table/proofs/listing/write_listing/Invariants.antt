use Rattle.std.proofs.Common.{◌≡◌, false, length}
use Rattle.std.specs.Prelude.{◌&&◌}
use Rattle.std.specs.List.{All}
use Rattle.dwarf_frame_entries.specs.SectionFdes.{IsOfSection}
use Rattle.json_program.specs.Stream.{IsWritten}
use Rattle.frame_table.specs.EntryWrites.{setting_by}
use Rattle.frame_table.specs.Listing.{listing_from, listing_of}
use Rattle.frame_table.proofs.listing.write_listing.Given as goal

-- what is written and the listing of the entries that are left make the whole listing, which has no fault if neither has
abbrev pub invariant-entries : goal.invariant-entries
invariant-entries g l =
    let limits = g.S.UnwindContextStorage.limits in
    let section = g.Section._UnwindSectionPrivate.frame l.fn.listed.section.now l.fn.listed.bases.now in
    let s = setting_by g.Section._UnwindSectionPrivate.frame g.Section._UnwindSectionPrivate.extensions limits l.fn.listed in
    record {
      failed : g.W.Sink.has_failed l.writer ≡ false;
      stands : IsWritten (g.W.Sink.contents l.fn.writer) (g.W.Sink.contents l.writer) (listing_from s l.offset l.entries.entries).text (listing_of s).text;
      within : All (IsOfSection section) l.entries.entries;
      known : l.cies ≡ section.within;
      whole : (l.is_whole && (listing_from s l.offset l.entries.entries).is_whole) ≡ (listing_of s).is_whole;
    }

abbrev pub decreases-entries : goal.decreases-entries
decreases-entries g l = length l.entries.entries
