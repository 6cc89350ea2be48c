use Rattle.std.proofs.Common.{rules, ◌≡◌, ℕ, List, [], ◌++◌, false, sym, ap, subst, ◌∙◌}
use Rattle.std.specs.Prelude.{◌&&◌}
use Rattle.std.proofs.Math.Bool.{and-false, and_assoc}
use Rattle.std.proofs.lemmas.List.{append-nil}
use Rattle.json_program.proofs.Laws.{begun_line, not_failed, written_all, written_prefix, written_more, written_none}
use Rattle.json_program.specs.Stream.{IsWritten}
use Rattle.dwarf_frame_rows.specs.FrameSection.{FrameSection}
use Rattle.dwarf_frame_entries.proofs.Laws.{fdes_of_section, first_of_section, others_of_section}
use Rattle.dwarf_frame_entries.specs.EntryLists.{entries_of}
use Rattle.dwarf_frame_entries.specs.EntryViews.{entry_view}
use Rattle.frame_table.specs.Entries.{fault_text, listed_part}
use Rattle.frame_table.specs.EntryWrites.{setting_by}
use Rattle.frame_table.specs.Listing.{Listing, listing_from, listing_of}
use Rattle.frame_table.proofs.Listings.{goes_on}
use Rattle.frame_table.proofs.Writes.{ends_as, stops_after}
use Rattle.frame_table.proofs.listing.write_listing.Goals as goal

pub entries-init : goal.entries-init
entries-init g c =
    let limits = g.S.UnwindContextStorage.limits in
    let section = g.Section._UnwindSectionPrivate.frame c.args.listed.now.section.now c.args.listed.now.bases.now in
    let s = setting_by g.Section._UnwindSectionPrivate.frame g.Section._UnwindSectionPrivate.extensions limits c.args.listed.now in
    let list = c.entries-entries.result.entries in
    let all : list ≡ entries_of section = ap (λ l. l.entries) c.entries-entries.ensures in
    let starts : section.within.bytes.offset ≡ (g.R.Reader.stretch (g.Section._UnwindSectionPrivate.reader c.args.listed.now.section.now)).offset =
    ap (λ (f : FrameSection). f.within.bytes.offset) (g.met.Section._UnwindSectionPrivate.framed c.args.listed.now.section.now c.args.listed.now.bases.now) in
    let same : listing_from s c.start_of-offset.result list ≡ listing_of s =
    ap (λ (offset : ℕ). listing_from s offset list) (c.start_of-offset.ensures ∙ sym starts) ∙ ap (listing_from s section.within.bytes.offset) all in
    let w = g.W.Sink.contents c.args.writer.now in
    record {
      failed = c.requires;
      stands = subst (λ (t : List ℕ). IsWritten w w (listing_from s c.start_of-offset.result list).text t) (ap (λ (l : Listing). l.text) same) (written_none w (listing_from s c.start_of-offset.result list).text);
      within = rw all (fdes_of_section section);
      known = c.new-cies.ensures;
      whole = ap (λ (l : Listing). l.is_whole) same;
    }

pub returns-in_err-end-in-Ok-Some-clause-listing : goal.returns-in_err-end-in-Ok-Some-clause-listing
returns-in_err-end-in-Ok-Some-clause-listing g c =
    stops_after c.from_residual.result _ _ _ c.from_residual.ensures.0 (written_prefix _ _ _ _ c.entries.invariant.stands)

pub returns-in_err-write_all-in-Ok-Some-clause-listing : goal.returns-in_err-write_all-in-Ok-Some-clause-listing
returns-in_err-write_all-in-Ok-Some-clause-listing g c =
    let limits = g.S.UnwindContextStorage.limits in
    let s = setting_by g.Section._UnwindSectionPrivate.frame g.Section._UnwindSectionPrivate.extensions limits c.args.listed.now in
    let entry = entry_view g.R.Reader.stretch g.R.Offset.ReaderOffset.value c.in-Ok-Some.entry in
    let part = listed_part s entry in
    let list = rw c.in-Ok-Some.field-0-is at c.in-Ok-Some.ensures.list in
    let more = goes_on s c.entries.offset c.entries.entries.entries c.next.new.self.entries entry list in
    let none : c.new-text.result.items ≡ [] = search rules in
    let line : c.as_slice.result.now ≡ part.text = c.as_slice.ensures.value ∙ c.in_ok-end-in-Ok-Some.ensures.lists.0 ∙ ap (λ (xs : List ℕ). xs ++ part.text) none in
    let later = (listing_from s part.end c.next.new.self.entries).text in
    let all = (listing_of s).text in
    let old = g.W.Sink.contents c.args.writer.now in
    let mid = g.W.Sink.contents c.entries.writer in
    let stands = subst (λ (t : List ℕ). IsWritten old mid t all) (ap (λ (l : Listing). l.text) more ∙ ap (λ (xs : List ℕ). xs ++ later) (sym line)) c.entries.invariant.stands in
    stops_after c.from_residual-in_err-write_all-in-Ok-Some.result old (g.W.Sink.contents c.write_all.new.sink) (listing_of s) c.from_residual-in_err-write_all-in-Ok-Some.ensures.0
    (begun_line old mid (g.W.Sink.contents c.write_all.new.sink) c.as_slice.result.now later all stands c.in_err-write_all-in-Ok-Some.ensures.text.prefix)

pub push_entry-requires-clause-entry : goal.push_entry-requires-clause-entry
push_entry-requires-clause-entry g c =
    let section = g.Section._UnwindSectionPrivate.frame c.args.listed.now.section.now c.args.listed.now.bases.now in
    let list = rw c.in-Ok-Some.field-0-is at c.in-Ok-Some.ensures.list in
    first_of_section section c.entries.entries.entries c.next.new.self.entries _ list c.entries.invariant.within

pub entries-preserved : goal.entries-preserved
entries-preserved g c =
    let section = g.Section._UnwindSectionPrivate.frame c.args.listed.now.section.now c.args.listed.now.bases.now in
    let limits = g.S.UnwindContextStorage.limits in
    let s = setting_by g.Section._UnwindSectionPrivate.frame g.Section._UnwindSectionPrivate.extensions limits c.args.listed.now in
    let entry = entry_view g.R.Reader.stretch g.R.Offset.ReaderOffset.value c.in-Ok-Some.entry in
    let part = listed_part s entry in
    let list = rw c.in-Ok-Some.field-0-is at c.in-Ok-Some.ensures.list in
    let others : Listing = listing_from s part.end c.next.new.self.entries in
    let more = goes_on s c.entries.offset c.entries.entries.entries c.next.new.self.entries entry list in
    let none : c.new-text.result.items ≡ [] = search rules in
    let line : c.as_slice.result.now ≡ part.text = c.as_slice.ensures.value ∙ c.in_ok-end-in-Ok-Some.ensures.lists.0 ∙ ap (λ (xs : List ℕ). xs ++ part.text) none in
    let all = (listing_of s).text in
    let old = g.W.Sink.contents c.args.writer.now in
    let mid = g.W.Sink.contents c.entries.writer in
    let new = g.W.Sink.contents c.write_all.new.sink in
    let stands = subst (λ (t : List ℕ). IsWritten old mid t all) (ap (λ (l : Listing). l.text) more ∙ ap (λ (xs : List ℕ). xs ++ others.text) (sym line)) c.entries.invariant.stands in
    rw c.in_ok-end-in-Ok-Some.ensures.lists.1
    (record {
      within = others_of_section section c.entries.entries.entries c.next.new.self.entries _ list c.entries.invariant.within;
      known = c.push_entry.ensures.same ∙ c.entries.invariant.known;
      failed = not_failed (g.W.Sink.has_failed c.write_all.new.sink) c.in_ok-write_all-in-Ok-Some.ensures.write;
      stands = written_more old mid new c.as_slice.result.now others.text all stands c.in_ok-write_all-in-Ok-Some.ensures.text.whole;
      whole = and_assoc c.entries.is_whole part.is_whole others.is_whole ∙ sym (ap (λ (l : Listing). c.entries.is_whole && l.is_whole) more) ∙ c.entries.invariant.whole;
    })

pub returns-in_err-write_fault-in-Err-clause-listing : goal.returns-in_err-write_fault-in-Err-clause-listing
returns-in_err-write_fault-in-Err-clause-listing g c =
    let limits = g.S.UnwindContextStorage.limits in
    let s = setting_by g.Section._UnwindSectionPrivate.frame g.Section._UnwindSectionPrivate.extensions limits c.args.listed.now in
    let all = (listing_of s).text in
    let line = fault_text c.in-Err.error c.entries.offset in
    let old = g.W.Sink.contents c.args.writer.now in
    let mid = g.W.Sink.contents c.entries.writer in
    let stands = subst (λ (t : List ℕ). IsWritten old mid t all) (ap (λ es. (listing_from s c.entries.offset es).text) c.in-Err.ensures.list.0 ∙ sym (append-nil line)) c.entries.invariant.stands in
    stops_after c.from_residual-in_err-write_fault-in-Err.result old (g.W.Sink.contents c.write_fault.new.writer) (listing_of s) c.from_residual-in_err-write_fault-in-Err.ensures.0
    (begun_line old mid (g.W.Sink.contents c.write_fault.new.writer) line [] all stands c.in_err-write_fault-in-Err.ensures.text.prefix)

pub returns-in-Err-clause-listing : goal.returns-in-Err-clause-listing
returns-in-Err-clause-listing g c =
    let limits = g.S.UnwindContextStorage.limits in
    let s = setting_by g.Section._UnwindSectionPrivate.frame g.Section._UnwindSectionPrivate.extensions limits c.args.listed.now in
    let all = (listing_of s).text in
    let line = fault_text c.in-Err.error c.entries.offset in
    let old = g.W.Sink.contents c.args.writer.now in
    let mid = g.W.Sink.contents c.entries.writer in
    let new = g.W.Sink.contents c.write_fault.new.writer in
    let stands = subst (λ (t : List ℕ). IsWritten old mid t all) (ap (λ es. (listing_from s c.entries.offset es).text) c.in-Err.ensures.list.0 ∙ sym (append-nil line)) c.entries.invariant.stands in
    ends_as false old new (listing_of s) (written_all old new all (written_more old mid new line [] all stands c.in_ok-write_fault-in-Err.ensures.text.whole))
    (sym (and-false c.entries.is_whole) ∙ sym (ap (λ es. c.entries.is_whole && (listing_from s c.entries.offset es).is_whole) c.in-Err.ensures.list.0) ∙ c.entries.invariant.whole)
