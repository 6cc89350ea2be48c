-- The list of entries, one read after the other.
use Rattle.std.proofs.Common.{◌≡◌, ◌⊎◌, inl, inr, ◌+◌, ◌<◌, ◌≤◌, Bool, true, false, cond, [], ◌∷◌, length, Option, Some, None, Ok, Err, refl, sym, ap, subst, ◌∙◌, arith}
use Rattle.std.specs.Prelude.{◌==◌}
use Rattle.std.specs.List.{filter_map}
use Rattle.list_laws.specs.Items.{Shrinks, items_from, items_of, rest_from, rest_of}
use Rattle.list_laws.proofs.Laws.{items-first, rest-first}
use Rattle.dwarf_constants.specs.declared.error.Error.{Error}
use Rattle.dwarf_readers.specs.Stretch.{Stretch, ◌>>=◌, empty_stretch}
use Rattle.dwarf_readers.specs.Remainder.{Takes, TakesItem, size_of}
use Rattle.dwarf_readers.proofs.Laws.{initial_length_takes, items_shrink, leaves_from, leaves_if, leaves_is, leaves_none, leaves_ok, leaves_then, split_takes}
use Rattle.dwarf_frame_entries.specs.Entries.{AnyEntry, entry_at, entry_within, offset_in}
use Rattle.dwarf_frame_entries.specs.EntryLists.{ListEnd, SectionEnd, Terminator, Failed, end_by, entries_from, entry_there, list_end_from, next_length, unless_ended}
use Rattle.dwarf_frame_entries.specs.Parts.{IsPart}
use Rattle.dwarf_frame_rows.specs.FrameSection.{FrameSection}
use Rattle.dwarf_frame_entries.proofs.Behind.{entry-left, left-known, part-behind}

-- a length takes four bytes at least
pub entry_takes : (section : FrameSection) (s : Stretch) → Takes 4 s (entry_at section s)
entry_takes section s =
    leaves_then (initial_length_takes section.limit s) (λ length le.
    leaves_if (length.0.0 == 0) (leaves_ok le)
    (leaves_then (leaves_from {m = 4} (split_takes length.0.0 length.1) (omega arith)) (λ parts less.
    leaves_then {n = 0} (leaves_none (entry_within section (record { offset = offset_in section s; length = length.0.0 }) length.0.1 parts.0)) (λ entry _. leaves_ok less))))

ended_takes : (ends : Bool) (s : Stretch) (read : Option AnyEntry × Stretch) → 4 + length read.1.bytes ≤ length s.bytes → TakesItem 4 s (unless_ended ends read)
ended_takes true s (None, rest) le = leaves_ok tt
ended_takes true s (Some entry, rest) le = leaves_ok le
ended_takes false s (read, rest) le = leaves_ok le

pub entries_shrink : (section : FrameSection) → Shrinks size_of (next_length section)
entries_shrink section =
    items_shrink (next_length section) (λ s. leaves_if (length s.bytes == 0) (leaves_ok tt)
    (leaves_then (entry_takes section s) (λ read le. leaves_from {m = 1} (ended_takes section.kind.ends_at_zero s read le) (omega arith))))

-- ---- what one step says of the list

-- the section has ended
pub entries-ended : (section : FrameSection) (s : Stretch) → next_length section s ≡ Ok None → entries_from section s ≡ []
unfolding entries_from
entries-ended section s is = ap (filter_map entry_there) (items-first size_of (next_length section) (entries_shrink section) s ∙ ap (items_from (items_of size_of (next_length section))) is)

-- a length of 0 that is passed over
pub entries-passed : (section : FrameSection) (s rest : Stretch) → next_length section s ≡ Ok (Some (None, rest)) → entries_from section s ≡ entries_from section rest
unfolding entries_from
entries-passed section s rest is = ap (filter_map entry_there) (items-first size_of (next_length section) (entries_shrink section) s ∙ ap (items_from (items_of size_of (next_length section))) is)

-- an entry
pub entries-read : (section : FrameSection) (s rest : Stretch) (entry : AnyEntry) → next_length section s ≡ Ok (Some (Some entry, rest)) → entries_from section s ≡ Ok entry ∷ entries_from section rest
unfolding entries_from
entries-read section s rest entry is = ap (filter_map entry_there) (items-first size_of (next_length section) (entries_shrink section) s ∙ ap (items_from (items_of size_of (next_length section))) is)

-- a refusal
pub entries-refused : (section : FrameSection) (s : Stretch) (e : Error) → next_length section s ≡ Err e → entries_from section s ≡ Err e ∷ []
unfolding entries_from
entries-refused section s e is = ap (filter_map entry_there) (items-first size_of (next_length section) (entries_shrink section) s ∙ ap (items_from (items_of size_of (next_length section))) is)

-- behind anything that stands at a length the list ends as the rest does
pub end-passed : (section : FrameSection) (s rest : Stretch) (read : Option AnyEntry) → next_length section s ≡ Ok (Some (read, rest)) → list_end_from section s ≡ list_end_from section rest
unfolding list_end_from
end-passed section s rest read is =
    ap (λ left. end_by left (next_length section left)) (rest-first size_of (next_length section) (entries_shrink section) s ∙ ap (rest_from (rest_of size_of (next_length section)) s) is)

pub end-ended : (section : FrameSection) (s : Stretch) → next_length section s ≡ Ok None → (list_end_from section s ≡ SectionEnd) ⊎ (list_end_from section s ≡ Terminator)
unfolding list_end_from
end-ended section s is =
    either (length s.bytes == 0) (ap (λ left. end_by left (next_length section left)) (rest-first size_of (next_length section) (entries_shrink section) s ∙ ap (rest_from (rest_of size_of (next_length section)) s) is) ∙ ap (end_by s) is)
  where
    either : (empty : Bool) {end : ListEnd} → end ≡ cond empty SectionEnd Terminator → (end ≡ SectionEnd) ⊎ (end ≡ Terminator)
    either true e = inl e
    either false e = inr e

pub end-refused : (section : FrameSection) (s : Stretch) (e : Error) → next_length section s ≡ Err e → list_end_from section s ≡ Failed e
unfolding list_end_from
end-refused section s e is =
    ap (λ left. end_by left (next_length section left)) (rest-first size_of (next_length section) (entries_shrink section) s ∙ ap (rest_from (rest_of size_of (next_length section)) s) is) ∙ ap (end_by s) is

-- where no bytes are left the section has ended
pub next-none : (section : FrameSection) (s : Stretch) → (length s.bytes == 0) ≡ true → next_length section s ≡ Ok None
next-none section s none = rw none refl

-- where bytes are left the next length is what stands there
pub next-there : (section : FrameSection) (s : Stretch) → (length s.bytes == 0) ≡ false → next_length section s ≡ (entry_at section s >>= unless_ended section.kind.ends_at_zero)
next-there section s some = rw some refl

-- ---- the next length, by what is read at the front

pub next-entry : (section : FrameSection) (s rest : Stretch) (entry : AnyEntry) → (length s.bytes == 0) ≡ false → entry_at section s ≡ Ok (Some entry, rest)
    → next_length section s ≡ Ok (Some (Some entry, rest))
next-entry section s rest entry some is = next-there section s some ∙ ap (λ read. read >>= unless_ended section.kind.ends_at_zero) is ∙ kept section.kind.ends_at_zero
  where
    kept : (ends : Bool) → unless_ended ends (Some entry, rest) ≡ Ok (Some (Some entry, rest))
    kept true = refl
    kept false = refl

pub next-passed : (section : FrameSection) (s rest : Stretch) → (length s.bytes == 0) ≡ false → entry_at section s ≡ Ok (None, rest) → section.kind.ends_at_zero ≡ false
    → next_length section s ≡ Ok (Some (None, rest))
next-passed section s rest some is goes_on = next-there section s some ∙ ap (λ read. read >>= unless_ended section.kind.ends_at_zero) is ∙ ap (λ ends. unless_ended ends (None, rest)) goes_on

pub next-ended : (section : FrameSection) (s rest : Stretch) → (length s.bytes == 0) ≡ false → entry_at section s ≡ Ok (None, rest) → section.kind.ends_at_zero ≡ true
    → next_length section s ≡ Ok None
next-ended section s rest some is ends = next-there section s some ∙ ap (λ read. read >>= unless_ended section.kind.ends_at_zero) is ∙ ap (λ ends. unless_ended ends (None, rest)) ends

pub next-refused : (section : FrameSection) (s : Stretch) (e : Error) → (length s.bytes == 0) ≡ false → entry_at section s ≡ Err e → next_length section s ≡ Err e
next-refused section s e some is = next-there section s some ∙ ap (λ read. read >>= unless_ended section.kind.ends_at_zero) is

-- ---- what a read of the next entry says of a list that it goes on from

-- a list that goes on at a stretch of its section
pub record GoesOnAt (section : FrameSection) (start s : Stretch) : Type 0 where
  pub entries : entries_from section start ≡ entries_from section s
  pub end : list_end_from section start ≡ list_end_from section s
  pub part : IsPart section.within.bytes s

pub goes_on-entry : (section : FrameSection) (start s rest : Stretch) (entry : AnyEntry) → GoesOnAt section start s → (length s.bytes == 0) ≡ false → entry_at section s ≡ Ok (Some entry, rest)
    → (entries_from section start ≡ Ok entry ∷ entries_from section rest) × (list_end_from section start ≡ list_end_from section rest) × IsPart section.within.bytes rest
goes_on-entry section start s rest entry h some is =
    let next = next-entry section s rest entry some is in (
      h.entries ∙ entries-read section s rest entry next,
      h.end ∙ end-passed section s rest (Some entry) next,
      part-behind section.within.bytes s rest h.part (left-known s rest (Some entry) (entry_at section s) (entry-left section s) is),
    )

pub goes_on-passed : (section : FrameSection) (start s rest : Stretch) → GoesOnAt section start s → (length s.bytes == 0) ≡ false → entry_at section s ≡ Ok (None, rest) → section.kind.ends_at_zero ≡ false
    → GoesOnAt section start rest
goes_on-passed section start s rest h some is passed =
    let next = next-passed section s rest some is passed in
    record {
      entries = h.entries ∙ entries-passed section s rest next;
      end = h.end ∙ end-passed section s rest None next;
      part = part-behind section.within.bytes s rest h.part (left-known s rest None (entry_at section s) (entry-left section s) is);
    }

-- what is left is shorter
pub passed-shorter : (section : FrameSection) (s rest : Stretch) (read : Option AnyEntry) → entry_at section s ≡ Ok (read, rest) → length rest.bytes < length s.bytes
passed-shorter section s rest read is = let less = leaves_is (entry_takes section s) is in omega arith

ended-at : (section : FrameSection) (start s : Stretch) → GoesOnAt section start s → next_length section s ≡ Ok None
    → (entries_from section start ≡ []) × ((list_end_from section start ≡ SectionEnd) ⊎ (list_end_from section start ≡ Terminator))
ended-at section start s h next =
    let P : ListEnd → Type 0 = λ end. (end ≡ SectionEnd) ⊎ (end ≡ Terminator) in
    (h.entries ∙ entries-ended section s next, subst P (sym h.end) (end-ended section s next))

pub goes_on-ended : (section : FrameSection) (start s rest : Stretch) → GoesOnAt section start s → (length s.bytes == 0) ≡ false → entry_at section s ≡ Ok (None, rest) → section.kind.ends_at_zero ≡ true
    → (entries_from section start ≡ []) × ((list_end_from section start ≡ SectionEnd) ⊎ (list_end_from section start ≡ Terminator))
goes_on-ended section start s rest h some is ends = ended-at section start s h (next-ended section s rest some is ends)

pub goes_on-none : (section : FrameSection) (start s : Stretch) → GoesOnAt section start s → (length s.bytes == 0) ≡ true
    → (entries_from section start ≡ []) × ((list_end_from section start ≡ SectionEnd) ⊎ (list_end_from section start ≡ Terminator))
goes_on-none section start s h none = ended-at section start s h (next-none section s none)

pub goes_on-refused : (section : FrameSection) (start s : Stretch) (e : Error) → GoesOnAt section start s → (length s.bytes == 0) ≡ false → entry_at section s ≡ Err e
    → (entries_from section start ≡ Err e ∷ []) × (list_end_from section start ≡ Failed e)
goes_on-refused section start s e h some is =
    let next = next-refused section s e some is in
    (h.entries ∙ entries-refused section s e next, h.end ∙ end-refused section s e next)

-- no bytes, no entries
pub entries-empty : (section : FrameSection) (s t : Stretch) → t ≡ empty_stretch s → entries_from section t ≡ []
entries-empty section s t e = entries-ended section t (next-none section t (ap (λ (x : Stretch). length x.bytes == 0) e))
