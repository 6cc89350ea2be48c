-- The offsets of a section's FDEs rise.
use Rattle.std.proofs.Common.{◌≡◌, ℕ, zero, suc, ◌+◌, ◌<◌, ◌≤◌, Bool, true, false, cond, List, [], ◌∷◌, length, Option, Some, None, Result, Ok, Err, refl, ap, ◌∙◌, arith}
use Rattle.std.specs.Prelude.{◌==◌, nat_lt}
use Rattle.std.specs.List.{All, cons_option, filter_map}
use Rattle.std.specs.Result.{result_ok}
use Rattle.std.proofs.lemmas.List.Elements.{All-nil, All-cons, All-weaker}
use Rattle.list_laws.specs.Items.{Answer, items_from, items_within}
use Rattle.dwarf_constants.specs.declared.common.Format.{Format}
use Rattle.dwarf_constants.specs.declared.common.Format.TheVariants.{Dwarf64}
use Rattle.dwarf_constants.specs.Format.{word_size}
use Rattle.dwarf_constants.specs.declared.error.Error.{Error}
use Rattle.dwarf_endianity.specs.Offset.{offset_below}
use Rattle.dwarf_readers.specs.InitialLength.{as_offset, initial_length_at, word_at}
use Rattle.dwarf_readers.specs.Leb128.{signed_at, unsigned_at}
use Rattle.dwarf_readers.specs.Remainder.{size_of}
use Rattle.dwarf_readers.specs.Stretch.{Stretch, ◌>>=◌, byte_at, number_at, split_at, string_at}
use Rattle.dwarf_frame_rows.specs.FrameSection.{FrameSection, origins_in}
use Rattle.dwarf_frame_rows.specs.SectionKind.{FrameSectionKind}
use Rattle.dwarf_frame_entries.specs.Augmentations.{augmentation_at}
use Rattle.dwarf_frame_entries.specs.Entries.{AnyEntry, Cie, Fde, Head, PartialFde, address_encoding, cie_at, cie_from_offset, code_range_at, entry_at, entry_within, fde_of, id_at, lsda_at, offset_in, partial_at, return_register_at, sizes_at}
use Rattle.dwarf_frame_entries.specs.EntryLists.{entries_from, entry_there, next_length, unless_ended}
use Rattle.dwarf_frame_entries.specs.SectionFdes.{fde_in, whole_fdes}
use Rattle.dwarf_frame_entries.specs.declared.entries.Entry.TheVariants as which
use Rattle.backtrace_lint.proofs.Each.{Each, each-any, each-err, each-if, each-known, each-ok, each-then, each-weaker}

-- ---- what is left after an entry begins after the entry's start

number-on : (n : ℕ) (s : Stretch) → Each (λ (read : ℕ × Stretch). read.1.offset ≡ s.offset + n) (number_at n s)
number-on n s = each-if (nat_lt (length s.bytes) n) each-err (each-ok refl)

as-offset-on : (limit : ℕ) (read : ℕ × Stretch) → Each (λ (offset : ℕ × Stretch). offset.1 ≡ read.1) (as_offset limit read)
as-offset-on limit read = each-any (offset_below limit read.0) (λ offset. each-ok refl)

word-on : (limit : ℕ) (format : Format) (s : Stretch) → Each (λ (read : ℕ × Stretch). s.offset ≤ read.1.offset) (word_at limit format s)
word-on limit format s =
    each-then (number-on (word_size format) s) (λ number on.
    each-weaker (λ (offset : ℕ × Stretch). offset.1 ≡ number.1) (λ (offset : ℕ × Stretch). s.offset ≤ offset.1.offset) (as_offset limit number) (as-offset-on limit number)
    (λ offset same. let at : offset.1.offset ≡ number.1.offset = ap (λ (t : Stretch). t.offset) same in omega arith))

length-on : (limit : ℕ) (s : Stretch) → Each (λ (read : (ℕ × Format) × Stretch). s.offset < read.1.offset) (initial_length_at limit s)
length-on limit s =
    each-then (number-on 4 s) (λ number on.
    each-if (nat_lt number.0 0xfffffff0)
    (each-then (as-offset-on limit number) (λ offset same. each-ok (let at : offset.1.offset ≡ number.1.offset = ap (λ (t : Stretch). t.offset) same in omega arith)))
    (each-if (number.0 == 0xffffffff)
    (each-then (word-on limit Dwarf64 number.1) (λ word le. each-ok (omega arith)))
    each-err))

split-on : (n : ℕ) (s : Stretch) → Each (λ (parts : Stretch × Stretch). s.offset ≤ parts.1.offset) (split_at n s)
split-on n s = each-if (nat_lt (length s.bytes) n) each-err (each-ok (omega arith))

-- ---- entries have the heads that they are read with

cie-head : (section : FrameSection) (head : Head) (format : Format) (s : Stretch) → Each (λ (cie : Cie). cie.head ≡ head) (cie_at section head format s)
cie-head section head format s =
    each-any (byte_at s) (λ version.
    each-any _ (λ _.
    each-any (string_at version.1) (λ text.
    each-any (sizes_at section.kind section.within.address_size version.0 text.1) (λ size.
    each-any (unsigned_at size.1) (λ code.
    each-any (signed_at code.1) (λ factor.
    each-any (return_register_at version.0 factor.1) (λ register.
    each-any (augmentation_at section.limit (origins_in section.within size.0 None) text.0.bytes register.1) (λ augmentation.
    each-ok refl))))))))

partial-head : (section : FrameSection) (head : Head) (place : ℕ) (id : ℕ × Stretch) → Each (λ (partial : PartialFde). partial.head ≡ head) (partial_at section head place id)
partial-head section head place id = each-any (offset_below section.limit id.0) (λ pointer. each-any _ (λ cie_offset. each-ok refl))

-- an FDE at this offset, or any CIE
abbrev IsAt : ℕ → AnyEntry → Type 0
IsAt offset (which.Cie cie) = Unit {0}
IsAt offset (which.Fde partial) = partial.head.offset ≡ offset

entry-head : (section : FrameSection) (head : Head) (format : Format) (s : Stretch) → Each (IsAt head.offset) (entry_within section head format s)
entry-head section head format s =
    each-any (id_at (section.kind.id_width format) s) (λ id.
    each-if (section.kind.is_cie format id.0)
    (each-any (cie_at section head format id.1) (λ cie. each-ok tt))
    (each-then (partial-head section head (offset_in section s) id) (λ partial is. each-ok (ap (λ (h : Head). h.offset) is))))

abbrev MayBeAt : ℕ → Option AnyEntry → Type 0
MayBeAt offset None = Unit {0}
MayBeAt offset (Some entry) = IsAt offset entry

-- an entry is where it is read, and what is left begins after that
entry-on : (section : FrameSection) (s : Stretch) → Each (λ (read : Option AnyEntry × Stretch). MayBeAt (offset_in section s) read.0 × (s.offset < read.1.offset)) (entry_at section s)
entry-on section s =
    each-then (length-on section.limit s) (λ length on.
    each-if (length.0.0 == 0) (each-ok (tt, on))
    (each-then (split-on length.0.0 length.1) (λ parts le.
    each-then (entry-head section (record { offset = offset_in section s; length = length.0.0 }) length.0.1 parts.0) (λ entry is. each-ok (is, omega arith)))))

-- ---- whole FDEs

pub fde-head : (limit : ℕ) (kind : FrameSectionKind) (partial : PartialFde) → Each (λ (fde : Fde). fde.head ≡ partial.head) (fde_of limit kind partial)
fde-head limit kind partial =
    each-any (cie_from_offset (record { limit = limit; kind = kind; within = partial.within }) partial.cie_offset) (λ cie.
    each-any (code_range_at (origins_in partial.within cie.address_size None) (address_encoding cie) partial.rest) (λ addresses.
    each-any (lsda_at limit (origins_in partial.within cie.address_size (Some addresses.0.0)) cie.augmentation addresses.1) (λ lsda.
    each-ok refl)))

-- the FDEs among items that can be read
abbrev pub whole-among : FrameSection → List (Result AnyEntry Error) → List Fde
whole-among section items = filter_map result_ok (filter_map (fde_in section) items)

-- FDEs at or above an offset
abbrev Above : ℕ → List Fde → Type 0
Above n fdes = All (λ (fde : Fde). n ≤ fde.head.offset) fdes

-- each FDE is below those after it
abbrev pub Rises : List Fde → Type 0
Rises [] = Unit {0}
Rises (fde ∷ fdes) = All (λ (other : Fde). fde.head.offset < other.head.offset) fdes × Rises fdes

-- FDEs from an offset on, that rise
abbrev RiseFrom : ℕ → List Fde → Type 0
RiseFrom n fdes = Above n fdes × Rises fdes

from-lower : (n m : ℕ) (fdes : List Fde) → n ≤ m → RiseFrom m fdes → RiseFrom n fdes
from-lower n m fdes le up = (All-weaker (λ (fde : Fde). m ≤ fde.head.offset) (λ (fde : Fde). n ≤ fde.head.offset) (λ fde at. omega arith) fdes up.0, up.1)

one-more : (n m : ℕ) (read : Result Fde Error) (fdes : List Fde) → n < m → Each (λ (fde : Fde). fde.head.offset ≡ n) read → RiseFrom m fdes → RiseFrom n (cons_option (result_ok read) fdes)
one-more n m (Ok fde) fdes less at up =
    let here : fde.head.offset ≡ n = at.each in
    let above = All-weaker (λ (other : Fde). m ≤ other.head.offset) (λ (other : Fde). n ≤ other.head.offset) (λ other le. omega arith) fdes up.0 in
    let below = All-weaker (λ (other : Fde). m ≤ other.head.offset) (λ (other : Fde). fde.head.offset < other.head.offset) (λ other le. omega arith) fdes up.0 in
    (All-cons (λ (other : Fde). n ≤ other.head.offset) fde fdes (omega arith) above, (below, up.1))
one-more n m (Err e) fdes less at up = from-lower n m fdes (omega arith) up

with-entry : (section : FrameSection) (n m : ℕ) (entry : AnyEntry) (items : List (Result AnyEntry Error)) → n < m → IsAt n entry → RiseFrom m (whole-among section items) → RiseFrom n (whole-among section (Ok entry ∷ items))
with-entry section n m (which.Cie cie) items less at up = from-lower n m (whole-among section items) (omega arith) up
with-entry section n m (which.Fde partial) items less at up =
    let read = fde_of section.limit section.kind partial in
    let there = each-weaker (λ (fde : Fde). fde.head ≡ partial.head) (λ (fde : Fde). fde.head.offset ≡ n) read (fde-head section.limit section.kind partial) (λ fde is. ap (λ (head : Head). head.offset) is ∙ at) in
    one-more n m read (whole-among section items) less there up

-- ---- the list

-- what is read at a length
read-there : (empty ends : Bool) (read : Result (Option AnyEntry × Stretch) Error) (item : Option AnyEntry) (rest : Stretch)
    → cond empty (Ok None) (read >>= unless_ended ends) ≡ Ok (Some (item, rest)) → read ≡ Ok (item, rest)
read-there true ends read item rest is = cc
read-there false ends (Err e) item rest is = cc
read-there false true (Ok (None, left)) item rest is = cc
read-there false true (Ok (Some entry, left)) item rest is = cc
read-there false false (Ok (found, left)) item rest is = cc

-- the entries of a stretch, by at most n steps
abbrev entries-within : ℕ → FrameSection → Stretch → List (Result AnyEntry Error)
entries-within n section s = filter_map entry_there (items_within n (next_length section) s)

-- the FDEs in n steps from a stretch of the section rise
abbrev RisesWithin : ℕ → FrameSection → Type 0
RisesWithin n section =
    (s : Stretch) → section.within.bytes.offset ≤ s.offset → RiseFrom (offset_in section s) (whole-among section (entries-within n section s))

rises-by : (n : ℕ) (section : FrameSection) (s : Stretch) → section.within.bytes.offset ≤ s.offset → RisesWithin n section → (answer : Answer Stretch (Option AnyEntry) Error) → next_length section s ≡ answer
    → RiseFrom (offset_in section s) (whole-among section (filter_map entry_there (items_from (items_within n (next_length section)) answer)))
rises-by n section s le others (Err e) is = (All-nil (λ (fde : Fde). offset_in section s ≤ fde.head.offset), tt)
rises-by n section s le others (Ok None) is = (All-nil (λ (fde : Fde). offset_in section s ≤ fde.head.offset), tt)
rises-by n section s le others (Ok (Some (None, rest))) is =
    let read = read-there (length s.bytes == 0) section.kind.ends_at_zero (entry_at section s) None rest is in
    let on = each-known (λ (read : Option AnyEntry × Stretch). MayBeAt (offset_in section s) read.0 × (s.offset < read.1.offset)) (entry_at section s) (None, rest) (entry-on section s) read in
    let less : s.offset < rest.offset = on.1 in
    from-lower (offset_in section s) (offset_in section rest) (whole-among section (entries-within n section rest)) (omega arith) (others rest (omega arith))
rises-by n section s le others (Ok (Some (Some entry, rest))) is =
    let read = read-there (length s.bytes == 0) section.kind.ends_at_zero (entry_at section s) (Some entry) rest is in
    let on = each-known (λ (read : Option AnyEntry × Stretch). MayBeAt (offset_in section s) read.0 × (s.offset < read.1.offset)) (entry_at section s) (Some entry, rest) (entry-on section s) read in
    let less : s.offset < rest.offset = on.1 in
    with-entry section (offset_in section s) (offset_in section rest) entry (entries-within n section rest) (omega arith) on.0 (others rest (omega arith))

rises-within : (n : ℕ) (section : FrameSection) → RisesWithin n section
rises-within zero section s le = (All-nil (λ (fde : Fde). offset_in section s ≤ fde.head.offset), tt)
rises-within (suc n) section s le = rises-by n section s le (rises-within n section) (next_length section s) refl

-- the FDEs of a section rise
pub whole-rise : (section : FrameSection) → Rises (whole_fdes section)
unfolding whole_fdes entries_from
whole-rise section = (rises-within (suc (size_of section.within.bytes)) section section.within.bytes (omega arith)).1
