-- Each entry of a section is what stands at its offset.
use Rattle.std.proofs.Common.{◌≡◌, ℕ, zero, suc, ◌-◌, ◌+◌, Bool, true, false, cond, List, [], ◌∷◌, length, Option, Some, None, Result, Ok, Err, refl, sym, ap, subst, ◌∙◌, arith}
use Rattle.std.specs.Prelude.{◌==◌, nat_lt}
use Rattle.std.specs.List.{All, filter_map}
use Rattle.std.specs.Result.{result_ok}
use Rattle.std.proofs.lemmas.List.Elements.{All-nil, All-cons, All-head, All-tail}
use Rattle.list_laws.specs.Items.{Answer, items_from, items_within}
use Rattle.dwarf_constants.specs.declared.common.Format.{Format}
use Rattle.dwarf_constants.specs.declared.error.Error.{Error}
use Rattle.dwarf_readers.specs.Stretch.{Stretch, ◌>>=◌, behind_at, byte_at, split_at, string_at}
use Rattle.dwarf_readers.specs.Remainder.{size_of}
use Rattle.dwarf_readers.specs.InitialLength.{initial_length_at}
use Rattle.dwarf_readers.specs.Leb128.{signed_at, unsigned_at}
use Rattle.dwarf_endianity.specs.Offset.{offset_below}
use Rattle.dwarf_frame_rows.specs.SectionKind.{FrameSectionKind}
use Rattle.dwarf_frame_rows.specs.FrameSection.{FrameSection, SectionContents, origins_in}
use Rattle.dwarf_frame_entries.specs.declared.entries.Entry.TheVariants as which
use Rattle.dwarf_frame_entries.specs.Augmentations.{augmentation_at}
use Rattle.dwarf_frame_entries.specs.Entries.{AnyEntry, Cie, Fde, Head, PartialFde, address_encoding, code_range_at, cie_among, cie_at, cie_from_offset, entry_at, entry_within, fde_from_offset, fde_of, id_at, lsda_at, offset_in, partial_among, partial_at, partial_fde_from_offset, return_register_at, sizes_at}
use Rattle.dwarf_frame_entries.specs.EntryLists.{entries_from, entries_of, entry_there, next_length, unless_ended}
use Rattle.dwarf_frame_entries.specs.SectionFdes.{CiesStandAtTheirOffsets, IsOfSection, StandsAtItsOffset, StandsThere, fde_in, whole_fdes}
use Rattle.dwarf_frame_entries.proofs.Behind.{IsBehind, behind-both, behind-none, entry-left, left-known}
use Rattle.dwarf_frame_entries.proofs.Each.{Each, each_err, each_if, each_known, each_ok, each_then, each_value}

-- ---- the heads of entries

cie-head : (section : FrameSection) (head : Head) (format : Format) (s : Stretch) → Each (λ (cie : Cie). cie.head ≡ head) (cie_at section head format s)
cie-head section head format s =
    each_value (byte_at s) (λ version.
    each_value _ (λ _.
    each_value (string_at version.1) (λ text.
    each_value (sizes_at section.kind section.within.address_size version.0 text.1) (λ size.
    each_value (unsigned_at size.1) (λ code.
    each_value (signed_at code.1) (λ factor.
    each_value (return_register_at version.0 factor.1) (λ register.
    each_value (augmentation_at section.limit (origins_in section.within size.0 None) text.0.bytes register.1) (λ augmentation.
    each_ok refl))))))))

partial-head : (section : FrameSection) (head : Head) (place : ℕ) (id : ℕ × Stretch) → Each (λ (partial : PartialFde). partial.head ≡ head) (partial_at section head place id)
partial-head section head place id = each_value (offset_below section.limit id.0) (λ pointer. each_value _ (λ cie_offset. each_ok refl))

-- the head of an entry
abbrev HasHead : Head → AnyEntry → Type 0
HasHead head (which.Cie cie) = cie.head ≡ head
HasHead head (which.Fde partial) = partial.head ≡ head

entry-head : (section : FrameSection) (head : Head) (format : Format) (s : Stretch) → Each (HasHead head) (entry_within section head format s)
entry-head section head format s =
    each_value (id_at (section.kind.id_width format) s) (λ id.
    each_if (section.kind.is_cie format id.0)
    (each_then (cie-head section head format id.1) (λ cie is. each_ok is))
    (each_then (partial-head section head (offset_in section s) id) (λ partial is. each_ok is)))

-- an entry that stands at this offset
abbrev AtOffset : ℕ → AnyEntry → Type 0
AtOffset offset (which.Cie cie) = cie.head.offset ≡ offset
AtOffset offset (which.Fde partial) = partial.head.offset ≡ offset

head-offset : (head : Head) (entry : AnyEntry) → HasHead head entry → AtOffset head.offset entry
head-offset head (which.Cie cie) is = ap (λ (h : Head). h.offset) is
head-offset head (which.Fde partial) is = ap (λ (h : Head). h.offset) is

abbrev MayStandAt : ℕ → Option AnyEntry → Type 0
MayStandAt offset None = Unit {0}
MayStandAt offset (Some entry) = AtOffset offset entry

entry-offset : (section : FrameSection) (s : Stretch) → Each (λ (read : Option AnyEntry × Stretch). MayStandAt (offset_in section s) read.0) (entry_at section s)
entry-offset section s =
    each_value (initial_length_at section.limit s) (λ length.
    each_if (length.0.0 == 0) (each_ok tt)
    (each_value (split_at length.0.0 length.1) (λ parts.
    let head : Head = record { offset = offset_in section s; length = length.0.0 } in
    each_then (entry-head section head length.0.1 parts.0) (λ entry is. each_ok (head-offset head entry is)))))

-- ---- what stands at an offset

-- the section behind an offset
at-place : (bytes s : Stretch) → IsBehind bytes s → behind_at (s.offset - bytes.offset) bytes ≡ Ok s
at-place bytes s h =
    let place : s.offset ≡ bytes.offset + h.count = ap (λ (x : Stretch). x.offset) h.is in
    let count : s.offset - bytes.offset ≡ h.count = omega arith in
    let fits : nat_lt (length bytes.bytes) h.count ≡ false = let le = h.within in grind arith in
    rw (count, fits) (ap Ok (sym h.is))

-- an entry that is read is what stands at its offset
stands : (section : FrameSection) (s rest : Stretch) (entry : AnyEntry) → IsBehind section.within.bytes s → entry_at section s ≡ Ok (Some entry, rest) → StandsThere section (Ok entry)
stands section s rest (which.Cie cie) h is =
    let offset : cie.head.offset ≡ offset_in section s = each_known _ (entry_at section s) (Some (which.Cie cie), rest) (entry-offset section s) is in
    ap (cie_from_offset section) offset
    ∙ ap (λ rest. rest >>= λ rest. (entry_at section rest >>= λ entry. cie_among (offset_in section s) entry.0)) (at-place section.within.bytes s h)
    ∙ ap (λ read. read >>= λ entry. cie_among (offset_in section s) entry.0) is
stands section s rest (which.Fde partial) h is =
    let offset : partial.head.offset ≡ offset_in section s = each_known _ (entry_at section s) (Some (which.Fde partial), rest) (entry-offset section s) is in
    ap (partial_fde_from_offset section) offset
    ∙ ap (λ rest. rest >>= λ rest. (entry_at section rest >>= λ entry. partial_among (offset_in section s) entry.0)) (at-place section.within.bytes s h)
    ∙ ap (λ read. read >>= λ entry. partial_among (offset_in section s) entry.0) is

-- ---- the list

-- what stands at a length is what is read there
read-there : (empty ends : Bool) (read : Result (Option AnyEntry × Stretch) Error) (item : Option AnyEntry) (rest : Stretch)
    → cond empty (Ok None) (read >>= unless_ended ends) ≡ Ok (Some (item, rest)) → read ≡ Ok (item, rest)
read-there true ends read item rest is = cc
read-there false ends (Err e) item rest is = cc
read-there false true (Ok (None, left)) item rest is = cc
read-there false true (Ok (Some entry, left)) item rest is = cc
read-there false false (Ok (found, left)) item rest is = cc

-- the items of a stretch, by at most so many steps
abbrev entries_within : ℕ → FrameSection → Stretch → List (Result AnyEntry Error)
entries_within n section s = filter_map entry_there (items_within n (next_length section) s)

-- what holds behind each item that is read
abbrev ThereBehind : ℕ → FrameSection → Type 0
ThereBehind n section = (rest : Stretch) → IsBehind section.within.bytes rest → All (StandsThere section) (entries_within n section rest)

behind-item : (section : FrameSection) (s rest : Stretch) (item : Option AnyEntry) → IsBehind section.within.bytes s → entry_at section s ≡ Ok (item, rest) → IsBehind section.within.bytes rest
behind-item section s rest item h is = behind-both section.within.bytes s rest h (left-known s rest item (entry_at section s) (entry-left section s) is)

-- by what stands at the next length
there-by : (n : ℕ) (section : FrameSection) (s : Stretch) → IsBehind section.within.bytes s → ThereBehind n section → (answer : Answer Stretch (Option AnyEntry) Error) → next_length section s ≡ answer
    → All (StandsThere section) (filter_map entry_there (items_from (items_within n (next_length section)) answer))
there-by n section s h others (Err e) is = All-cons (StandsThere section) (Err e) [] tt (All-nil (StandsThere section))
there-by n section s h others (Ok None) is = All-nil (StandsThere section)
there-by n section s h others (Ok (Some (None, rest))) is =
    let read = read-there (length s.bytes == 0) section.kind.ends_at_zero (entry_at section s) None rest is in
    others rest (behind-item section s rest None h read)
there-by n section s h others (Ok (Some (Some entry, rest))) is =
    let read = read-there (length s.bytes == 0) section.kind.ends_at_zero (entry_at section s) (Some entry) rest is in
    All-cons (StandsThere section) (Ok entry) (entries_within n section rest) (stands section s rest entry h read) (others rest (behind-item section s rest (Some entry) h read))

there-within : (n : ℕ) (section : FrameSection) (s : Stretch) → IsBehind section.within.bytes s → All (StandsThere section) (entries_within n section s)
there-within zero section s h = All-nil (StandsThere section)
there-within (suc n) section s h = there-by n section s h (there-within n section) (next_length section s) refl

-- each entry of a section is what stands at its offset
pub entries_there : (section : FrameSection) → All (StandsThere section) (entries_of section)
unfolding entries_from
entries_there section = there-within (suc (size_of section.within.bytes)) section section.within.bytes (behind-none section.within.bytes)

-- ---- the section of an FDE

partial-within : (section : FrameSection) (head : Head) (place : ℕ) (id : ℕ × Stretch) → Each (λ (partial : PartialFde). partial.within ≡ section.within) (partial_at section head place id)
partial-within section head place id = each_value (offset_below section.limit id.0) (λ pointer. each_value _ (λ cie_offset. each_ok refl))

entry-within : (section : FrameSection) (head : Head) (format : Format) (s : Stretch) → Each (λ (entry : AnyEntry). IsOfSection section (Ok entry)) (entry_within section head format s)
entry-within section head format s =
    each_value (id_at (section.kind.id_width format) s) (λ id.
    each_if (section.kind.is_cie format id.0)
    (each_value (cie_at section head format id.1) (λ cie. each_ok tt))
    (each_then (partial-within section head (offset_in section s) id) (λ partial is. each_ok is)))

abbrev MayBeOfSection : FrameSection → Option AnyEntry → Type 0
MayBeOfSection section None = Unit {0}
MayBeOfSection section (Some entry) = IsOfSection section (Ok entry)

read-within : (section : FrameSection) (s : Stretch) → Each (λ (read : Option AnyEntry × Stretch). MayBeOfSection section read.0) (entry_at section s)
read-within section s =
    each_value (initial_length_at section.limit s) (λ length.
    each_if (length.0.0 == 0) (each_ok tt)
    (each_value (split_at length.0.0 length.1) (λ parts.
    each_then (entry-within section (record { offset = offset_in section s; length = length.0.0 }) length.0.1 parts.0) (λ entry is. each_ok is))))

among-within : (section : FrameSection) (offset : ℕ) (read : Option AnyEntry) → MayBeOfSection section read → Each (λ (partial : PartialFde). partial.within ≡ section.within) (partial_among offset read)
among-within section offset None is = each_err
among-within section offset (Some (which.Cie cie)) is = each_err
among-within section offset (Some (which.Fde partial)) is = each_ok is

there-is-of : (section : FrameSection) (offset : ℕ) → Each (λ (partial : PartialFde). partial.within ≡ section.within) (partial_fde_from_offset section offset)
there-is-of section offset =
    each_value (behind_at offset section.within.bytes) (λ rest.
    each_then (read-within section rest) (λ read is. among-within section offset read.0 is))

-- an FDE at an offset of a section is read in it
pub partial_of_section : (section : FrameSection) (offset : ℕ) (partial : PartialFde) → partial_fde_from_offset section offset ≡ Ok partial → partial.within ≡ section.within
partial_of_section section offset partial is = each_known _ (partial_fde_from_offset section offset) partial (there-is-of section offset) is

there-of : (section : FrameSection) (item : Result AnyEntry Error) → StandsThere section item → IsOfSection section item
there-of section (Ok (which.Cie cie)) h = tt
there-of section (Ok (which.Fde partial)) h = partial_of_section section partial.head.offset partial h
there-of section (Err e) h = tt

all-of : (section : FrameSection) (entries : List (Result AnyEntry Error)) → All (StandsThere section) entries → All (IsOfSection section) entries
all-of section [] all = All-nil (IsOfSection section)
all-of section (item ∷ entries) all =
    All-cons (IsOfSection section) item entries (there-of section item (All-head (StandsThere section) item entries all)) (all-of section entries (All-tail (StandsThere section) item entries all))

-- each FDE of a section is read in it
pub fdes_of_section : (section : FrameSection) → All (IsOfSection section) (entries_of section)
fdes_of_section section = all-of section (entries_of section) (entries_there section)

-- ---- whole FDEs

fde-head : (limit : ℕ) (kind : FrameSectionKind) (partial : PartialFde) → Each (λ (fde : Fde). fde.head ≡ partial.head) (fde_of limit kind partial)
fde-head limit kind partial =
    each_value (cie_from_offset (record { limit = limit; kind = kind; within = partial.within }) partial.cie_offset) (λ cie.
    each_value (code_range_at (origins_in partial.within cie.address_size None) (address_encoding cie) partial.rest) (λ addresses.
    each_value (lsda_at limit (origins_in partial.within cie.address_size (Some addresses.0.0)) cie.augmentation addresses.1) (λ lsda.
    each_ok refl)))

fde-there : (section : FrameSection) (partial : PartialFde) (fde : Fde) → partial_fde_from_offset section partial.head.offset ≡ Ok partial → fde_of section.limit section.kind partial ≡ Ok fde
    → StandsAtItsOffset section fde
fde-there section partial fde there is =
    let head : fde.head ≡ partial.head = each_known _ (fde_of section.limit section.kind partial) fde (fde-head section.limit section.kind partial) is in
    ap (λ (h : Head). fde_from_offset section h.offset) head ∙ ap (λ read. read >>= fde_of section.limit section.kind) there ∙ is

abbrev WholeThere : FrameSection → List (Result AnyEntry Error) → Type 0
WholeThere section entries = All (StandsAtItsOffset section) (filter_map result_ok (filter_map (fde_in section) entries))

-- one more FDE, whole or refused
whole-fde : (section : FrameSection) (partial : PartialFde) (entries : List (Result AnyEntry Error)) → partial_fde_from_offset section partial.head.offset ≡ Ok partial → WholeThere section entries
    → (read : Result Fde Error) → fde_of section.limit section.kind partial ≡ read → All (StandsAtItsOffset section) (filter_map result_ok (read ∷ filter_map (fde_in section) entries))
whole-fde section partial entries there others (Err e) is = others
whole-fde section partial entries there others (Ok fde) is =
    All-cons (StandsAtItsOffset section) fde (filter_map result_ok (filter_map (fde_in section) entries)) (fde-there section partial fde there is) others

whole-there : (section : FrameSection) (entries : List (Result AnyEntry Error)) → All (StandsThere section) entries → WholeThere section entries
whole-there section [] all = All-nil (StandsAtItsOffset section)
whole-there section (Err e ∷ entries) all = whole-there section entries (All-tail (StandsThere section) (Err e) entries all)
whole-there section (Ok (which.Cie cie) ∷ entries) all = whole-there section entries (All-tail (StandsThere section) (Ok (which.Cie cie)) entries all)
whole-there section (Ok (which.Fde partial) ∷ entries) all =
    whole-fde section partial entries (All-head (StandsThere section) (Ok (which.Fde partial)) entries all)
    (whole-there section entries (All-tail (StandsThere section) (Ok (which.Fde partial)) entries all))
    (fde_of section.limit section.kind partial) refl

-- each FDE of a section is what stands at its offset
pub fdes_there : (section : FrameSection) → All (StandsAtItsOffset section) (whole_fdes section)
unfolding whole_fdes
fdes_there section = whole-there section (entries_of section) (entries_there section)

-- ---- the CIEs of FDEs

behind-place : (bytes : Stretch) (offset : ℕ) → Each (λ (rest : Stretch). rest.offset - bytes.offset ≡ offset) (behind_at offset bytes)
behind-place bytes offset = each_if (nat_lt (length bytes.bytes) offset) each_err (each_ok (omega arith))

cie-among-at : (offset place : ℕ) (read : Option AnyEntry) → MayStandAt place read → place ≡ offset → Each (λ (cie : Cie). cie.head.offset ≡ offset) (cie_among offset read)
cie-among-at offset place None at is = each_err
cie-among-at offset place (Some (which.Cie cie)) at is = each_ok (at ∙ is)
cie-among-at offset place (Some (which.Fde partial)) at is = each_err

cie-place : (section : FrameSection) (offset : ℕ) → Each (λ (cie : Cie). cie.head.offset ≡ offset) (cie_from_offset section offset)
cie-place section offset =
    each_then (behind-place section.within.bytes offset) (λ rest is.
    each_then (entry-offset section rest) (λ read at. cie-among-at offset (offset_in section rest) read.0 at is))

-- a CIE that stands at its own offset
abbrev StandsAsCie : FrameSection → Cie → Type 0
StandsAsCie section cie = cie_from_offset section cie.head.offset ≡ Ok cie

cie-there : (section : FrameSection) (offset : ℕ) (read : Result Cie Error) → cie_from_offset section offset ≡ read → Each (StandsAsCie section) read
cie-there section offset (Ok cie) is = each_ok (ap (cie_from_offset section) (each_known _ (cie_from_offset section offset) cie (cie-place section offset) is) ∙ is)
cie-there section offset (Err e) is = each_err

fde-cie-there : (section : FrameSection) (offset : ℕ) → Each (λ (fde : Fde). StandsAsCie section fde.cie) (fde_from_offset section offset)
fde-cie-there section offset =
    each_then (there-is-of section offset) (λ partial within.
    let named = cie-there section partial.cie_offset (cie_from_offset section partial.cie_offset) refl in
    each_then (subst (λ (w : SectionContents). Each (StandsAsCie section) (cie_from_offset (record { limit = section.limit; kind = section.kind; within = w }) partial.cie_offset)) (sym within) named) (λ cie is.
    each_value (code_range_at (origins_in partial.within cie.address_size None) (address_encoding cie) partial.rest) (λ addresses.
    each_value (lsda_at section.limit (origins_in partial.within cie.address_size (Some addresses.0.0)) cie.augmentation addresses.1) (λ lsda.
    each_ok is))))

-- the CIE of an FDE of a section is what stands at its own offset
pub fde_cie_there : (section : FrameSection) → CiesStandAtTheirOffsets section
fde_cie_there section offset fde is = each_known _ (fde_from_offset section offset) fde (fde-cie-there section offset) is
