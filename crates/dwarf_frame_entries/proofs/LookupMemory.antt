-- No lookup of an entry says that memory ran out.
use Rattle.std.proofs.Common.{◌≡◌, ℕ, zero, suc, Bool, true, false, cond, List, [], ◌∷◌, length, Option, Some, None, Result, Ok, Err, ap}
use Rattle.std.specs.Prelude.{◌==◌, unwrap_or}
use Rattle.std.specs.List.{filter_map, find}
use Rattle.list_laws.specs.Items.{Answer, items_from, items_within, rest_of}
use Rattle.dwarf_constants.specs.declared.common.Format.{Format}
use Rattle.dwarf_constants.specs.declared.constants.DwEhPe.{DwEhPe}
use Rattle.dwarf_constants.specs.declared.error.Error.{Error}
use Rattle.dwarf_constants.specs.declared.error.Error.TheVariants.{NoUnwindInfoForAddress, OutOfMemory}
use Rattle.dwarf_readers.specs.Memory.{NeverWantsMemory}
use Rattle.dwarf_readers.specs.Remainder.{size_of}
use Rattle.dwarf_readers.specs.Stretch.{Stretch}
use Rattle.dwarf_readers.proofs.Laws.{address_memory, address_size_memory, behind_memory, byte_memory, initial_length_memory, memory_err, memory_if, memory_ok, memory_test, memory_then, memory_there, number_memory, offset_memory, signed_memory, split_memory, string_memory, unsigned_16_memory, unsigned_memory}
use Rattle.dwarf_frame_rows.specs.EncodedPointer.{Origins}
use Rattle.dwarf_frame_rows.specs.FrameSection.{FrameSection, origins_in}
use Rattle.dwarf_frame_rows.specs.SectionKind.{FrameSectionKind}
use Rattle.dwarf_frame_rows.specs.declared.section.CieOffsetEncoding.{CieOffsetEncoding}
use Rattle.dwarf_frame_rows.specs.declared.section.CieOffsetEncoding.TheVariants.{U32, U64}
use Rattle.dwarf_frame_rows.proofs.Laws.{encoding_memory, plain_value_memory, pointer_memory}
use Rattle.dwarf_frame_entries.specs.AddressLookups.{decides, fde_for, fde_for_address, fde_for_address_skipping, fde_or_error, first_deciding}
use Rattle.dwarf_frame_entries.specs.Augmentations.{Letters, augmentation_at, augmentation_by_letters, data_at, letter_B, letter_L, letter_P, letter_R, letter_S, letter_with_data, letter_z, no_letters, pointer_unless_omitted, with_letter, with_letters}
use Rattle.dwarf_frame_entries.specs.Entries.{AnyEntry, Cie, Fde, Head, PartialFde, address_encoding, cie_among, cie_at, cie_from_offset, code_range_at, entry_at, entry_within, fde_from_offset, fde_of, fde_with, id_at, lsda_at, lsda_within, offset_in, partial_among, partial_at, partial_fde_from_offset, return_register_at, sizes_at}
use Rattle.dwarf_frame_entries.specs.EntryLists.{SectionEnd, Terminator, end_by, end_error, entries_from, entry_there, list_end_from, next_length, unless_ended}
use Rattle.dwarf_frame_entries.specs.declared.augmentation.Augmentation.{Augmentation}
use Rattle.dwarf_frame_entries.specs.declared.entries.Entry.TheVariants as which

-- ---- augmentations

data-read : (limit : ℕ) (s : Stretch) → NeverWantsMemory (data_at limit s)
data-read limit s = memory_then (unsigned_memory s) (λ n. memory_then (offset_memory limit n.0) (λ count. split_memory count n.1))

personality : (origins : Origins) (byte : ℕ) (s : Stretch) → NeverWantsMemory (pointer_unless_omitted origins byte s)
personality origins byte s = memory_if _ memory_ok (memory_then (pointer_memory origins byte s) (λ p. memory_ok))

data-of-letter : (origins : Origins) (letter : ℕ) (augmentation : Augmentation) (left : Stretch) → NeverWantsMemory (letter_with_data origins letter augmentation left)
data-of-letter origins letter augmentation left =
    memory_if (letter == letter_L) (memory_then (encoding_memory left) (λ x. memory_ok))
    (memory_if (letter == letter_P) (memory_then (encoding_memory left) (λ x. memory_then (personality origins x.0 x.1) (λ p. memory_ok)))
    (memory_if (letter == letter_R) (memory_then (encoding_memory left) (λ x. memory_ok))
    (memory_err (λ h. cc))))

letter-read : (origins : Origins) (letter : ℕ) (before : Letters) → NeverWantsMemory (with_letter origins letter before)
letter-read origins letter before =
    memory_if (letter == letter_S) memory_ok
    (memory_if (letter == letter_B) memory_ok
    (memory_then (memory_there before.left _ (λ h. cc)) (data-of-letter origins letter before.augmentation)))

letters-read : (origins : Origins) (letters : List ℕ) (before : Letters) → NeverWantsMemory (with_letters origins letters before)
letters-read origins [] before = memory_ok
letters-read origins (letter ∷ letters) before = memory_then (letter-read origins letter before) (letters-read origins letters)

by-letters : (origins : Origins) (letters : List ℕ) (left : Option Stretch) → NeverWantsMemory (augmentation_by_letters origins letters left)
by-letters origins letters left = memory_then (letters-read origins letters (no_letters left)) (λ read. memory_ok)

augmentation : (limit : ℕ) (origins : Origins) (text : List ℕ) (s : Stretch) → NeverWantsMemory (augmentation_at limit origins text s)
augmentation limit origins [] s = memory_ok
augmentation limit origins (letter ∷ letters) s =
    memory_if (letter == letter_z)
    (memory_then (data-read limit s) (λ extra. memory_then (by-letters origins letters (Some extra.0)) (λ a. memory_ok)))
    (memory_then (by-letters origins (letter ∷ letters) None) (λ a. memory_ok))

-- ---- entries

sizes : (kind : FrameSectionKind) (size version : ℕ) (s : Stretch) → NeverWantsMemory (sizes_at kind size version s)
sizes kind size version s =
    memory_if (kind.has_sizes version)
    (memory_then (address_size_memory s) (λ n. memory_then (byte_memory n.1) (λ segment. memory_then (memory_test _ _ (λ h. cc)) (λ _. memory_ok))))
    memory_ok

register : (version : ℕ) (s : Stretch) → NeverWantsMemory (return_register_at version s)
register version s = memory_if (version == 1) (byte_memory s) (unsigned_16_memory s)

cie-read : (section : FrameSection) (head : Head) (format : Format) (s : Stretch) → NeverWantsMemory (cie_at section head format s)
cie-read section head format s =
    memory_then (byte_memory s) (λ version.
    memory_then (memory_test _ _ (λ h. cc)) (λ _.
    memory_then (string_memory version.1) (λ text.
    memory_then (sizes section.kind section.within.address_size version.0 text.1) (λ size.
    memory_then (unsigned_memory size.1) (λ code.
    memory_then (signed_memory code.1) (λ factor.
    memory_then (register version.0 factor.1) (λ register.
    memory_then (augmentation section.limit (origins_in section.within size.0 None) text.0.bytes register.1) (λ a. memory_ok))))))))

id-read : (width : CieOffsetEncoding) (s : Stretch) → NeverWantsMemory (id_at width s)
id-read U32 s = number_memory 4 s
id-read U64 s = number_memory 8 s

partial-read : (section : FrameSection) (head : Head) (place : ℕ) (id : ℕ × Stretch) → NeverWantsMemory (partial_at section head place id)
partial-read section head place id =
    memory_then (offset_memory section.limit id.0) (λ to. memory_then (memory_there (section.kind.cie_place place to) _ (λ h. cc)) (λ x. memory_ok))

within : (section : FrameSection) (head : Head) (format : Format) (s : Stretch) → NeverWantsMemory (entry_within section head format s)
within section head format s =
    memory_then (id-read (section.kind.id_width format) s) (λ id.
    memory_if (section.kind.is_cie format id.0)
    (memory_then (cie-read section head format id.1) (λ cie. memory_ok))
    (memory_then (partial-read section head (offset_in section s) id) (λ partial. memory_ok)))

entry-read : (section : FrameSection) (s : Stretch) → NeverWantsMemory (entry_at section s)
entry-read section s =
    memory_then (initial_length_memory section.limit s) (λ n.
    memory_if (n.0.0 == 0) memory_ok
    (memory_then (split_memory n.0.0 n.1) (λ parts.
    memory_then (within section (record { offset = offset_in section s; length = n.0.0 }) n.0.1 parts.0) (λ entry. memory_ok))))

-- ---- entries at an offset

cie-among : (place : ℕ) (entry : Option AnyEntry) → NeverWantsMemory (cie_among place entry)
cie-among place None = memory_err (λ h. cc)
cie-among place (Some (which.Cie cie)) = memory_ok
cie-among place (Some (which.Fde partial)) = memory_err (λ h. cc)

pub cie_memory : (section : FrameSection) (offset : ℕ) → NeverWantsMemory (cie_from_offset section offset)
cie_memory section offset =
    memory_then (behind_memory offset section.within.bytes) (λ rest.
    memory_then (entry-read section rest) (λ entry. cie-among offset entry.0))

partial-among : (place : ℕ) (entry : Option AnyEntry) → NeverWantsMemory (partial_among place entry)
partial-among place None = memory_err (λ h. cc)
partial-among place (Some (which.Cie cie)) = memory_err (λ h. cc)
partial-among place (Some (which.Fde partial)) = memory_ok

partial-memory : (section : FrameSection) (offset : ℕ) → NeverWantsMemory (partial_fde_from_offset section offset)
partial-memory section offset =
    memory_then (behind_memory offset section.within.bytes) (λ rest.
    memory_then (entry-read section rest) (λ entry. partial-among offset entry.0))

-- ---- FDEs with their CIEs

code-range : (origins : Origins) (encoding : Option DwEhPe) (s : Stretch) → NeverWantsMemory (code_range_at origins encoding s)
code-range origins None s =
    memory_then (address_memory origins.address_size s) (λ initial. memory_then (address_memory origins.address_size initial.1) (λ range. memory_ok))
code-range origins (Some encoding) s =
    memory_then (pointer_memory origins encoding.0 s) (λ initial. memory_then (plain_value_memory origins.address_size encoding.0 initial.1) (λ range. memory_ok))

lsda-within : (origins : Origins) (encoding : Option DwEhPe) (s : Stretch) → NeverWantsMemory (lsda_within origins encoding s)
lsda-within origins None s = memory_ok
lsda-within origins (Some encoding) s = memory_then (pointer_memory origins encoding.0 s) (λ pointer. memory_ok)

lsda : (limit : ℕ) (origins : Origins) (augmentation : Option Augmentation) (s : Stretch) → NeverWantsMemory (lsda_at limit origins augmentation s)
lsda limit origins None s = memory_ok
lsda limit origins (Some augmentation) s =
    memory_if augmentation.has_data
    (memory_then (data-read limit s) (λ extra. memory_then (lsda-within origins augmentation.lsda extra.0) (λ pointer. memory_ok)))
    memory_ok

fde-with : (limit : ℕ) (partial : PartialFde) (cie : Cie) → NeverWantsMemory (fde_with limit partial cie)
fde-with limit partial cie =
    memory_then (code-range (origins_in partial.within cie.address_size None) (address_encoding cie) partial.rest) (λ addresses.
    memory_then (lsda limit (origins_in partial.within cie.address_size (Some addresses.0.0)) cie.augmentation addresses.1) (λ pointer. memory_ok))

fde-of : (limit : ℕ) (kind : FrameSectionKind) (partial : PartialFde) → NeverWantsMemory (fde_of limit kind partial)
fde-of limit kind partial =
    memory_then (cie_memory (record { limit = limit; kind = kind; within = partial.within }) partial.cie_offset) (fde-with limit partial)

pub fde_memory : (section : FrameSection) (offset : ℕ) → NeverWantsMemory (fde_from_offset section offset)
fde_memory section offset = memory_then (partial-memory section offset) (fde-of section.limit section.kind)

-- ---- the list of a section

unless-ended : (ends : Bool) (read : Option AnyEntry × Stretch) → NeverWantsMemory (unless_ended ends read)
unless-ended true (None, rest) = memory_ok
unless-ended true (Some entry, rest) = memory_ok
unless-ended false read = memory_ok

next-memory : (section : FrameSection) (s : Stretch) → NeverWantsMemory (next_length section s)
next-memory section s = memory_if _ memory_ok (memory_then (entry-read section s) (unless-ended section.kind.ends_at_zero))

-- the first of some FDEs, by whether it decides
deciding : (address : ℕ) (read : Result Fde Error) (others : List (Result Fde Error)) (decided : Bool) → NeverWantsMemory read → NeverWantsMemory (first_deciding address others)
    → NeverWantsMemory (unwrap_or (cond decided (Some read) (find (decides address) others)) (Err NoUnwindInfoForAddress))
deciding address read others true h k = h
deciding address read others false h k = k

module _ (section : FrameSection) (address : ℕ) where
  first-of : (entry : AnyEntry) (others : List (Result AnyEntry Error)) → NeverWantsMemory (fde_for section address others) → NeverWantsMemory (fde_for section address (Ok entry ∷ others))
  first-of (which.Cie cie) others h = h
  first-of (which.Fde partial) others h =
      let read = fde_of section.limit section.kind partial in
      deciding address read (filter_map (fde_or_error section) others) (decides address read) (fde-of section.limit section.kind partial) h

  -- the entries of at most n steps
  abbrev lookup_within : ℕ → Stretch → Result Fde Error
  lookup_within n s = fde_for section address (filter_map entry_there (items_within n (next_length section) s))

  by-item : (n : ℕ) (answer : Answer Stretch (Option AnyEntry) Error) → NeverWantsMemory answer → ((s : Stretch) → NeverWantsMemory (lookup_within n s))
      → NeverWantsMemory (fde_for section address (filter_map entry_there (items_from (items_within n (next_length section)) answer)))
  by-item n (Ok None) h others = memory_err (λ h. cc)
  by-item n (Ok (Some (Some entry, rest))) h others = first-of entry (filter_map entry_there (items_within n (next_length section) rest)) (others rest)
  by-item n (Ok (Some (None, rest))) h others = others rest
  by-item n (Err e) h others = memory_err (λ is. h.never (ap (λ (x : Error). Err x) is))

  within-memory : (n : ℕ) (s : Stretch) → NeverWantsMemory (lookup_within n s)
  within-memory zero s = memory_err (λ h. cc)
  within-memory (suc n) s = by-item n (next_length section s) (next-memory section s) (within-memory n)

pub address_lookup_memory : (section : FrameSection) (address : ℕ) → NeverWantsMemory (fde_for_address section address)
unfolding entries_from
address_lookup_memory section address = within-memory section address (suc (size_of section.within.bytes)) section.within.bytes

-- the end of a list is for another reason
ended-otherwise : (empty : Bool) → unwrap_or (end_error (cond empty SectionEnd Terminator)) NoUnwindInfoForAddress ≡ OutOfMemory → ⊥
ended-otherwise true is = cc
ended-otherwise false is = cc

end-otherwise : (rest : Stretch) (next : Answer Stretch (Option AnyEntry) Error) → NeverWantsMemory next → unwrap_or (end_error (end_by rest next)) NoUnwindInfoForAddress ≡ OutOfMemory → ⊥
end-otherwise rest (Ok next) h is = ended-otherwise (length rest.bytes == 0) is
end-otherwise rest (Err e) h is = h.never (ap (λ (x : Error). Err x) is)

pub skipping_lookup_memory : (section : FrameSection) (address : ℕ) → NeverWantsMemory (fde_for_address_skipping section address)
unfolding list_end_from
skipping_lookup_memory section address =
    let rest = rest_of size_of (next_length section) section.within.bytes in
    memory_there _ _ (end-otherwise rest (next_length section rest) (next-memory section rest))
