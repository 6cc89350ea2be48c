-- The own instructions of a CIE are bytes of the section, from a place on.
use Rattle.std.proofs.Common.{◌≡◌, ℕ, ◌+◌, ◌-◌, ◌≤◌, Bool, false, cond, List, [], ◌∷◌, length, take, drop, Option, Some, None, Result, Ok, Err, sym, ap, ◌∙◌, arith}
use Rattle.std.specs.Prelude.{◌==◌, nat_le, nat_lt}
use Rattle.std.proofs.lemmas.Bool.Decides.{nat_tests}
use Rattle.std.proofs.lemmas.List.{drop-drop, drop-take, drop_all, length-take, take-take, take_all, take_min}
use Rattle.list_laws.proofs.Laws.{by_case}
use Rattle.dwarf_constants.specs.declared.common.Format.{Format}
use Rattle.dwarf_constants.specs.declared.error.Error.{Error}
use Rattle.dwarf_constants.specs.declared.error.Error.TheVariants.{BadSignedLeb128, BadUnsignedLeb128}
use Rattle.dwarf_endianity.specs.Offset.{offset_below}
use Rattle.dwarf_readers.specs.InitialLength.{address_size_at, initial_length_at}
use Rattle.dwarf_readers.specs.Leb128.{leb128_within, signed_at, signed_in_range, string_of, unsigned_16_at, unsigned_at, unsigned_below, value_behind}
use Rattle.dwarf_readers.specs.Stretch.{Stretch, behind, behind_at, byte_at, count_before, found_at, number_at, prefix, split_at, string_at}
use Rattle.dwarf_frame_rows.specs.EncodedPointer.{Origins}
use Rattle.dwarf_frame_rows.specs.FrameSection.{FrameSection, origins_in}
use Rattle.dwarf_frame_rows.specs.SectionKind.{FrameSectionKind}
use Rattle.dwarf_frame_rows.specs.declared.section.CieOffsetEncoding.{CieOffsetEncoding}
use Rattle.dwarf_frame_rows.specs.declared.section.CieOffsetEncoding.TheVariants.{U32, U64}
use Rattle.dwarf_frame_entries.specs.Augmentations.{augmentation_at, augmentation_by_letters, data_at, letter_z}
use Rattle.dwarf_frame_entries.specs.Entries.{AnyEntry, Cie, Head, cie_among, cie_at, cie_from_offset, entry_at, entry_within, id_at, offset_in, partial_at, return_register_at, sizes_at}
use Rattle.dwarf_frame_entries.specs.declared.entries.Entry.TheVariants as which
use Rattle.dwarf_frame_entries.proofs.Behind.{IsBehind, Leaves, initial_length-left}
use Rattle.dwarf_frame_entries.proofs.Each.{Each, each_err, each_if, each_known, each_ok, each_then, each_value}

-- the bytes of a stretch from a place on and up to another
abbrev pub cut : Stretch → (from to : ℕ) → Stretch
cut whole from to = record { bytes = drop from (take to whole.bytes); offset = whole.offset + from; big = whole.big }

pub record IsCut (whole s : Stretch) : Type 0 where
  pub from : ℕ
  pub to : ℕ
  pub is : s ≡ cut whole from to

-- all of it
cut-whole : (whole : Stretch) → IsCut whole whole
cut-whole whole = record { from = 0; to = length whole.bytes; is = same whole.bytes whole.offset whole.big (take_all (length whole.bytes) whole.bytes (omega arith)) }
  where
    same : (bytes : List ℕ) (place : ℕ) (big : Bool) → take (length bytes) bytes ≡ bytes
        → ◌≡◌ {A = Stretch} (record { bytes = bytes; offset = place; big = big }) (record { bytes = take (length bytes) bytes; offset = place + 0; big = big })
    same bytes place big all = let place_same : place ≡ place + 0 = omega arith in cc

-- what is left of it behind some bytes
cut-behind : (whole s : Stretch) (n : ℕ) → IsCut whole s → IsCut whole (behind n s)
cut-behind whole s n h = record { from = h.from + n; to = h.to; is = ap (behind n) h.is ∙ together (take h.to whole.bytes) whole.offset whole.big h.from }
  where
    together : (bytes : List ℕ) (place : ℕ) (big : Bool) (from : ℕ)
        → ◌≡◌ {A = Stretch} (record { bytes = drop n (drop from bytes); offset = place + from + n; big = big }) (record { bytes = drop (from + n) bytes; offset = place + (from + n); big = big })
    together bytes place big from =
        let bytes_same : drop n (drop from bytes) ≡ drop (from + n) bytes = drop-drop n from bytes ∙ ap (λ (k : ℕ). drop k bytes) (omega arith) in
        let place_same : place + from + n ≡ place + (from + n) = omega arith in
        cc

-- so many of its first bytes
cut-prefix : (whole s : Stretch) (n : ℕ) → IsCut whole s → IsCut whole (prefix n s)
cut-prefix whole s n h =
    by_case (nat_le (h.from + n) h.to)
    (λ near. record {
      from = h.from;
      to = h.from + n;
      is = ap (prefix n) h.is ∙ as-bytes (sym (drop-take h.from n (take h.to whole.bytes)) ∙ ap (drop h.from) (take-take (h.from + n) h.to whole.bytes (grind (arith, nat_tests))));
    })
    (λ far. record {
      from = h.from;
      to = h.to;
      is = ap (prefix n) h.is ∙ as-bytes (sym (drop-take h.from n (take h.to whole.bytes)) ∙ ap (drop h.from) (take_all (h.from + n) (take h.to whole.bytes) (few far)));
    })
  where
    as-bytes : {xs ys : List ℕ} → xs ≡ ys
        → ◌≡◌ {A = Stretch} (record { bytes = xs; offset = whole.offset + h.from; big = whole.big }) (record { bytes = ys; offset = whole.offset + h.from; big = whole.big })
    as-bytes same = cc

    few : nat_le (h.from + n) h.to ≡ false → length (take h.to whole.bytes) ≤ h.from + n
    few far = let over : h.to ≤ h.from + n = grind (arith, nat_tests) in omega (arith, length-take h.to whole.bytes)

-- it is as many bytes behind as many others
pub cut-there : (whole s : Stretch) → IsCut whole s → s ≡ prefix (length s.bytes) (behind (s.offset - whole.offset) whole)
cut-there whole s h = by h.from h.to h.is
  where
    taken : (bytes : List ℕ) (from to : ℕ) → drop from (take to bytes) ≡ take (length (drop from (take to bytes))) (drop from bytes)
    taken bytes from to =
        by_case (nat_le from to)
        (λ near.
        let count : ℕ = to - from in
        let sum : from + count ≡ to = grind (arith, nat_tests) in
        let first : drop from (take to bytes) ≡ take count (drop from bytes) = ap (λ (k : ℕ). drop from (take k bytes)) (sym sum) ∙ drop-take from count bytes in
        first ∙ sym (take_min count (drop from bytes)) ∙ ap (λ (k : ℕ). take k (drop from bytes)) (sym (length-take count (drop from bytes)) ∙ ap length (sym first)))
        (λ far.
        let none : drop from (take to bytes) ≡ [] = drop_all from (take to bytes) (let over : to ≤ from = grind (arith, nat_tests) in omega (arith, length-take to bytes)) in
        none ∙ ap (λ (xs : List ℕ). take (length xs) (drop from bytes)) (sym none))

    by : (from to : ℕ) → s ≡ cut whole from to → s ≡ prefix (length s.bytes) (behind (s.offset - whole.offset) whole)
    by from to is =
        let bytes : s.bytes ≡ drop from (take to whole.bytes) = ap (λ (t : Stretch). t.bytes) is in
        let place : s.offset - whole.offset ≡ from = let offset : s.offset ≡ whole.offset + from = ap (λ (t : Stretch). t.offset) is in omega arith in
        is ∙ as-bytes from (taken whole.bytes from to ∙ ap (λ (xs : List ℕ). take (length xs) (drop from whole.bytes)) (sym bytes))
        ∙ ap (λ (k : ℕ). prefix (length s.bytes) (behind k whole)) (sym place)
      where
        as-bytes : (from : ℕ) {xs ys : List ℕ} → xs ≡ ys
            → ◌≡◌ {A = Stretch} (record { bytes = xs; offset = whole.offset + from; big = whole.big }) (record { bytes = ys; offset = whole.offset + from; big = whole.big })
        as-bytes from same = cc

-- ---- reads

module _ (whole : Stretch) where
  -- what a read leaves is part of the bytes
  abbrev LeavesCut : {A : Type 0} → A × Stretch → Type 0
  LeavesCut x = IsCut whole x.1

  fixed-cut : {A : Type 0} (n : ℕ) (s : Stretch) (e : Error) (x : A) (test : Bool) → IsCut whole s → Each LeavesCut (cond test (Err e) (Ok (x, behind n s)))
  fixed-cut n s e x test h = each_if test each_err (each_ok (cut-behind whole s n h))

  byte-cut : (s : Stretch) → IsCut whole s → Each LeavesCut (byte_at s)
  byte-cut s h = fixed-cut 1 s _ _ _ h

  number-cut : (n : ℕ) (s : Stretch) → IsCut whole s → Each LeavesCut (number_at n s)
  number-cut n s h = fixed-cut n s _ _ _ h

  string-cut : (s : Stretch) → IsCut whole s → Each LeavesCut (string_at s)
  string-cut s h = each_value (found_at s (count_before 0 s.bytes)) (λ n. each_ok (cut-behind whole s (n + 1) h))

  value-cut : {A : Type 0} (bad : Error) (string : List ℕ) (s : Stretch) (value : Option A) → IsCut whole s → Each LeavesCut (value_behind bad string s value)
  value-cut bad string s (Some value) h = each_ok (cut-behind whole s (length string) h)
  value-cut bad string s None h = each_err

  leb128-cut : {A : Type 0} (n : ℕ) (bad : Error) (fitting : List ℕ → Option A) (s : Stretch) (found : Option (List ℕ)) → IsCut whole s → Each LeavesCut (leb128_within n bad fitting s found)
  leb128-cut n bad fitting s (Some string) h = value-cut bad string s (fitting string) h
  leb128-cut n bad fitting s None h = each_if _ each_err each_err

  unsigned-cut : (s : Stretch) → IsCut whole s → Each LeavesCut (unsigned_at s)
  unsigned-cut s h = leb128-cut 10 BadUnsignedLeb128 (unsigned_below 64) s (string_of (take 10 s.bytes)) h

  unsigned_16-cut : (s : Stretch) → IsCut whole s → Each LeavesCut (unsigned_16_at s)
  unsigned_16-cut s h = leb128-cut 3 BadUnsignedLeb128 (unsigned_below 16) s (string_of (take 3 s.bytes)) h

  signed-cut : (s : Stretch) → IsCut whole s → Each LeavesCut (signed_at s)
  signed-cut s h = leb128-cut 10 BadSignedLeb128 signed_in_range s (string_of (take 10 s.bytes)) h

  -- what a read leaves, and what it gives
  abbrev GivesCut : Stretch × Stretch → Type 0
  GivesCut x = IsCut whole x.0 × IsCut whole x.1

  split-cut : (n : ℕ) (s : Stretch) → IsCut whole s → Each GivesCut (split_at n s)
  split-cut n s h = each_if _ each_err (each_ok (cut-prefix whole s n h, cut-behind whole s n h))

  length-cut : (limit : ℕ) (s : Stretch) → IsCut whole s → Each LeavesCut (initial_length_at limit s)
  length-cut limit s h = by (initial_length_at limit s) (initial_length-left limit s)
    where
      by : {A : Type 0} (read : Result (A × Stretch) Error) → Leaves s read → Each LeavesCut read
      by (Ok x) left = each_ok (let behind_is : IsBehind s x.1 = left.left in record {
        from = (cut-behind whole s behind_is.count h).from;
        to = (cut-behind whole s behind_is.count h).to;
        is = behind_is.is ∙ (cut-behind whole s behind_is.count h).is;
      })
      by (Err e) left = each_err

  address_size-cut : (s : Stretch) → IsCut whole s → Each LeavesCut (address_size_at s)
  address_size-cut s h = each_then (byte-cut s h) (λ size left. each_value _ (λ _. each_ok left))

  sizes-cut : (kind : FrameSectionKind) (size version : ℕ) (s : Stretch) → IsCut whole s → Each LeavesCut (sizes_at kind size version s)
  sizes-cut kind size version s h =
      each_if (kind.has_sizes version)
      (each_then (address_size-cut s h) (λ size left.
      each_then (byte-cut size.1 left) (λ segment others.
      each_value _ (λ _. each_ok others))))
      (each_ok h)

  register-cut : (version : ℕ) (s : Stretch) → IsCut whole s → Each LeavesCut (return_register_at version s)
  register-cut version s h = each_if (version == 1) (byte-cut s h) (unsigned_16-cut s h)

  data-cut : (limit : ℕ) (s : Stretch) → IsCut whole s → Each LeavesCut (data_at limit s)
  data-cut limit s h =
      each_then (unsigned-cut s h) (λ length left.
      each_value (offset_below limit length.0) (λ count. split-left count length.1 left))
    where
      split-left : (n : ℕ) (t : Stretch) → IsCut whole t → Each LeavesCut (split_at n t)
      split-left n t k = fixed-cut n t _ _ _ k

  augmentation-cut : (limit : ℕ) (origins : Origins) (letters : List ℕ) (s : Stretch) → IsCut whole s → Each LeavesCut (augmentation_at limit origins letters s)
  augmentation-cut limit origins [] s h = each_ok h
  augmentation-cut limit origins (letter ∷ letters) s h =
      each_if (letter == letter_z)
      (each_then (data-cut limit s h) (λ extra left.
      each_value (augmentation_by_letters origins letters (Some extra.0)) (λ augmentation. each_ok left)))
      (each_value (augmentation_by_letters origins (letter ∷ letters) None) (λ augmentation. each_ok h))

  id-cut : (width : CieOffsetEncoding) (s : Stretch) → IsCut whole s → Each LeavesCut (id_at width s)
  id-cut U32 s h = number-cut 4 s h
  id-cut U64 s h = number-cut 8 s h

  -- ---- entries

  abbrev IsCieCut : Cie → Type 0
  IsCieCut cie = IsCut whole cie.instructions

  cie-cut : (section : FrameSection) (head : Head) (format : Format) (s : Stretch) → IsCut whole s → Each IsCieCut (cie_at section head format s)
  cie-cut section head format s h =
      each_then (byte-cut s h) (λ version a.
      each_value _ (λ _.
      each_then (string-cut version.1 a) (λ text b.
      each_then (sizes-cut section.kind section.within.address_size version.0 text.1 b) (λ size d.
      each_then (unsigned-cut size.1 d) (λ code e.
      each_then (signed-cut code.1 e) (λ factor f.
      each_then (register-cut version.0 factor.1 f) (λ register k.
      each_then (augmentation-cut section.limit (origins_in section.within size.0 None) text.0.bytes register.1 k) (λ augmentation l.
      each_ok l))))))))

  -- .. of an entry, if it is a CIE
  abbrev IsEntryCut : AnyEntry → Type 0
  IsEntryCut (which.Cie cie) = IsCieCut cie
  IsEntryCut (which.Fde partial) = Unit {0}

  within-cut : (section : FrameSection) (head : Head) (format : Format) (s : Stretch) → IsCut whole s → Each IsEntryCut (entry_within section head format s)
  within-cut section head format s h =
      each_then (id-cut (section.kind.id_width format) s h) (λ id left.
      each_if (section.kind.is_cie format id.0)
      (each_then (cie-cut section head format id.1 left) (λ cie is. each_ok is))
      (each_value (partial_at section head (offset_in section s) id) (λ partial. each_ok tt)))

  abbrev MayBeCut : Option AnyEntry → Type 0
  MayBeCut None = Unit {0}
  MayBeCut (Some entry) = IsEntryCut entry

  entry-cut : (section : FrameSection) (s : Stretch) → IsCut whole s → Each (λ (read : Option AnyEntry × Stretch). MayBeCut read.0) (entry_at section s)
  entry-cut section s h =
      each_then (length-cut section.limit s h) (λ length left.
      each_if (length.0.0 == 0) (each_ok tt)
      (each_then (split-cut length.0.0 length.1 left) (λ parts both.
      each_then (within-cut section (record { offset = offset_in section s; length = length.0.0 }) length.0.1 parts.0 both.0) (λ entry is. each_ok is))))

  among-cut : (offset : ℕ) (read : Option AnyEntry) → MayBeCut read → Each IsCieCut (cie_among offset read)
  among-cut offset None is = each_err
  among-cut offset (Some (which.Cie cie)) is = each_ok is
  among-cut offset (Some (which.Fde partial)) is = each_err

offset-cut : (section : FrameSection) (offset : ℕ) → Each (IsCieCut section.within.bytes) (cie_from_offset section offset)
offset-cut section offset =
    let whole : Stretch = section.within.bytes in
    each_then (rest-cut whole) (λ rest is.
    each_then (entry-cut whole section rest is) (λ read may. among-cut whole offset read.0 may))
  where
    rest-cut : (whole : Stretch) → Each (IsCut whole) (behind_at offset whole)
    rest-cut whole = each_if (nat_lt (length whole.bytes) offset) each_err (each_ok (cut-behind whole whole offset (cut-whole whole)))

-- the own instructions of a CIE are as many bytes of the section behind as many others
pub instructions-there : (section : FrameSection) (offset : ℕ) (cie : Cie) → cie_from_offset section offset ≡ Ok cie
    → cie.instructions ≡ prefix (length cie.instructions.bytes) (behind (cie.instructions.offset - section.within.bytes.offset) section.within.bytes)
instructions-there section offset cie is =
    cut-there section.within.bytes cie.instructions (each_known (IsCieCut section.within.bytes) (cie_from_offset section offset) cie (offset-cut section offset) is)

-- and they don't begin before the section
pub instructions-within : (section : FrameSection) (offset : ℕ) (cie : Cie) → cie_from_offset section offset ≡ Ok cie → section.within.bytes.offset ≤ cie.instructions.offset
instructions-within section offset cie is =
    let part : IsCut section.within.bytes cie.instructions = each_known (IsCieCut section.within.bytes) (cie_from_offset section offset) cie (offset-cut section offset) is in
    let place : cie.instructions.offset ≡ section.within.bytes.offset + part.from = ap (λ (s : Stretch). s.offset) part.is in
    omega arith
