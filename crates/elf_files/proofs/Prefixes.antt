-- What is read from the first bytes of a file is what is read from the whole file.
use Rattle.std.proofs.Common.{◌≡◌, ℕ, ◌+◌, ◌*◌, ◌<◌, ◌≤◌, Bool, true, false, not, List, ◌++◌, length, take, drop, slice_index, Result, Ok, Err, nat_eq, sym, refl, ap, arith, length-append, length-take, length-drop}
use Rattle.std.specs.Prelude.{◌==◌, ◌||◌, if◌then◌else◌}
use Rattle.std.specs.List.{starts_with}
use Rattle.std.specs.Cmp.Lexicographic.{same_text}
use Rattle.std.proofs.lemmas.Bool.{leb-true, le-leb}
use Rattle.std.proofs.lemmas.List.{take-append-le, drop-append-le, get_or_append_left}
use Rattle.elf_files.specs.declared.error.ElfError.{ElfError}
use Rattle.elf_files.specs.declared.error.ElfError.TheVariants.{Truncated}
use Rattle.elf_files.specs.declared.header.Header.{Header}
use Rattle.elf_files.specs.declared.header.Machine.{Machine}
use Rattle.elf_files.specs.declared.segment.Segment.{Segment}
use Rattle.elf_files.specs.Bytes.{ElfResult, ◌>>=◌, unless, number_at, is_within}
use Rattle.elf_files.specs.Header.{magic, ei_class, ei_data, ei_version, e_machine, e_version, e_phoff, e_phentsize, e_phnum, e_shoff, e_shentsize, e_shnum, e_shstrndx, machine_of, initial_section, segment_count, section_count, names_index, header_on, if_sized, header_of}
use Rattle.elf_files.specs.Segments.{segment_at, segment_from}

-- ---- results that have a value

-- a test passed before it
unless-ok : {A : Type 0} (test : Bool) (error : ElfError) (next : ElfResult A) (value : A) → unless test error next ≡ Ok value → (test ≡ true) × (next ≡ Ok value)
unless-ok true error next value is = (refl, is)
unless-ok false error next value is = cc

-- what came first has one too
then-ok : {A B : Type 0} (first : ElfResult A) (next : A → ElfResult B) (value : B) → (first >>= next) ≡ Ok value → (x : A) × (first ≡ Ok x) × (next x ≡ Ok value)
then-ok (Ok x) next value is = (x, refl, is)
then-ok (Err error) next value is = cc

-- a choice has a value in the whole if what was chosen has it there
if-whole : {A : Type 0} (test : Bool) (some some-whole none none-whole : ElfResult A) (value : A) → (some ≡ Ok value → some-whole ≡ Ok value) → (none ≡ Ok value → none-whole ≡ Ok value)
    → (if test then some else none) ≡ Ok value → (if test then some-whole else none-whole) ≡ Ok value
if-whole true some some-whole none none-whole value there not-there is = there is
if-whole false some some-whole none none-whole value there not-there is = not-there is

-- ---- numbers and bytes

-- what is in the file ends before the file does
ends-within : (bytes : List ℕ) (offset size : ℕ) → is_within bytes offset size ≡ true → offset + size ≤ length bytes
ends-within bytes offset size inside = leb-true (offset + size) (length bytes) inside

-- what is in the first bytes is in the whole
within-whole : (bytes rest : List ℕ) (offset size : ℕ) → is_within bytes offset size ≡ true → is_within (bytes ++ rest) offset size ≡ true
within-whole bytes rest offset size inside =
    let long : offset + size ≤ length bytes = ends-within bytes offset size inside in
    le-leb (offset + size) (length (bytes ++ rest)) (simp length-append (omega arith))

-- .. and has the same bytes there
taken-of-prefix : (bytes rest : List ℕ) (size offset : ℕ) → offset + size ≤ length bytes → take size (drop offset (bytes ++ rest)) ≡ take size (drop offset bytes)
taken-of-prefix bytes rest size offset long =
    let begins : offset ≤ length bytes = omega arith in
    let left : size ≤ length (drop offset bytes) = simp length-drop (omega arith) in
    rw (drop-append-le, take-append-le)

number-of-prefix : (bytes rest : List ℕ) (size offset : ℕ) → offset + size ≤ length bytes → number_at size (bytes ++ rest) offset ≡ number_at size bytes offset
unfolding number_at
number-of-prefix bytes rest size offset long = rw (taken-of-prefix bytes rest size offset long)

-- ---- the header

-- four bytes are enough to see that it is an ELF file
starts-whole : (bytes rest : List ℕ) → starts_with nat_eq bytes magic ≡ true → starts_with nat_eq (bytes ++ rest) magic ≡ true
starts-whole bytes rest starts =
    let front : magic ≡ take 4 bytes = same_text magic (take 4 bytes) (sym starts) in
    let long : 4 ≤ length bytes = omega (arith, simp length-take at (ap length front)) in
    rw take-append-le starts

module _ (bytes rest : List ℕ) (long : 64 ≤ length bytes) where
  -- members of the header
  member-same : (size offset : ℕ) → offset + size ≤ 64 → number_at size (bytes ++ rest) offset ≡ number_at size bytes offset
  member-same size offset inside = number-of-prefix bytes rest size offset (omega arith)

  byte-same : (index : ℕ) → index < 64 → slice_index (bytes ++ rest) index ≡ slice_index bytes index
  byte-same index inside = get_or_append_left bytes rest 0 index (omega arith)

  -- where the section header at index 0 is
  initial-same : (member at : ℕ) → initial_section bytes member ≡ Ok at → (initial_section (bytes ++ rest) member ≡ Ok at) × (at + 64 ≤ length bytes)
  initial-same member at is =
      let (some, more) = unless-ok (not (e_shoff bytes == 0)) _ _ _ is in
      let (inside, same) = unless-ok (is_within bytes (e_shoff bytes) 64) (Truncated (e_shoff bytes)) (Ok (e_shoff bytes)) at more in
      let place : e_shoff bytes ≡ at = cc in
      let ends = ends-within bytes (e_shoff bytes) 64 inside in
      (rw (member-same 8 40 (omega arith), some, within-whole bytes rest (e_shoff bytes) 64 inside) same, rw place at ends)

  -- .. and a member of it
  initial-number : (member size offset count : ℕ) → offset + size ≤ 64 → (initial_section bytes member >>= (λ at. Ok (number_at size bytes (at + offset)))) ≡ Ok count
      → (initial_section (bytes ++ rest) member >>= (λ at. Ok (number_at size (bytes ++ rest) (at + offset)))) ≡ Ok count
  initial-number member size offset count fits is =
      let (at, here, same) = then-ok _ _ _ is in
      let (whole, inside) = initial-same member at here in
      rw (whole, number-of-prefix bytes rest size (at + offset) (omega arith)) same

  -- the counts, which may be there
  segment_count-same : (count : ℕ) → segment_count bytes ≡ Ok count → segment_count (bytes ++ rest) ≡ Ok count
  segment_count-same count is =
      rw (member-same 8 32 (omega arith), member-same 2 56 (omega arith))
      (if-whole (e_phoff bytes == 0) _ _ _ _ count (λ none. none)
      (if-whole (e_phnum bytes == 0xffff) _ _ _ _ count (initial-number 56 4 44 count (omega arith)) (λ same. same)) is)

  section_count-same : (count : ℕ) → section_count bytes ≡ Ok count → section_count (bytes ++ rest) ≡ Ok count
  section_count-same count is =
      rw (member-same 8 40 (omega arith), member-same 2 60 (omega arith))
      (if-whole (e_shoff bytes == 0) _ _ _ _ count (λ none. none)
      (if-whole (e_shnum bytes == 0) _ _ _ _ count (λ initial. rw (member-same 8 40 (omega arith)) at (initial-number 60 8 32 count (omega arith) initial)) (λ same. same)) is)

  names_index-same : (index : ℕ) → names_index bytes ≡ Ok index → names_index (bytes ++ rest) ≡ Ok index
  names_index-same index is =
      rw (member-same 2 62 (omega arith))
      (if-whole (e_shstrndx bytes == 0xffff) _ _ _ _ index (initial-number 62 4 40 index (omega arith)) (λ same. same) is)

  -- the header on a machine
  header_on-same : (machine : Machine) (header : Header) → header_on bytes machine ≡ Ok header → header_on (bytes ++ rest) machine ≡ Ok header
  header_on-same machine header is =
      let (segments, first, after-segments) = then-ok _ _ _ is in
      let (sections, second, after-sections) = then-ok _ _ _ after-segments in
      let (names, third, same) = then-ok _ _ _ after-sections in
      rw (segment_count-same segments first, section_count-same sections second, names_index-same names third)
      (rw (member-same 2 16 (omega arith), member-same 8 24 (omega arith), member-same 8 32 (omega arith), member-same 8 40 (omega arith)) same)

  -- .. if the entries of both tables have their sizes
  sized-same : (machine : Machine) (header : Header) → if_sized bytes (header_on bytes machine) ≡ Ok header → if_sized (bytes ++ rest) (header_on (bytes ++ rest) machine) ≡ Ok header
  sized-same machine header is =
      let (segments, after-segments) = unless-ok (e_phoff bytes == 0 || e_phentsize bytes == 56) _ _ _ is in
      let (sections, sized) = unless-ok (e_shoff bytes == 0 || e_shentsize bytes == 64) _ _ _ after-segments in
      let segments-whole : (e_phoff (bytes ++ rest) == 0 || e_phentsize (bytes ++ rest) == 56) ≡ true = rw (member-same 8 32 (omega arith), member-same 2 54 (omega arith)) segments in
      let sections-whole : (e_shoff (bytes ++ rest) == 0 || e_shentsize (bytes ++ rest) == 64) ≡ true = rw (member-same 8 40 (omega arith), member-same 2 58 (omega arith)) sections in
      rw (segments-whole, sections-whole) (header_on-same machine header sized)

-- the header, if the first bytes have a whole one that is not refused, and the section header at index 0 if that is needed
pub header-of-prefix : (bytes rest : List ℕ) (header : Header) → header_of bytes ≡ Ok header → header_of (bytes ++ rest) ≡ Ok header
unfolding header_of
header-of-prefix bytes rest header is =
    let (starts, after-magic) = unless-ok (starts_with nat_eq bytes magic) _ _ _ is in
    let (inside, after-size) = unless-ok (is_within bytes 0 64) _ _ _ after-magic in
    let (class, after-class) = unless-ok (ei_class bytes == 2) _ _ _ after-size in
    let (order, after-order) = unless-ok (ei_data bytes == 1) _ _ _ after-class in
    let (version, after-version) = unless-ok (ei_version bytes == 1) _ _ _ after-order in
    let (file-version, identified) = unless-ok (e_version bytes == 1) _ _ _ after-version in
    let (machine, known, after-machine) = then-ok (machine_of (e_machine bytes)) _ _ identified in
    let long : 64 ≤ length bytes = ends-within bytes 0 64 inside in
    let byte = byte-same bytes rest long in
    let member = member-same bytes rest long in
    rw (starts-whole bytes rest starts, within-whole bytes rest 0 64 inside)
    (rw (byte 4 (omega arith), class, byte 5 (omega arith), order, byte 6 (omega arith), version, member 4 20 (omega arith), file-version)
    (rw (member 2 18 (omega arith), known) (sized-same bytes rest long machine header after-machine)))

-- ---- segments

-- a program header
segment_from-same : (bytes rest : List ℕ) (at : ℕ) → at + 56 ≤ length bytes → segment_from (bytes ++ rest) at ≡ segment_from bytes at
segment_from-same bytes rest at inside =
    let member : (size offset : ℕ) → offset + size ≤ 56 → number_at size (bytes ++ rest) (at + offset) ≡ number_at size bytes (at + offset) =
    λ size offset fits. number-of-prefix bytes rest size (at + offset) (omega arith) in
    rw (number-of-prefix bytes rest 4 at (omega arith), member 4 4 (omega arith), member 8 8 (omega arith), member 8 16 (omega arith), member 8 32 (omega arith), member 8 40 (omega arith), member 8 48 (omega arith))

-- a segment, if the first bytes have the whole table
pub segment-of-prefix : (bytes rest : List ℕ) (header : Header) (index : ℕ) (segment : Segment) → index < header.segment_count → segment_at bytes header index ≡ Ok segment
    → segment_at (bytes ++ rest) header index ≡ Ok segment
segment-of-prefix bytes rest header index segment below is =
    let (inside, same) = unless-ok _ _ _ _ is in
    let ends : header.segment_table + 56 * header.segment_count ≤ length bytes = ends-within bytes header.segment_table (56 * header.segment_count) inside in
    rw (within-whole bytes rest header.segment_table (56 * header.segment_count) inside, segment_from-same bytes rest (header.segment_table + 56 * index) (omega arith)) same
