-- What a core says that is read in parts is what the whole says.
use Rattle.std.proofs.Common.{◌≡◌, ℕ, zero, suc, ◌+◌, ◌<◌, Bool, true, false, List, [], ◌∷◌, ◌++◌, refl, ap, sym, subst, arith}
use Rattle.std.specs.Prelude.{if◌then◌else◌, Result, Ok, Err, IfOk}
use Rattle.elf_files.specs.Bytes.{ElfResult}
use Rattle.elf_files.specs.Header.{header_of}
use Rattle.elf_files.specs.Notes.{NoteParts}
use Rattle.elf_files.specs.Segments.{is_note_segment, segment_at, segment_bytes}
use Rattle.elf_files.specs.declared.header.FileKind.{FileKind}
use Rattle.elf_files.specs.declared.header.FileKind.TheVariants.{Relocatable, Executable, SharedObject, Core, Other as OtherKind}
use Rattle.elf_files.specs.declared.header.Header.{Header}
use Rattle.elf_files.specs.declared.segment.Segment.{Segment}
use Rattle.elf_files.proofs.Laws.{header-of-prefix, segment-of-prefix}
use Rattle.core_files.specs.declared.core_file.CoreFile.{CoreFile}
use Rattle.core_files.specs.declared.error.CoreError.TheVariants.{NotCore}
use Rattle.core_files.specs.CoreFiles.{CoreContents, HasParts, KnownPart, bytes_left, core_by, core_header, core_in_parts, core_notes, core_of, gather, is_loaded, loaded_apart, loaded_in, loaded_range, loaded_ranges, noted_apart, notes_in}
use Rattle.core_files.specs.CoreViews.{contents_of}
use Rattle.core_files.specs.Ranges.{KnownRange}
use Rattle.core_files.specs.Refusals.{CoreResult, Gives, result_and_then, by_elf}

-- ---- results that have a value

-- what came first has one too
then-ok : {A B E : Type 0} (first : Result A E) (next : A → Result B E) (value : B) → result_and_then first next ≡ Ok value → (x : A) × (first ≡ Ok x) × (next x ≡ Ok value)
then-ok (Ok x) next value is = (x, refl, is)
then-ok (Err error) next value is = cc

then-is : {A B E : Type 0} (first : Result A E) (next : A → Result B E) (x : A) (value : B) → first ≡ Ok x → next x ≡ Ok value → result_and_then first next ≡ Ok value
then-is first next x value is same = rw is same

elf-ok : {A : Type 0} (read : ElfResult A) (value : A) → by_elf read ≡ Ok value → read ≡ Ok value
elf-ok (Ok x) value is = cc
elf-ok (Err error) value is = cc

-- ---- all segments

-- what each gives, another gives
gathered-again : {A E : Type 0} (give other : ℕ → Result (List A) E) (first count : ℕ) (all : List A) → ((index : ℕ) (some : List A) → index < first + count → give index ≡ Ok some → other index ≡ Ok some)
    → gather give first count ≡ Ok all → gather other first count ≡ Ok all
unfolding gather
gathered-again give other first zero all again is = is
gathered-again give other first (suc count) all again is =
    let (some, here, after) = then-ok (give first) _ all is in
    let (more, there, same) = then-ok (gather give (first + 1) count) _ all after in
    then-is (other first) _ some all (again first some (omega arith) here)
    (then-is (gather other (first + 1) count) _ more all (gathered-again give other (first + 1) count more (λ index found below. again index found (omega arith)) there) same)

-- ---- kinds

abbrev if-core : FileKind → CoreResult Header → CoreResult Header → CoreResult Header
if-core kind one other = elim kind [ Core ↦ one | _ ↦ other ]

core-kind : (kind : FileKind) (header found : Header) → if-core kind (Ok header) (Err NotCore) ≡ Ok found → header ≡ found
core-kind Core header found is = cc
core-kind Relocatable header found is = cc
core-kind Executable header found is = cc
core-kind SharedObject header found is = cc
core-kind (OtherKind _) header found is = cc

-- what a segment of the kind has, if it has it by another reader too
kind-again : {A : Type 0} (test : Bool) (one other none : ElfResult A) (value : A) → (test ≡ true → one ≡ Ok value → other ≡ Ok value)
    → (if test then one else none) ≡ Ok value → (if test then other else none) ≡ Ok value
kind-again true one other none value again is = again refl is
kind-again false one other none value again is = is

-- what a file has of a segment
abbrev read-left : List ℕ → Segment → ElfResult (List ℕ)
read-left bytes segment = Ok (bytes_left bytes segment)

-- ---- a core by its parts

module _ (head rest : List ℕ) (parts : List KnownPart) where
  abbrev all : List ℕ
  all = head ++ rest

  -- the header
  header-again : (header : Header) → core_header head ≡ Ok header → (header_of head ≡ Ok header) × (core_header all ≡ Ok header)
  header-again header is =
      let (read, here, kind) = then-ok (by_elf (header_of head)) _ header is in
      let same : read ≡ header = core-kind read.kind read header kind in
      let first : header_of head ≡ Ok read = elf-ok (header_of head) read here in
      (subst (λ (h : Header). header_of head ≡ Ok h) same first, then-is (by_elf (header_of all)) _ read header (ap by_elf (header-of-prefix head rest read first)) kind)

  -- what all segments have
  module _ (header : Header) (first : header_of head ≡ Ok header) (has : HasParts all head parts) where
    ranges-again : (ranges : List KnownRange) → loaded_ranges (loaded_apart parts) head header ≡ Ok ranges → loaded_ranges (λ (index : ℕ). read-left all) all header ≡ Ok ranges
    ranges-again ranges =
        gathered-again _ _ 0 header.segment_count ranges (λ index some below given.
        let (segment, at, kind) = then-ok (segment_at head header index) (loaded_in (loaded_apart parts index)) some given in
        then-is (segment_at all header index) (loaded_in (read-left all)) segment some (segment-of-prefix head rest header index segment (omega arith) at)
        (kind-again (is_loaded segment.kind) _ _ (Ok []) some (λ is read.
        let (found, here, one) = then-ok (loaded_apart parts index segment) _ some read in
        let left : read-left all segment ≡ Ok found = ap (λ (l : List ℕ). Ok l) (has.loaded index segment found (header, first, omega arith, at) is here) in
        then-is (read-left all segment) (λ (l : List ℕ). Ok (loaded_range segment l ∷ [])) found some left one) kind))

    notes-again : (notes : List NoteParts) → core_notes (noted_apart parts) head header ≡ Ok notes → core_notes (λ (index : ℕ). segment_bytes all) all header ≡ Ok notes
    notes-again notes =
        gathered-again _ _ 0 header.segment_count notes (λ index some below given.
        let (segment, at, kind) = then-ok (segment_at head header index) (notes_in (noted_apart parts index)) some given in
        then-is (segment_at all header index) (notes_in (segment_bytes all)) segment some (segment-of-prefix head rest header index segment (omega arith) at)
        (kind-again (is_note_segment segment.kind) _ _ (Ok []) some (λ is read.
        let (found, here, noted) = then-ok (noted_apart parts index segment) _ some read in
        then-is (segment_bytes all segment) _ found some (has.noted index segment found (header, first, omega arith, at) is here) noted) kind))

-- the whole
whole-again : (head rest : List ℕ) (parts : List KnownPart) (contents : CoreContents) → HasParts (head ++ rest) head parts → core_in_parts head parts ≡ Ok contents → core_of (head ++ rest) ≡ Ok contents
unfolding core_by
whole-again head rest parts contents has is =
    let all : List ℕ = head ++ rest in
    let (header, first, after-header) = then-ok (core_header head) _ contents is in
    let (segments, second, after-segments) = then-ok (by_elf (loaded_ranges (loaded_apart parts) head header)) _ contents after-header in
    let (notes, third, same) = then-ok (by_elf (core_notes (noted_apart parts) head header)) _ contents after-segments in
    let (read, again) = header-again head rest parts header first in
    then-is (core_header all) _ header contents again
    (then-is (by_elf (loaded_ranges (λ (index : ℕ). read-left all) all header)) _ segments contents (ap by_elf (ranges-again head rest parts header read has segments (elf-ok _ segments second)))
    (then-is (by_elf (core_notes (λ (index : ℕ). segment_bytes all) all header)) _ notes contents (ap by_elf (notes-again head rest parts header read has notes (elf-ok _ notes third))) same))

parts-are-core : (file head : List ℕ) (parts : List KnownPart) (contents : CoreContents) → core_in_parts head parts ≡ Ok contents → HasParts file head parts → core_of file ≡ Ok contents
parts-are-core file head parts contents is has =
    let (rest, begins) = has.begins in
    subst (λ (all : List ℕ). core_of all ≡ Ok contents) (sym begins)
    (whole-again head rest parts contents (subst (λ (all : List ℕ). HasParts all head parts) begins has) is)

pub read-in-parts : (head : List ℕ) (parts : List KnownPart) (result : CoreResult CoreFile) → Gives contents_of result (core_in_parts head parts)
    → IfOk result (λ core. (file : List ℕ) → HasParts file head parts → core_of file ≡ Ok (contents_of core))
read-in-parts head parts (Ok core) is = λ file has. parts-are-core file head parts (contents_of core) is has
read-in-parts head parts (Err error) is = tt
