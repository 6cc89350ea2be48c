-- The sections of a file as a caller lists them, by their names.
use Rattle.std.specs.Prelude.{ℕ, List, [], ◌∷◌, Bool, ◌&&◌, not, ◌==◌, Option, Some, None, bytes_eq, if◌then◌else◌, bit_and}
use Rattle.std.specs.Option.{option_or}
use Rattle.std.specs.declared.ops.Range.{Range}
use Rattle.framehop_modules.specs.Sections.{Sections}
use Rattle.framehop_calls.specs.declared.sections.Section.{Section}
use Rattle.framehop_calls.specs.declared.sections.FileSections.{FileSections}

-- what is given of a section has this
abbrev pub gives : Section → ℕ → Bool
gives section what = not (bit_and section.given what == 0)

-- it is a section of this name: of kind 0, or a segment: of kind 4
abbrev pub is_named : Section → List ℕ → ℕ → Bool
is_named section name kind = bytes_eq section.name.now name && (bit_and section.given 4 == kind)

-- the range of the first of this name and kind that has one
abbrev pub range_named : List ℕ → ℕ → List Section → Option (Range ℕ)
range_named name kind [] = None
range_named name kind (section ∷ sections) =
    option_or (if is_named section name kind && gives section 2 then Some (record { start = section.start; end = section.end }) else None)
    (range_named name kind sections)

-- the bytes of the first of this name and kind that has some
abbrev pub bytes_named : List ℕ → ℕ → List Section → Option (List ℕ)
bytes_named name kind [] = None
bytes_named name kind (section ∷ sections) =
    option_or (if is_named section name kind && gives section 1 then Some section.bytes.now else None) (bytes_named name kind sections)

-- sections and segments whose stated addresses are relative to an address
abbrev pub sections_listed : ℕ → List Section → Sections
sections_listed base_svma sections = record {
  base_svma = base_svma;
  section_range = λ name. range_named name 0 sections;
  section_data = λ name. bytes_named name 0 sections;
  segment_range = λ name. range_named name 4 sections;
  segment_data = λ name. bytes_named name 4 sections;
}

-- the sections of a file
abbrev pub sections_of : FileSections → Sections
sections_of file = sections_listed file.base_svma file.sections.now
