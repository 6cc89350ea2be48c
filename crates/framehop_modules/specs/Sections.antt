-- The sections and segments of a module, by their names.
use Rattle.std.specs.Prelude.{ℕ, ◌≡◌, Bool, false, List, Option, drop, codes, bytes_eq, nat_eq, if◌then◌else◌}
use Rattle.std.specs.List.{starts_with}
use Rattle.std.specs.declared.ops.Range.{Range}

-- What a module's sections and segments are: the address that its stated addresses are relative to, and, by name, the stated
-- ranges of addresses and the data that was not handed out yet.
pub record Sections : Type 0 where
  pub base_svma : ℕ
  pub section_range : List ℕ → Option (Range ℕ)
  pub section_data : List ℕ → Option (List ℕ)
  pub segment_range : List ℕ → Option (Range ℕ)
  pub segment_data : List ℕ → Option (List ℕ)

-- a name of a section without the `__` of Mach-O files or the `.` of ELF and PE files before it
abbrev pub bare_name : List ℕ → List ℕ
bare_name name =
    if starts_with nat_eq name (codes "__") then drop 2 name
    else (if starts_with nat_eq name (codes ".") then drop 1 name else name)

-- two names may be those of one section if they differ in that alone
abbrev pub may_be_one : List ℕ → List ℕ → Bool
may_be_one name other = bytes_eq (bare_name name) (bare_name other)

-- What is left after data was handed out under the name of a section: ranges and segments are as before, and so is the
-- data of every other section.
pub record SectionLeft (name : List ℕ) (old new : Sections) : Type 0 where
  pub base_svma : new.base_svma ≡ old.base_svma
  pub section_range : new.section_range ≡ old.section_range
  pub section_data : (other : List ℕ) → may_be_one name other ≡ false → new.section_data other ≡ old.section_data other
  pub segment_range : new.segment_range ≡ old.segment_range
  pub segment_data : new.segment_data ≡ old.segment_data

-- What is left after data was handed out under the name of a segment.
pub record SegmentLeft (name : List ℕ) (old new : Sections) : Type 0 where
  pub base_svma : new.base_svma ≡ old.base_svma
  pub section_range : new.section_range ≡ old.section_range
  pub section_data : new.section_data ≡ old.section_data
  pub segment_range : new.segment_range ≡ old.segment_range
  pub segment_data : (other : List ℕ) → bytes_eq name other ≡ false → new.segment_data other ≡ old.segment_data other
