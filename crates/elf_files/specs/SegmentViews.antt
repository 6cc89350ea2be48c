-- What contracts see of a table of segments that is read in place.
use Rattle.std.specs.Prelude.{ℕ, ◌≡◌, ◌+◌, ◌*◌, true, false, List}
use Rattle.elf_files.specs.declared.error.ElfError.{ElfError}
use Rattle.elf_files.specs.declared.error.ElfError.TheVariants.{Truncated}
use Rattle.elf_files.specs.declared.header.Header.{Header}
use Rattle.elf_files.specs.declared.segment.Segment.{Segment}
use Rattle.elf_files.specs.declared.segment_table.SegmentTable.{SegmentTable}
use Rattle.elf_files.specs.Bytes.{is_within}
use Rattle.elf_files.specs.Segments.{segment_from}
use Rattle.elf_files.specs.Tables.{entries}

-- The segment with an index of a table.
abbrev pub segment_in : SegmentTable → ℕ → Segment
segment_in table index = segment_from table.bytes.now (table.offset + 56 * index)

-- All segments of a table.
abbrev pub segments_in : SegmentTable → List Segment
segments_in table = entries (segment_in table) 0 table.count

-- A table is that of a file, and whole.
pub record IsSegmentTableOf (bytes : List ℕ) (header : Header) (table : SegmentTable) : Type 0 where
  pub same_bytes : table.bytes.now ≡ bytes
  pub offset : table.offset ≡ header.segment_table
  pub count : table.count ≡ header.segment_count
  pub whole : is_within bytes header.segment_table (56 * header.segment_count) ≡ true

-- The table of a file isn't whole, and this is the error.
pub record IsSegmentTableCut (bytes : List ℕ) (header : Header) (error : ElfError) : Type 0 where
  pub is : error ≡ Truncated header.segment_table
  pub cut : is_within bytes header.segment_table (56 * header.segment_count) ≡ false
