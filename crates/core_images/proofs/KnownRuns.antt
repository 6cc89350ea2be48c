-- Bytes that are known in a range, in memory and in a file.
use Rattle.std.proofs.Common.{◌≡◌, ℕ, ◌+◌, ◌-◌, ◌<◌, ◌≤◌, List, length, ap, ◌∙◌, arith}
use Rattle.std.specs.Prelude.{Option, Some, None, IfNone, IfSome}
use Rattle.core_files.specs.declared.mapped_files.MappedFile.{MappedFile}
use Rattle.core_files.specs.declared.memory_range.MemoryRange.{MemoryRange}
use Rattle.core_files.specs.FileViews.{mapping_of}
use Rattle.core_files.specs.MappedFiles.{FileMapping}
use Rattle.core_files.specs.Memory.{byte_among}
use Rattle.core_files.specs.NoteViews.{mappings_of}
use Rattle.core_files.specs.Ranges.{KnownRange, byte_in, range_at}
use Rattle.core_files.specs.RangeViews.{range_seen, ranges_seen}
use Rattle.core_images.specs.Images.{address_in, byte_of_file, mapping_at}
use Rattle.core_images.specs.Runs.{AreKnown, NoneBegins}
use Rattle.core_images.specs.RunViews.{run_seen}
use Rattle.core_images.specs.declared.runs.Run.{Run}
use Rattle.core_images.proofs.First.{first-has, known-further}

-- ---- in memory

module _ (segments : List MemoryRange) (address : ℕ) (range : KnownRange) (found : range_at (ranges_seen segments) address ≡ Some range) where
  -- the range has the address
  pub range-has : (range.address ≤ address) × (address < range.address + range.size)
  unfolding range_at
  range-has = first-has range_seen (λ (r : KnownRange). r.address) (λ (r : KnownRange). r.size) segments address range found

  -- its bytes are those of memory
  pub known-in-memory : (many : ℕ) (bytes : List ℕ) → AreKnown (λ at. byte_in at range) address bytes → length bytes ≤ many → address + many ≤ range.address + range.size
      → NoneBegins (λ (r : MemoryRange). r.address) address many segments → AreKnown (byte_among (ranges_seen segments)) address bytes
  unfolding range_at
  known-in-memory many bytes are most within none =
      known-further range_seen (λ (r : KnownRange). r.address) (λ (r : KnownRange). r.size) (λ (r : KnownRange) at. byte_in at r) segments address many range bytes found are most within none

  pub if-known-in-memory : (many : ℕ) (run : Option Run) → IfSome run (λ bytes. AreKnown (λ at. byte_in at range) address (run_seen bytes)) → IfSome run (λ bytes. length (run_seen bytes) ≤ many)
      → address + many ≤ range.address + range.size → NoneBegins (λ (r : MemoryRange). r.address) address many segments → IfSome run (λ bytes. AreKnown (byte_among (ranges_seen segments)) address (run_seen bytes))
  if-known-in-memory many None are most within none = tt
  if-known-in-memory many (Some run) are most within none = known-in-memory many (run_seen run) are most within none

-- ---- in a file

module _ (segments : List KnownRange) (mappings : List MappedFile) (offset : ℕ) (mapping : FileMapping) (found : mapping_at (mappings_of mappings) offset ≡ Some mapping) where
  -- the mapping has the offset
  pub mapping-has : (mapping.offset ≤ offset) × (offset < mapping.offset + (mapping.end - mapping.start))
  mapping-has = first-has mapping_of (λ (m : FileMapping). m.offset) (λ (m : FileMapping). m.end - m.start) mappings offset mapping found

  -- bytes of memory at its address are those of the file
  module _ (address : ℕ) (is : address ≡ mapping.start + (offset - mapping.offset)) where
    pub known-in-file : (many : ℕ) (bytes : List ℕ) → AreKnown (byte_among segments) address bytes → length bytes ≤ many
        → offset + many ≤ mapping.offset + (mapping.end - mapping.start) → NoneBegins (λ (m : MappedFile). m.offset) offset many mappings
        → AreKnown (byte_of_file segments (mappings_of mappings)) offset bytes
    known-in-file many bytes are most within none =
        let low : mapping.offset ≤ offset = mapping-has.0 in
        known-further mapping_of (λ (m : FileMapping). m.offset) (λ (m : FileMapping). m.end - m.start) (λ (m : FileMapping) at. byte_among segments (address_in at m)) mappings offset many mapping bytes found
        (record {
          known = λ k h. ap (byte_among segments) (let same : mapping.start + (offset + k - mapping.offset) ≡ address + k = omega arith in same) ∙ are.known k h;
          some = are.some;
        })
        most within none

    pub if-known-in-file : (many : ℕ) (run : Option Run) → IfSome run (λ bytes. AreKnown (byte_among segments) address (run_seen bytes)) → IfSome run (λ bytes. length (run_seen bytes) ≤ many)
        → offset + many ≤ mapping.offset + (mapping.end - mapping.start) → NoneBegins (λ (m : MappedFile). m.offset) offset many mappings
        → IfSome run (λ bytes. AreKnown (byte_of_file segments (mappings_of mappings)) offset (run_seen bytes))
    if-known-in-file many None are most within none = tt
    if-known-in-file many (Some run) are most within none = known-in-file many (run_seen run) are most within none

    pub if-none-in-file : (run : Option Run) → IfNone run (byte_among segments address ≡ None) → IfNone run (byte_of_file segments (mappings_of mappings) offset ≡ None)
    if-none-in-file None none = rw (found, ← is) none
    if-none-in-file (Some run) none = tt
