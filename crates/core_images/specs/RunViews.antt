-- What contracts see of bytes that follow each other, and of the bytes of a file.
use Rattle.std.specs.Prelude.{ℕ, List, Option, replicate}
use Rattle.core_files.specs.NoteViews.{mappings_of}
use Rattle.core_files.specs.RangeViews.{ranges_seen}
use Rattle.core_files.specs.declared.mapped_files.MappedFile.{MappedFile}
use Rattle.core_files.specs.declared.memory_range.MemoryRange.{MemoryRange}
use Rattle.core_images.specs.Images.{byte_of_file}
use Rattle.core_images.specs.declared.runs.Run.{Run}
use Rattle.core_images.specs.declared.runs.Run.TheVariants.{Bytes, Zeros}

-- bytes that follow each other
abbrev pub run_seen : Run → List ℕ
run_seen (Zeros count) = replicate count 0
run_seen (Bytes bytes) = bytes.now

-- the byte at an offset of a file with these mappings, if the memory of these segments has it
abbrev pub file_byte : List MemoryRange → List MappedFile → ℕ → Option ℕ
file_byte segments mappings offset = byte_of_file (ranges_seen segments) (mappings_of mappings) offset
