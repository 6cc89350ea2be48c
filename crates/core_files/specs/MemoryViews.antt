-- What contracts see of memory.
use Rattle.std.specs.Prelude.{ℕ, Bool, Option, List}
use Rattle.core_files.specs.declared.memory.Memory.{Memory}
use Rattle.core_files.specs.Ranges.{KnownRange}
use Rattle.core_files.specs.RangeViews.{ranges_seen}
use Rattle.core_files.specs.Memory.{byte_at, executable_at, word_at}

-- The loaded segments.
abbrev pub segments_of : Memory → List KnownRange
segments_of memory = ranges_seen memory.segments.ranges.now

-- The mapped files with their bytes.
abbrev pub files_of : Memory → List KnownRange
files_of memory = ranges_seen memory.files.ranges.now

-- The byte at an address.
abbrev pub byte_of : Memory → ℕ → Option ℕ
byte_of memory address = byte_at (segments_of memory) (files_of memory) address

-- Whether what is at an address may be executed, if a segment says it.
abbrev pub executable_of : Memory → ℕ → Option Bool
executable_of memory address = executable_at (segments_of memory) address

-- The word at an address.
abbrev pub word_of : Memory → ℕ → Option ℕ
word_of memory address = word_at (segments_of memory) (files_of memory) address
