-- What the ranges of a process are.
use Rattle.std.specs.Prelude.{◌≡◌, ℕ, suc, ◌+◌, ◌^◌, ◌<◌, ◌≤◌, ◌&&◌, nat_le, nat_lt, Bool, List, [], ◌∷◌, Option}
use Rattle.std.specs.List.{filter, find}
use Rattle.std.specs.Option.{option_map}
use Rattle.list_laws.specs.Last.{last_of}
use Rattle.perf_processes.specs.declared.change.MappedFile.{MappedFile}
use Rattle.sample_stacks.specs.declared.ranges.CodeRange.{CodeRange}

-- A mapping has an address.
abbrev pub is_mapped : ℕ → MappedFile → Bool
is_mapped address mapped = nat_le mapped.address address && nat_lt address (mapped.address + mapped.size)

-- A range has an address.
abbrev pub has_address : ℕ → CodeRange → Bool
has_address address range = nat_le range.start address && nat_lt address range.end

-- The mapping of a range.
abbrev pub mapping_of : CodeRange → MappedFile
mapping_of range = range.mapping

-- The mapping of the range that has an address.
abbrev pub mapping_in : ℕ → List CodeRange → Option MappedFile
mapping_in address ranges = option_map mapping_of (find (has_address address) ranges)

-- Ranges from an address on: each has an address itself, and ends before the next one begins.
abbrev pub AreApart : ℕ → List CodeRange → Type 0
AreApart start [] = Unit {0}
AreApart start (range ∷ ranges) = (start ≤ range.start) × (range.start < range.end) × AreApart range.end ranges

-- An address, if it isn't the last of all, is of the last mapping that has it.
abbrev pub AreOfLastMappings : List CodeRange → List MappedFile → Type 0
AreOfLastMappings ranges mappings =
    (address : ℕ) → suc address < 2 ^ 64 → mapping_in address ranges ≡ last_of (filter (is_mapped address) mappings)
