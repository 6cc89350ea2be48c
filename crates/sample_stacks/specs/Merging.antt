-- How the ranges of mappings are found, from the last mapping on.
use Rattle.std.specs.Prelude.{ℕ, ◌+◌, ◌-◌, ◌^◌, min, max, nat_lt, if◌then◌else◌, List, [], ◌∷◌, ◌++◌}
use Rattle.perf_processes.specs.declared.change.MappedFile.{MappedFile}
use Rattle.sample_stacks.specs.declared.ranges.CodeRange.{CodeRange}

-- The part of a mapping between two addresses.
abbrev pub range_of : MappedFile → ℕ → ℕ → CodeRange
range_of mapping start end = record { start = start; end = end; mapping = mapping }

-- The same, if there is an address.
abbrev pub part : MappedFile → ℕ → ℕ → List CodeRange
part mapping start end = if nat_lt start end then range_of mapping start end ∷ [] else []

-- Ranges with the addresses of a mapping between two that they don't have.
abbrev pub filled : MappedFile → (end start : ℕ) → List CodeRange → List CodeRange
filled mapping end start [] = part mapping start end
filled mapping end start (range ∷ ranges) =
    part mapping start (min end range.start) ++ range ∷ filled mapping end (max start range.end) ranges

-- The address behind a mapping's last, of which there are 64 bits.
abbrev pub end_of : MappedFile → ℕ
end_of mapping = min (mapping.address + mapping.size) (2 ^ 64 - 1)

-- Ranges with the addresses of a mapping that they don't have.
abbrev pub with_mapping : MappedFile → List CodeRange → List CodeRange
with_mapping mapping ranges = filled mapping (end_of mapping) mapping.address ranges

-- The ranges of mappings.
abbrev pub ranges_of : List MappedFile → List CodeRange
ranges_of [] = []
ranges_of (mapping ∷ mappings) = with_mapping mapping (ranges_of mappings)
