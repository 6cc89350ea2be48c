-- Ranges with what is known of their code.
use Rattle.std.specs.Prelude.{◌≡◌, ℕ, ◌+◌, ◌-◌, ◌<◌, if◌then◌else◌, Bool, true, false, List, [], ◌∷◌, drop, map, slice_get, Option, Some, None, IfSome}
use Rattle.std.specs.List.{find}
use Rattle.perf_processes.specs.declared.change.MappedFile.{MappedFile}
use Rattle.sample_stacks.specs.Ranges.{AreApart, has_address, mapping_in}
use Rattle.sample_stacks.specs.declared.known.FoundRange.{FoundRange}
use Rattle.sample_stacks.specs.declared.known.KnownRange.{KnownRange}
use Rattle.sample_stacks.specs.declared.known.RangeCode.{RangeCode}
use Rattle.sample_stacks.specs.declared.known.RangeCode.TheVariants.{Untouched, Missing, Loaded}
use Rattle.sample_stacks.specs.declared.ranges.CodeRange.{CodeRange}

-- The range.
abbrev pub range_seen : KnownRange → CodeRange
range_seen known = known.range

-- The ranges.
abbrev pub ranges_seen : List KnownRange → List CodeRange
ranges_seen known = map range_seen known

-- What was found of ranges that are apart has the address.
abbrev pub IsFound : ℕ → List KnownRange → FoundRange → Type 0
IsFound address ranges found =
    AreApart 0 (ranges_seen ranges) → mapping_in address (ranges_seen ranges) ≡ Some found.known.range.mapping

-- ---- code

-- The code of a mapping from an address on: the bytes of its file, if this is known to be loaded.
abbrev pub code_in : RangeCode → MappedFile → ℕ → List ℕ
code_in Untouched mapping address = []
code_in Missing mapping address = []
code_in (Loaded base_svma base_avma bytes) mapping address = drop (mapping.offset + (address - mapping.address)) bytes.now

-- A range has an address.
abbrev pub has_known : ℕ → KnownRange → Bool
has_known address known = has_address address known.range

-- The first range that has an address.
abbrev pub known_at : List KnownRange → ℕ → Option KnownRange
known_at ranges address = find (has_known address) ranges

-- The code of a range, if there is one.
abbrev pub code_of : Option KnownRange → ℕ → List ℕ
code_of None address = []
code_of (Some known) address = code_in known.code known.range.mapping address

-- The code at an address.
abbrev pub code_at : List KnownRange → ℕ → List ℕ
code_at ranges address = code_of (known_at ranges address) address

-- ---- what wasn't touched

-- No frame was in a range yet.
abbrev pub is_untouched : RangeCode → Bool
is_untouched Untouched = true
is_untouched _ = false

-- How many ranges no frame was in yet.
abbrev pub untouched : List KnownRange → ℕ
untouched [] = 0
untouched (known ∷ others) = (if is_untouched known.code then 1 else 0) + untouched others

-- Code in place of what was untouched leaves fewer ranges that are.
abbrev pub LeavesFewer : List KnownRange → ℕ → RangeCode → List KnownRange → Type 0
LeavesFewer old index code new =
    is_untouched code ≡ false → IfSome (slice_get old index) (λ known. is_untouched known.code ≡ true → untouched new < untouched old)
