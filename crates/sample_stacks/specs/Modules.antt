-- The modules of a process, by the addresses that are mapped from files.
use Rattle.std.specs.Prelude.{◌≡◌, ℕ, List, [], Option, Some, IfSome, option_map}
use Rattle.framehop_unwinder.specs.declared.ids.UnwinderId.{UnwinderId}
use Rattle.perf_processes.specs.declared.change.MappedFile.{MappedFile}
use Rattle.sample_stacks.specs.Known.{code_at, ranges_seen, untouched}
use Rattle.sample_stacks.specs.Ranges.{AreApart, AreOfLastMappings, mapping_in}
use Rattle.sample_stacks.specs.declared.known.KnownRange.{KnownRange}
use Rattle.sample_stacks.specs.declared.ranges.CodeRange.{CodeRange}
use Rattle.sample_stacks.specs.declared.modules.CodePlace.{CodePlace}

-- The unwinder that has the modules, and the ranges of addresses that they are for, with what is known of their code.
pub record ModuleRanges : Type 0 where
  pub unwinder : UnwinderId
  pub known : List KnownRange

-- No modules.
abbrev pub no_modules : UnwinderId → ModuleRanges
no_modules unwinder = record { unwinder = unwinder; known = [] }

-- The ranges.
abbrev pub module_ranges : ModuleRanges → List CodeRange
module_ranges modules = ranges_seen modules.known

-- The code at an address, as far as it is known.
abbrev pub module_code : ModuleRanges → ℕ → List ℕ
module_code modules = code_at modules.known

-- How many ranges are left, in which no frame was yet.
abbrev pub ranges_left : ModuleRanges → ℕ
ranges_left modules = untouched modules.known

-- The ranges of mappings: apart, and each address of the last mapping that has it.
pub record IsRanges (ranges : List CodeRange) (mappings : List MappedFile) : Type 0 where
  pub apart : AreApart 0 ranges
  pub of_last : AreOfLastMappings ranges mappings

-- The file of a mapping.
abbrev pub file_of : MappedFile → ℕ
file_of mapping = mapping.file

-- A place, if there is one, is in the file of the mapping of the range that has the address.
abbrev pub IsPlace : (address : ℕ) → List CodeRange → Option CodePlace → Type 0
IsPlace address ranges place =
    AreApart 0 ranges → IfSome place (λ found. option_map file_of (mapping_in address ranges) ≡ Some found.file)
