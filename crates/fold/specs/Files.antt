-- Whether a file is the one that was recorded.
use Rattle.std.specs.Prelude.{ℕ, Bool, true, false, not, ◌&&◌, List, [], ◌∷◌, bytes_eq, Option, Some, None}
use Rattle.elf_files.specs.declared.header.Machine.{Machine}
use Rattle.elf_files.specs.declared.header.Machine.TheVariants as machine
use Rattle.perf_files.specs.declared.feature.Architecture.{Architecture}
use Rattle.perf_files.specs.declared.feature.Architecture.TheVariants.{X86_64, Aarch64}

-- a machine is a recording's
abbrev pub is_machine : Architecture → Machine → Bool
is_machine X86_64 machine.X86_64 = true
is_machine Aarch64 machine.Aarch64 = true
is_machine _ _ = false

-- a file with this build id, if it has one, is another than the one with a recorded build id: both are known, and differ
abbrev pub is_other : Option (List ℕ) → List ℕ → Bool
is_other None recorded = false
is_other (Some id) [] = false
is_other (Some id) (byte ∷ bytes) = not (bytes_eq id (byte ∷ bytes))
