-- How large the table of rules is that a module's load made.
use Rattle.std.specs.Prelude.{◌≡◌, ℕ, Option, Some, None}
use Rattle.framehop_index.specs.FdeLookups.{PlacedFrames, section_of}
use Rattle.framehop_loads.specs.ArchTables.{ChangesOn}
use Rattle.framehop_loads.specs.UnwindData.{ModuleFormat, CallFrames, Pe, Compact, NoFormat}
use Rattle.framehop_loads.specs.declared.load_options.TableArch.{TableArch}

-- A table of what the index of a section says, on its architecture, has this size: at so many relative addresses the index says something
-- else than at the address before. There is no size without a table.
abbrev pub IsSizeOf : (main : PlacedFrames) → (table : Option TableArch) → (size : Option ℕ) → Type 0
IsSizeOf main (Some arch) (Some size) = ChangesOn arch main.base_svma (section_of main) size
IsSizeOf main (Some arch) None = ⊥
IsSizeOf main None size = size ≡ None

-- The table of a module's format has this size.
abbrev pub IsTableSize : ModuleFormat → (size : Option ℕ) → Type 0
IsTableSize (CallFrames frames) size = IsSizeOf frames.main frames.table size
IsTableSize (Pe file) size = size ≡ None
IsTableSize (Compact file eh_frame) size = size ≡ None
IsTableSize NoFormat size = size ≡ None
