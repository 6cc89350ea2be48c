-- The call frames of a module, and which of its sections is used at an address.
use Rattle.std.specs.Prelude.{ℕ, ◌&&◌, not, if◌then◌else◌, Option, Some, None}
use Rattle.framehop_index.specs.FdeLookups.{PlacedFrames, covers}
use Rattle.framehop_loads.specs.declared.load_options.TableArch.{TableArch}

-- A section with the lookup of its FDEs; the architecture of the table of the rules that its index says, if there is one, which changes
-- no answer; and another section, if there is one, for addresses that are in its FDEs alone.
pub record CallFrames : Type 0 where
  pub main : PlacedFrames
  pub table : Option TableArch
  pub beside : Option PlacedFrames

-- one section alone, without a table
abbrev pub alone : PlacedFrames → CallFrames
alone main = record { main = main; table = None; beside = None }

-- of two sections the one that is used at a relative address: the other if the address is in its FDE, and not in that of the main one
abbrev pub frames_for : (main beside : PlacedFrames) → (relative : ℕ) → PlacedFrames
frames_for main beside relative = if not (covers main relative) && covers beside relative then beside else main

-- the main one, unless there is another that is used
abbrev pub frames_of : (main : PlacedFrames) → (beside : Option PlacedFrames) → (relative : ℕ) → PlacedFrames
frames_of main None relative = main
frames_of main (Some beside) relative = frames_for main beside relative

-- the section that a module's call frames use at a relative address
abbrev pub frames_used : CallFrames → (relative : ℕ) → PlacedFrames
frames_used frames relative = frames_of frames.main frames.beside relative
