-- What of a section no index finds.
use Rattle.std.specs.Prelude.{ℕ, ◌&&◌, not, Bool, Option, Some, None, if◌then◌else◌}
use Rattle.framehop_index.specs.EntryFor.{has_index, left_out}
use Rattle.framehop_index.specs.FdeLookups.{PlacedFrames, is_by_index, is_indexed, section_of}

-- FDEs would be found by an index, which the section doesn't have
abbrev pub lacks_index : PlacedFrames → Bool
lacks_index frames = is_by_index frames.lookup && not (has_index (section_of frames))

-- how many FDEs the index leaves out by which FDEs are found, if they are found so
abbrev pub fdes_left_out : PlacedFrames → Option ℕ
fdes_left_out frames = if is_indexed frames then Some (left_out frames.base_svma (section_of frames)) else None
