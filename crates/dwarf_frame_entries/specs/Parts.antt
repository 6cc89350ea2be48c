-- Parts of sections.
use Rattle.std.specs.Prelude.{◌≤◌}
use Rattle.dwarf_readers.specs.Stretch.{Stretch, end_of}

-- A stretch is part of another.
pub record IsPart (whole s : Stretch) : Type 0 where
  pub from : whole.offset ≤ s.offset
  pub to : end_of s ≤ end_of whole
