-- What is gathered of a section.
use Rattle.std.specs.Prelude.{◌≡◌, ℕ, List}
use Rattle.dwarf_frame_rows.specs.FrameSection.{FrameSection}
use Rattle.backtrace_lint.specs.Lines.{Place}
use Rattle.backtrace_lint.specs.Faults.{fault_of}
use Rattle.backtrace_lint.specs.LintText.{findings_text}
use Rattle.backtrace_lint.specs.ListedFdes.{listed_fdes}
use Rattle.backtrace_lint.specs.declared.gathered.Gathered.{Gathered}

-- These are the FDEs of a section's list, and this is the error that ends it, if one does.
pub record Gathers (section : FrameSection) (gathered : Gathered) : Type 0 where
  pub fdes : gathered.fdes.items ≡ listed_fdes section
  pub fault : gathered.fault ≡ fault_of section

-- the lines of what was gathered
abbrev pub gathered_text_of : Place → Gathered → List ℕ
gathered_text_of place gathered = findings_text place gathered.fault gathered.fdes.items
