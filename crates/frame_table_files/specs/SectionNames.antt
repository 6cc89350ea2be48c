-- The names of sections of call frames (LSB 5.0, 10.6; DWARF 5, 6.4.1).
use Rattle.std.specs.Prelude.{ℕ, if◌then◌else◌, List, codes, bytes_eq, Option, Some, None}
use Rattle.frame_table_files.specs.declared.section_name.SectionName.{SectionName}
use Rattle.frame_table_files.specs.declared.section_name.SectionName.TheVariants.{EhFrame, DebugFrame}

-- the name of a section
abbrev pub name_text : SectionName → List ℕ
name_text EhFrame = codes ".eh_frame"
name_text DebugFrame = codes ".debug_frame"

-- the section with a name
abbrev pub named : List ℕ → Option SectionName
named text =
    if bytes_eq text (name_text EhFrame) then Some EhFrame
    else if bytes_eq text (name_text DebugFrame) then Some DebugFrame
    else None
