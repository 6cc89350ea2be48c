-- What contracts see of the sections of a load.
use Rattle.std.specs.Prelude.{◌≡◌, ℕ, List}
use Rattle.std.specs.List.{slice_index_or}
use Rattle.framehop_modules.specs.Sections.{Sections}
use Rattle.unwind_run_document.specs.CommandViews.{section_view, sections_view}
use Rattle.unwind_run_document.specs.declared.command.StatedSection.{StatedSection}
use Rattle.unwind_run_program.specs.Sections.{first_data_named, sections_stated}
use Rattle.unwind_run_program.specs.declared.sections.StatedSections.{StatedSections}

-- sections and segments that are stated, by their names
abbrev pub stated : StatedSections → Sections
stated info = sections_stated info.base_svma (sections_view info.sections.items) (sections_view info.segments.items)

-- the first data of this name is that of the section at an index
abbrev pub HasFirstData : List ℕ → List StatedSection → ℕ → Type 0
HasFirstData name sections index =
    (other : StatedSection) → first_data_named name (sections_view sections) ≡ (section_view (slice_index_or sections index other)).bytes
