-- What contracts see of sections that are read in place.
use Rattle.frame_table_files.specs.FileSections.{FileSection}
use Rattle.frame_table_files.specs.declared.section.FileSection.{FileSection as Read}

-- a section
abbrev pub section_seen : Read → FileSection
section_seen section = record { name = section.name; machine = section.machine; bases = section.bases; bytes = section.bytes.now }
