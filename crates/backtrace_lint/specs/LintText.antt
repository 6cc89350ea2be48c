-- What an unwinder meets in the call frames of an ELF file, line by line.
use Rattle.std.specs.Prelude.{ℕ, ◌^◌, Bool, true, false, List, [], ◌∷◌, ◌++◌, codes, Option, Some, None, Result, Ok, Err}
use Rattle.std.specs.List.{filter_map}
use Rattle.json_program.specs.Lines.{line}
use Rattle.dwarf_readers.specs.Stretch.{whole}
use Rattle.dwarf_frame_rows.specs.FrameSection.{FrameSection, frame_section}
use Rattle.dwarf_frame_rows.specs.SectionKind.{FrameSectionKind}
use Rattle.dwarf_frame_sections.specs.Sections.{debug_frame, eh_frame}
use Rattle.frame_table_files.specs.FileSections.{FileSection, section_of_file}
use Rattle.frame_table_files.specs.SectionNames.{name_text}
use Rattle.frame_table_files.specs.declared.error.FileError.{FileError}
use Rattle.frame_table_files.specs.declared.error.FileError.TheVariants.{Elf, NoSection, NoCallFrames}
use Rattle.frame_table_files.specs.declared.section_name.SectionName.{SectionName}
use Rattle.frame_table_files.specs.declared.section_name.SectionName.TheVariants.{EhFrame, DebugFrame}
use Rattle.elf_files.specs.Bytes.{ElfResult}
use Rattle.backtrace_lint.specs.HeaderLines.{header_text}
use Rattle.backtrace_lint.specs.HeaderTables.{located_fdes}
use Rattle.backtrace_lint.specs.LeftOut.{left_out}
use Rattle.backtrace_lint.specs.Lines.{Place, fault_text, left_outs_text, overlaps_text}
use Rattle.backtrace_lint.specs.Overlaps.{overlaps_of}
use Rattle.backtrace_lint.specs.RowLines.{faileds_text, unsaids_text}
use Rattle.backtrace_lint.specs.declared.fdes.Fault.{Fault}
use Rattle.backtrace_lint.specs.declared.fdes.ListedFde.{ListedFde}
use Rattle.backtrace_lint.specs.declared.row_lines.FailedFde.{FailedFde}
use Rattle.backtrace_lint.specs.Faults.{fault_of}
use Rattle.backtrace_lint.specs.FileRows.{failed_on, unsaid_on}
use Rattle.backtrace_lint.specs.Headers.{HeaderSection, header_for, header_name, header_rows, section_start, with_header}
use Rattle.backtrace_lint.specs.ListedFdes.{listed_fdes}

-- the lines of an error that ends a list of entries, and of the FDEs before it
abbrev pub findings_text : Place → Option Fault → List ListedFde → List ℕ
findings_text place fault fdes =
    fault_text place fault ++ left_outs_text place (filter_map left_out fdes) ++ overlaps_text place (overlaps_of fdes)

-- the lines of a section
abbrev pub section_text : Place → FrameSection → List ℕ
section_text place section = findings_text place (fault_of section) (listed_fdes section)

-- the kind of a section
abbrev pub kind_of : SectionName → FrameSectionKind
kind_of EhFrame = eh_frame
kind_of DebugFrame = debug_frame

-- the section of a file: the low byte of a number comes first, and addresses have 8 bytes unless a CIE says another size
abbrev pub frames_of : FileSection → FrameSection
frames_of s = frame_section (2 ^ 64) (kind_of s.name) 8 (whole false s.bytes) s.bases

-- the lines of the rows of a section
abbrev pub rows_text : Place → List ℕ → List FailedFde → List ℕ
rows_text place unsaid failed = unsaids_text place unsaid ++ faileds_text place failed

-- .. of the section of a file
abbrev pub file_rows_text : Place → FileSection → List ℕ
file_rows_text place s = rows_text place (unsaid_on s.machine (frames_of s)) (failed_on s.machine (frames_of s))

-- the lines of the header of a section, which has these FDEs
abbrev pub header_lines : (name : List ℕ) → FileSection → HeaderSection → List ListedFde → List ℕ
header_lines name s header fdes =
    header_text (record { file = name; section = header_name }) (section_start s.bases)
    (header_rows (with_header header.address s.bases) header.bytes) (located_fdes fdes)

-- .. if there is one
abbrev pub lines_of : (name : List ℕ) → FileSection → Option HeaderSection → List ListedFde → List ℕ
lines_of name s None fdes = []
lines_of name s (Some header) fdes = header_lines name s header fdes

-- the lines of the section of the file with this name, and of its header
abbrev pub file_section_text : (name : List ℕ) → FileSection → Option HeaderSection → List ℕ
file_section_text name s header =
    section_text (record { file = name; section = name_text s.name }) (frames_of s)
    ++ file_rows_text (record { file = name; section = name_text s.name }) s ++ lines_of name s header (listed_fdes (frames_of s))

-- the line of a file that has no call frames
abbrev pub no_call_frames_text : (name : List ℕ) → List ℕ
no_call_frames_text name = name ++ line (codes ": no call frames")

-- the lines of a file by its section of call frames and the header of that, if they can be read
abbrev pub text_with_header : (name : List ℕ) → FileSection → ElfResult (Option HeaderSection) → Result (List ℕ) FileError
text_with_header name section (Ok header) = Ok (file_section_text name section header)
text_with_header name section (Err error) = Err (Elf error)

-- the lines of a file by its section of call frames, or why the file can't be read
abbrev pub lint_text_for : (name bytes : List ℕ) → Result FileSection FileError → Result (List ℕ) FileError
lint_text_for name bytes (Ok section) = text_with_header name section (header_for section.name bytes)
lint_text_for name bytes (Err NoCallFrames) = Ok (no_call_frames_text name)
lint_text_for name bytes (Err (NoSection section)) = Err (NoSection section)
lint_text_for name bytes (Err (Elf error)) = Err (Elf error)

-- the lines of the file with this name and these bytes: of its `.eh_frame` and the header of that, or if there is none of its
-- `.debug_frame`
abbrev pub lint_text_of : (name bytes : List ℕ) → Result (List ℕ) FileError
lint_text_of name bytes = lint_text_for name bytes (section_of_file None bytes)

-- what is written
abbrev pub written_text : Result (List ℕ) FileError → List ℕ
written_text (Ok text) = text
written_text (Err refusal) = []

-- a text has lines
abbrev pub has_lines : List ℕ → Bool
has_lines [] = false
has_lines (byte ∷ bytes) = true

-- there are findings, or the file can't be read
abbrev pub has_findings : Result (List ℕ) FileError → Result Bool FileError
has_findings (Ok text) = Ok (has_lines text)
has_findings (Err refusal) = Err refusal
