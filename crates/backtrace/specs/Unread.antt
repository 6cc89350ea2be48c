-- The sections of a file from which call frames or symbols would be read, if they weren't compressed (System V gABI, "Section Header":
-- SHF_COMPRESSED; binutils, `--compress-debug-sections=zlib-gnu`: `.zdebug_frame`; GDB, "Debugging information in a special section":
-- `.gnu_debugdata`).
use Rattle.std.specs.Prelude.{ℕ, ◌&&◌, Bool, true, false, not, is_some, codes, List, [], ◌∷◌, Option, Some, None}
use Rattle.std.specs.List.{filter}
use Rattle.std.specs.Result.{result_ok}
use Rattle.elf_files.specs.Header.{header_of}
use Rattle.elf_files.specs.Sections.{is_compressed as has_compressed_flag}
use Rattle.elf_files.specs.declared.header.Header.{Header}
use Rattle.elf_files.specs.declared.section.Section.{Section}
use Rattle.backtrace.specs.declared.unread.ReadSection.{ReadSection}
use Rattle.backtrace.specs.declared.unread.ReadSection.TheVariants.{EhFrame, DebugFrame, ZippedDebugFrame, Symbols, Names, MiniDebugInfo}
use Rattle.backtrace_files.specs.Sections.{readable_section}

-- the name of a section
abbrev pub text_of : ReadSection → List ℕ
text_of EhFrame = codes ".eh_frame"
text_of DebugFrame = codes ".debug_frame"
text_of ZippedDebugFrame = codes ".zdebug_frame"
text_of Symbols = codes ".symtab"
text_of Names = codes ".strtab"
text_of MiniDebugInfo = codes ".gnu_debugdata"

-- the first section of a file with this name, if it can be read
abbrev pub section_of : List ℕ → Header → ReadSection → Option Section
section_of bytes header which = readable_section bytes header (text_of which)

-- a file has it
abbrev pub has_section : List ℕ → Header → ReadSection → Bool
has_section bytes header which = is_some (section_of bytes header which)

-- it is compressed
abbrev pub is_compressed : List ℕ → Header → ReadSection → Bool
is_compressed bytes header which = elim (section_of bytes header which) [ Some section ↦ has_compressed_flag section | None ↦ false ]

-- it isn't read, of a file that has a debug file or not: a section with call frames or symbols if it is compressed; one of compressed call
-- frames of the older form; and a compressed file with symbols, if there are no others
abbrev pub is_unread : List ℕ → Header → (has_debug_file : Bool) → ReadSection → Bool
is_unread bytes header has_debug_file ZippedDebugFrame = has_section bytes header ZippedDebugFrame
is_unread bytes header has_debug_file MiniDebugInfo =
    has_section bytes header MiniDebugInfo && not (has_section bytes header Symbols) && not has_debug_file
is_unread bytes header has_debug_file which = is_compressed bytes header which

-- those of some sections that aren't read, of a file with this header, if it is one
abbrev pub unread_among : List ℕ → Bool → List ReadSection → Option Header → List ReadSection
unread_among bytes has_debug_file sections None = []
unread_among bytes has_debug_file sections (Some header) = filter (is_unread bytes header has_debug_file) sections

-- the sections of a mapped file that aren't read
abbrev pub unread_sections : List ℕ → (has_debug_file : Bool) → List ReadSection
unread_sections bytes has_debug_file =
    let sections = EhFrame ∷ DebugFrame ∷ ZippedDebugFrame ∷ Symbols ∷ Names ∷ MiniDebugInfo ∷ [] in
    unread_among bytes has_debug_file sections (result_ok (header_of bytes))

-- those of a debug file, of which symbols alone are read
abbrev pub unread_symbols : List ℕ → List ReadSection
unread_symbols bytes = unread_among bytes true (Symbols ∷ Names ∷ []) (result_ok (header_of bytes))
