-- Links to debug files (GDB, "Debugging Information in Separate Files").
use Rattle.std.specs.Prelude.{ℕ, ◌+◌, ◌==◌, codes, if◌then◌else◌, List, length, take, Option, Some, None, option_and_then, position}
use Rattle.std.specs.Int.{next_multiple_of}
use Rattle.std.specs.Result.{result_ok}
use Rattle.elf_files.specs.Bytes.{is_within, number_at}
use Rattle.elf_files.specs.Header.{header_of}
use Rattle.elf_files.specs.Sections.{section_bytes, section_named}
use Rattle.elf_files.specs.declared.header.Header.{Header}
use Rattle.elf_files.specs.declared.section.Section.{Section}

-- A link: the name of the debug file, and the checksum of its bytes.
pub record Link : Type 0 where
  pub name : List ℕ
  pub checksum : ℕ

-- the bytes of the first section with a name, of a file with this header, if they can be read
unfoldable pub bytes_named : List ℕ → Header → List ℕ → Option (List ℕ)
bytes_named bytes header name =
    option_and_then (λ (section : Section). result_ok (section_bytes bytes section))
    (option_and_then (λ section. section) (result_ok (section_named bytes header name)))

-- the bytes of the section of links of a file
abbrev pub section_of : List ℕ → Option (List ℕ)
section_of bytes = option_and_then (λ header. bytes_named bytes header (codes ".gnu_debuglink")) (result_ok (header_of bytes))

-- where the checksum is: the name ends with a zero byte, and is padded to a multiple of four bytes
abbrev pub checksum_place : ℕ → ℕ
checksum_place size = next_multiple_of (size + 1) 4

-- the link whose name has so many bytes, if the checksum is there; its bytes are in the order of the file's
abbrev pub link_at : List ℕ → ℕ → Option Link
link_at section size =
    if is_within section (checksum_place size) 4
    then Some (record { name = take size section; checksum = number_at 4 section (checksum_place size) }) else None

-- the link in the bytes of the section: the name has those before the first zero
abbrev pub link_in : List ℕ → Option Link
link_in section = option_and_then (link_at section) (position (λ byte. byte == 0) section)

-- the link of a file
abbrev pub debug_link_of : List ℕ → Option Link
debug_link_of bytes = option_and_then link_in (section_of bytes)
