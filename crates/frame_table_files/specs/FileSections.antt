-- The section of call frames of an ELF file (System V gABI, "Sections"; LSB 5.0, 10.6), and what its pointers are relative to.
use Rattle.std.specs.Prelude.{ℕ, if◌then◌else◌, List, [], ◌∷◌, codes, Option, Some, None, Result, Ok, Err}
use Rattle.std.specs.Option.{option_map}
use Rattle.dwarf_frame_rows.specs.declared.base_addresses.BaseAddresses.{BaseAddresses}
use Rattle.elf_files.specs.Bytes.{ElfResult, ◌>>=◌}
use Rattle.elf_files.specs.Header.{header_of}
use Rattle.elf_files.specs.Sections.{has_no_bits, section_bytes, section_named}
use Rattle.elf_files.specs.Tables.{first_found}
use Rattle.elf_files.specs.declared.header.Header.{Header}
use Rattle.elf_files.specs.declared.header.Machine.{Machine}
use Rattle.elf_files.specs.declared.section.Section.{Section}
use Rattle.frame_table_files.specs.Bases.{no_bases}
use Rattle.frame_table_files.specs.SectionNames.{name_text}
use Rattle.frame_table_files.specs.declared.error.FileError.{FileError}
use Rattle.frame_table_files.specs.declared.error.FileError.TheVariants.{Elf, NoSection, NoCallFrames}
use Rattle.frame_table_files.specs.declared.section_name.SectionName.{SectionName}
use Rattle.frame_table_files.specs.declared.section_name.SectionName.TheVariants.{EhFrame, DebugFrame}

-- a section of a file: its name, the file's machine, what its pointers are relative to, and its bytes
pub record FileSection : Type 0 where
  pub name : SectionName
  pub machine : Machine
  pub bases : BaseAddresses
  pub bytes : List ℕ

-- a section that was found, if it has bytes in the file
abbrev pub with_bits : Option Section → Option Section
with_bits None = None
with_bits (Some section) = if has_no_bits section.kind then None else Some section

-- the address of the first section with a name, if there is one
abbrev pub address_of : List ℕ → Header → List ℕ → ElfResult (Option ℕ)
address_of bytes header name = section_named bytes header name >>= (λ found. Ok (option_map (λ section. section.address) found))

-- what the pointers of a section are relative to: its own address, and those of .text and .got (LSB 5.0, 10.5.1)
abbrev pub bases_of : List ℕ → Header → Section → ElfResult BaseAddresses
bases_of bytes header section = do
  text ← address_of bytes header (codes ".text")
  got ← address_of bytes header (codes ".got")
  Ok (record { eh_frame_hdr = no_bases; eh_frame = record { section = Some section.address; text = text; data_base = got } })

-- a section with its bases and its bytes
abbrev pub whole_section : List ℕ → Header → SectionName → Section → ElfResult (Option FileSection)
whole_section bytes header name section = do
  bases ← bases_of bytes header section
  found ← section_bytes bytes section
  Ok (Some (record { name = name; machine = header.machine; bases = bases; bytes = found }))

-- a section that was found, with its bases and its bytes, if it has some in the file
abbrev pub whole_if_found : List ℕ → Header → SectionName → Option Section → ElfResult (Option FileSection)
whole_if_found bytes header name None = Ok None
whole_if_found bytes header name (Some section) = whole_section bytes header name section

-- the section with a name, if it is there with bytes
abbrev pub section_in : List ℕ → Header → SectionName → ElfResult (Option FileSection)
section_in bytes header name = section_named bytes header (name_text name) >>= (λ found. whole_if_found bytes header name (with_bits found))

-- the sections that are looked for: the one with a name, or else that which programs load, and then that for debuggers
abbrev pub sought : Option SectionName → List SectionName
sought (Some name) = name ∷ []
sought None = EhFrame ∷ DebugFrame ∷ []

-- the first of them that is there
abbrev pub section_sought : List ℕ → Header → Option SectionName → ElfResult (Option FileSection)
section_sought bytes header name = first_found (section_in bytes header) (sought name)

-- the same of the file with these bytes
abbrev pub read_section : List ℕ → Option SectionName → ElfResult (Option FileSection)
read_section bytes name = header_of bytes >>= (λ header. section_sought bytes header name)

-- why there is none
abbrev pub missing : Option SectionName → FileError
missing (Some name) = NoSection name
missing None = NoCallFrames

-- what was read, or why nothing was
abbrev pub found_of : Option SectionName → ElfResult (Option FileSection) → Result FileSection FileError
found_of name (Ok (Some section)) = Ok section
found_of name (Ok None) = Err (missing name)
found_of name (Err error) = Err (Elf error)

-- the section of call frames of the file with these bytes: the one with a name, or else the one that is there
unfoldable pub section_of_file : Option SectionName → List ℕ → Result FileSection FileError
section_of_file name bytes = found_of name (read_section bytes name)
