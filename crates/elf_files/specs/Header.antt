-- The ELF header (System V gABI, "ELF Header": Elf64_Ehdr), and the counts that don't fit it, which the section header at index 0
-- has ("Section Header": Elf64_Shdr, extended numbering).
use Rattle.std.specs.Prelude.{ℕ, ◌+◌, ◌==◌, ◌||◌, not, nat_eq, if◌then◌else◌, List, [], ◌∷◌, slice_index, Ok, Err}
use Rattle.std.specs.List.{starts_with}
use Rattle.elf_files.specs.declared.error.ElfError.TheVariants.{BadEntrySize, NoInitialSection, NotElf, Truncated, UnsupportedByteOrder, UnsupportedClass, UnsupportedMachine, UnsupportedVersion}
use Rattle.elf_files.specs.declared.header.FileKind.{FileKind}
use Rattle.elf_files.specs.declared.header.FileKind.TheVariants.{Relocatable, Executable, SharedObject, Core, Other}
use Rattle.elf_files.specs.declared.header.Header.{Header}
use Rattle.elf_files.specs.declared.header.Machine.{Machine}
use Rattle.elf_files.specs.declared.header.Machine.TheVariants.{X86_64, Aarch64}
use Rattle.elf_files.specs.Bytes.{ElfResult, ◌>>=◌, unless, number_at, is_within}

-- ---- the members of the ELF header

-- EI_CLASS: how wide addresses are.
abbrev pub ei_class : List ℕ → ℕ
ei_class bytes = slice_index bytes 4

-- EI_DATA: the order of bytes in numbers.
abbrev pub ei_data : List ℕ → ℕ
ei_data bytes = slice_index bytes 5

-- EI_VERSION: the version of the identification.
abbrev pub ei_version : List ℕ → ℕ
ei_version bytes = slice_index bytes 6

-- What the file is: ET_EXEC and others.
abbrev pub e_type : List ℕ → ℕ
e_type bytes = number_at 2 bytes 16

-- The machine that it is for: EM_X86_64 and others.
abbrev pub e_machine : List ℕ → ℕ
e_machine bytes = number_at 2 bytes 18

-- The version of the file.
abbrev pub e_version : List ℕ → ℕ
e_version bytes = number_at 4 bytes 20

-- The address at which a process starts.
abbrev pub e_entry : List ℕ → ℕ
e_entry bytes = number_at 8 bytes 24

-- The offset of the program headers, or 0.
abbrev pub e_phoff : List ℕ → ℕ
e_phoff bytes = number_at 8 bytes 32

-- The offset of the section headers, or 0.
abbrev pub e_shoff : List ℕ → ℕ
e_shoff bytes = number_at 8 bytes 40

-- The size of a program header in bytes.
abbrev pub e_phentsize : List ℕ → ℕ
e_phentsize bytes = number_at 2 bytes 54

-- The number of program headers, or PN_XNUM.
abbrev pub e_phnum : List ℕ → ℕ
e_phnum bytes = number_at 2 bytes 56

-- The size of a section header in bytes.
abbrev pub e_shentsize : List ℕ → ℕ
e_shentsize bytes = number_at 2 bytes 58

-- The number of section headers, or 0.
abbrev pub e_shnum : List ℕ → ℕ
e_shnum bytes = number_at 2 bytes 60

-- The index of the section with the names of sections, or SHN_XINDEX.
abbrev pub e_shstrndx : List ℕ → ℕ
e_shstrndx bytes = number_at 2 bytes 62

-- ---- the header

-- What a file begins with (EI_MAG0 to EI_MAG3): 0x7f and "ELF".
abbrev pub magic : List ℕ
magic = 0x7f ∷ 0x45 ∷ 0x4c ∷ 0x46 ∷ []

-- What comes next of a file with a whole header, of this class (ELFCLASS64), byte order (ELFDATA2LSB) and version (EV_CURRENT).
abbrev pub if_identified : {A : Type 0} → List ℕ → ElfResult A → ElfResult A
if_identified bytes next =
    unless (starts_with nat_eq bytes magic) (NotElf 0) (
    unless (is_within bytes 0 64) (Truncated 0) (
    unless (ei_class bytes == 2) (UnsupportedClass 4) (
    unless (ei_data bytes == 1) (UnsupportedByteOrder 5) (
    unless (ei_version bytes == 1) (UnsupportedVersion 6) (
    unless (e_version bytes == 1) (UnsupportedVersion 20) next)))))

-- What comes next if the entries of both tables have the sizes of Elf64_Phdr and Elf64_Shdr. A table that isn't there has offset 0.
abbrev pub if_sized : {A : Type 0} → List ℕ → ElfResult A → ElfResult A
if_sized bytes next =
    unless (e_phoff bytes == 0 || e_phentsize bytes == 56) (BadEntrySize 54) (
    unless (e_shoff bytes == 0 || e_shentsize bytes == 64) (BadEntrySize 58) next)

-- The machine: EM_X86_64 or EM_AARCH64.
abbrev pub machine_of : ℕ → ElfResult Machine
machine_of number =
    if number == 62 then Ok X86_64 else
    if number == 183 then Ok Aarch64 else
    Err (UnsupportedMachine 18)

-- What the file is: ET_REL, ET_EXEC, ET_DYN, ET_CORE or another.
abbrev pub file_kind : ℕ → FileKind
file_kind number =
    if number == 1 then Relocatable else
    if number == 2 then Executable else
    if number == 3 then SharedObject else
    if number == 4 then Core else
    Other number

-- Where the section header at index 0 is. A member of the header says that it is needed.
abbrev pub initial_section : List ℕ → ℕ → ElfResult ℕ
initial_section bytes member =
    unless (not (e_shoff bytes == 0)) (NoInitialSection member) (
    unless (is_within bytes (e_shoff bytes) 64) (Truncated (e_shoff bytes)) (
    Ok (e_shoff bytes)))

-- How many program headers there are. PN_XNUM says that sh_info of the section header at index 0 has the number.
abbrev pub segment_count : List ℕ → ElfResult ℕ
segment_count bytes =
    if e_phoff bytes == 0 then Ok 0 else
    if e_phnum bytes == 0xffff then initial_section bytes 56 >>= (λ at. Ok (number_at 4 bytes (at + 44))) else
    Ok (e_phnum bytes)

-- How many section headers there are. 0 says that sh_size of the one at index 0 has the number.
abbrev pub section_count : List ℕ → ElfResult ℕ
section_count bytes =
    if e_shoff bytes == 0 then Ok 0 else
    if e_shnum bytes == 0 then initial_section bytes 60 >>= (λ at. Ok (number_at 8 bytes (at + 32))) else
    Ok (e_shnum bytes)

-- The index of the section with the names of sections. SHN_XINDEX says that sh_link of the section header at index 0 has it.
abbrev pub names_index : List ℕ → ElfResult ℕ
names_index bytes =
    if e_shstrndx bytes == 0xffff then initial_section bytes 62 >>= (λ at. Ok (number_at 4 bytes (at + 40))) else
    Ok (e_shstrndx bytes)

-- The header of a file on one of the machines.
abbrev pub header_on : List ℕ → Machine → ElfResult Header
header_on bytes machine = do
  segments ← segment_count bytes
  sections ← section_count bytes
  names ← names_index bytes
  Ok (record {
    machine = machine;
    kind = file_kind (e_type bytes);
    entry = e_entry bytes;
    segment_table = e_phoff bytes;
    segment_count = segments;
    section_table = e_shoff bytes;
    section_count = sections;
    names_index = names;
  })

-- The header of a file, or the first refusal in the order of its bytes.
unfoldable pub header_of : List ℕ → ElfResult Header
header_of bytes = if_identified bytes (machine_of (e_machine bytes) >>= (λ machine. if_sized bytes (header_on bytes machine)))
