-- What a run writes for an ELF file: the listing of its section, or nothing if that is refused.
use Rattle.std.specs.Prelude.{ℕ, List, [], Option, Some, Result, Ok, Err}
use Rattle.elf_files.specs.declared.header.Machine.{Machine as FileMachine}
use Rattle.elf_files.specs.declared.header.Machine.TheVariants as file_machine
use Rattle.frame_table.specs.Listing.{Listing, listing_of}
use Rattle.frame_table.specs.Located.{Located, setting_of}
use Rattle.frame_table.specs.Text.{ending_by}
use Rattle.frame_table.specs.declared.program.Ending.{Ending}
use Rattle.frame_table_files.specs.FileSections.{FileSection, section_of_file}
use Rattle.frame_table_files.specs.declared.error.FileError.{FileError}
use Rattle.frame_table_files.specs.declared.section_name.SectionName.{SectionName}
use Rattle.frame_table.specs.declared.names.Machine.{Machine}
use Rattle.frame_table.specs.declared.names.Machine.TheVariants.{X86_64, AArch64}

-- the machine of a file
abbrev pub machine_of : FileMachine → Machine
machine_of file_machine.X86_64 = X86_64
machine_of file_machine.Aarch64 = AArch64

-- the section of a file, whose addresses have 8 bytes
abbrev pub located_of_file : FileSection → Located
located_of_file s =
    record { name = s.name; machine = Some (machine_of s.machine); bases = s.bases; address_size = 8; bytes = s.bytes }

-- the listing of a section of a file
abbrev pub file_listing : FileSection → Listing
file_listing section = listing_of (setting_of (located_of_file section))

-- the text for a section, and none for a refusal
abbrev pub text_for : Result FileSection FileError → List ℕ
text_for (Ok section) = (file_listing section).text
text_for (Err refusal) = []

-- how the run ends
abbrev pub ending_for : Result FileSection FileError → Result Ending FileError
ending_for (Ok section) = Ok (ending_by (file_listing section).is_whole)
ending_for (Err refusal) = Err refusal

-- what is written for the bytes of a file, of which the section with a name is asked, or the one that is there
abbrev pub text_of_file : Option SectionName → List ℕ → List ℕ
text_of_file name bytes = text_for (section_of_file name bytes)

-- how the run ends, or why nothing is listed
abbrev pub ending_of_file : Option SectionName → List ℕ → Result Ending FileError
ending_of_file name bytes = ending_for (section_of_file name bytes)
