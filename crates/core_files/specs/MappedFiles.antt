-- NT_FILE: the mapped files (Linux, fs/binfmt_elf.c, `fill_files_note`): count and page_size; count rows of start, end and file_ofs,
-- which counts pages; and the names of the files in the same order, each ended by a 0. Numbers have 8 bytes.
use Rattle.std.specs.Prelude.{ℕ, zero, suc, ◌+◌, ◌*◌, ◌^◌, ◌==◌, nat_lt, if◌then◌else◌, List, [], ◌∷◌, length, take, drop, position, Option, Ok, Err}
use Rattle.core_files.specs.declared.error.DescriptorError.TheVariants.{FileTableTruncated, FileOffsetTooLarge, FileNameUnterminated}
use Rattle.core_files.specs.Bytes.{u64_at}
use Rattle.core_files.specs.Refusals.{Read, result_and_then, or_refusal}

-- A mapped file: its addresses, from start up to end; the place in the file of the byte at start; and its name.
pub record FileMapping : Type 0 where
  pub start : ℕ
  pub end : ℕ
  pub offset : ℕ
  pub name : List ℕ

-- How many files there are.
abbrev pub file_count : List ℕ → ℕ
file_count descriptor = u64_at descriptor 0

-- The size of a page in bytes.
abbrev pub page_size : List ℕ → ℕ
page_size descriptor = u64_at descriptor 8

-- Where the row of a file begins.
abbrev pub row_at : ℕ → ℕ
row_at number = 16 + 24 * number

-- The names of the files, which follow the rows.
abbrev pub names_of : List ℕ → List ℕ
names_of descriptor = drop (row_at (file_count descriptor)) descriptor

-- The length of the first name, without its 0.
abbrev pub name_length : List ℕ → Option ℕ
name_length names = position (λ byte. byte == 0) names

-- The place in the file of the first byte of a mapping.
abbrev pub file_offset : List ℕ → ℕ → ℕ
file_offset descriptor number = u64_at descriptor (row_at number + 16) * page_size descriptor

-- A file by its number and its name.
abbrev pub file_named : List ℕ → ℕ → List ℕ → Read FileMapping
file_named descriptor number name =
    if nat_lt (file_offset descriptor number) (2 ^ 64)
    then Ok (record {
      start = u64_at descriptor (row_at number);
      end = u64_at descriptor (row_at number + 8);
      offset = file_offset descriptor number;
      name = name;
    })
    else Err (FileOffsetTooLarge number)

-- So many files from a number on, of which the first name is the first of these.
abbrev pub files_from : List ℕ → ℕ → ℕ → List ℕ → Read (List FileMapping)
files_from descriptor zero number names = Ok []
files_from descriptor (suc left) number names =
    result_and_then (or_refusal (FileNameUnterminated number) (name_length names)) (λ length.
    result_and_then (file_named descriptor number (take length names)) (λ file.
    result_and_then (files_from descriptor left (number + 1) (drop (length + 1) names)) (λ files.
    Ok (file ∷ files))))

-- The files of a descriptor.
unfoldable pub mapped_files : List ℕ → Read (List FileMapping)
mapped_files descriptor =
    if nat_lt (length descriptor) 16 then Err FileTableTruncated else
    if nat_lt (length descriptor) (row_at (file_count descriptor)) then Err FileTableTruncated else
    files_from descriptor (file_count descriptor) 0 (names_of descriptor)
