-- String tables (System V gABI, "String Table"): strings that each end with a 0.
use Rattle.std.specs.Prelude.{ℕ, ◌+◌, ◌==◌, ◌&&◌, Bool, nat_eq, nat_lt, List, length, slice_index, take, drop, Option, Some, None, Ok, Err, position}
use Rattle.std.specs.List.{starts_with}
use Rattle.elf_files.specs.declared.error.ElfError.TheVariants.{BadString}
use Rattle.elf_files.specs.Bytes.{ElfResult}

-- A string table: its bytes, and the offset of the first in the file.
pub record Strings : Type 0 where
  pub bytes : List ℕ
  pub offset : ℕ

-- The front of some bytes before so many, if it is known how many; an error has a place.
abbrev pub front_of : List ℕ → ℕ → Option ℕ → ElfResult (List ℕ)
front_of bytes place (Some size) = Ok (take size bytes)
front_of bytes place None = Err (BadString place)

-- The string at an index of a table: the bytes from there on before the first 0.
abbrev pub string_at : Strings → ℕ → ElfResult (List ℕ)
string_at strings index =
    let bytes = drop index strings.bytes in
    front_of bytes (strings.offset + index) (position (λ byte. byte == 0) bytes)

-- The string there is this one: the bytes begin with it, and a 0 follows.
abbrev pub is_string_at : Strings → ℕ → List ℕ → Bool
is_string_at strings index string =
    let bytes = drop index strings.bytes in
    nat_lt (length string) (length bytes) && (slice_index bytes (length string) == 0) && starts_with nat_eq bytes string
