-- The function and the file at an address.
use Rattle.std.specs.Prelude.{ℕ, ◌+◌, ◌-◌, ◌^◌, ◌&&◌, ◌||◌, Bool, false, is_none, is_some, min, nat_le, nat_lt, if◌then◌else◌, List, Option, Some, None, option_and_then}
use Rattle.std.specs.List.{find}
use Rattle.std.specs.Option.{option_map, option_or}
use Rattle.std.specs.Result.{result_ok}
use Rattle.backtrace_text.specs.Frames as seen
use Rattle.core_files.specs.MappedFiles.{FileMapping}
use Rattle.elf_files.specs.Header.{header_of}
use Rattle.elf_files.specs.Symbols.{NamedSymbol, symbol_for_address}
use Rattle.elf_files.specs.declared.header.Header.{Header}
use Rattle.elf_segments.specs.DynamicFunctions.{dynamic_function}
use Rattle.elf_segments.specs.Segments.{has_named_sections}
use Rattle.backtrace_files.specs.Files.{CodeOfFile, ProcessFile, loaded_code}

-- an address is mapped from a file
abbrev pub is_mapped : ℕ → FileMapping → Bool
is_mapped address mapping = nat_le mapping.start address && nat_lt address mapping.end

-- the first file that an address is mapped from
abbrev pub file_at : List ProcessFile → ℕ → Option ProcessFile
file_at files address = find (λ file. is_mapped address file.mapping) files

-- a mapping may have code: the file has code there, or its bytes aren't there
abbrev pub may_have_code : ProcessFile → Bool
may_have_code file = is_none file.bytes || is_some (loaded_code file)

-- there may be code at an address, by the first file that it is mapped from
abbrev pub may_be_code_at : List ProcessFile → ℕ → Bool
may_be_code_at files address = elim (file_at files address) [ Some file ↦ may_have_code file | None ↦ false ]

-- the function at an address of a file with these bytes and this header, if its symbols can be read and have one
abbrev pub symbol_in : List ℕ → Header → ℕ → Option NamedSymbol
symbol_in bytes header address = option_and_then (λ symbol. symbol) (result_ok (symbol_for_address bytes header address))

-- the same by a debug file, whose symbols have the addresses of its file
abbrev pub debug_symbol : List ℕ → ℕ → Option NamedSymbol
debug_symbol bytes address = option_and_then (λ header. symbol_in bytes header address) (result_ok (header_of bytes))

-- the same by the segments of a mapped file without sections whose names can be read: by its symbols for dynamic linking
abbrev pub dynamic_symbol : CodeOfFile → ℕ → Option NamedSymbol
dynamic_symbol code address =
    if has_named_sections code.bytes code.header then None
    else dynamic_function code.bytes code.header (code.base_avma - code.base_svma) address

-- the same by a mapped file's own symbols: those of its sections, or if these have none, of its segments
abbrev pub own_symbol : CodeOfFile → ℕ → Option NamedSymbol
own_symbol code address = option_or (symbol_in code.bytes code.header address) (dynamic_symbol code address)

-- the function of a file at an address of the file: by its debug file, if there is one that has it, or else by its own symbols
abbrev pub symbol_at : Option (List ℕ) → CodeOfFile → ℕ → Option NamedSymbol
symbol_at debug code address = option_or (option_and_then (λ bytes. debug_symbol bytes address) debug) (own_symbol code address)

-- the address in the file of an address in memory, from where the segment with the code begins, in 64 bits
abbrev pub stated_address : CodeOfFile → ℕ → Option ℕ
stated_address code address =
    let stated = code.base_svma + (address - code.base_avma) in
    if nat_le code.base_avma address && nat_lt stated (2 ^ 64) then Some stated else None

-- an address of a file, from the start of a function on
abbrev pub from_start : ℕ → NamedSymbol → seen.Offset
from_start stated symbol = record { name = symbol.name; offset = stated - symbol.value }

-- the function of a file at an address, looked up by another
abbrev pub function_in : Option (List ℕ) → CodeOfFile → ℕ → ℕ → Option seen.Offset
function_in debug code address lookup =
    option_and_then (λ stated. option_map (from_start stated) (option_and_then (symbol_at debug code) (stated_address code lookup)))
    (stated_address code address)

-- the same of a mapped file
abbrev pub function_at : ProcessFile → ℕ → ℕ → Option seen.Offset
function_at file address lookup = option_and_then (λ code. function_in file.debug code address lookup) (loaded_code file)

-- the place of an address in a mapped file, in 64 bits
abbrev pub place_in : FileMapping → ℕ → seen.Offset
place_in mapping address = record { name = mapping.name; offset = min (address - mapping.start + mapping.offset) (2 ^ 64 - 1) }

-- the code at an address, by the file that was found
abbrev pub location_in : Option ProcessFile → ℕ → ℕ → seen.Location
location_in None address lookup = seen.Code address None None
location_in (Some file) address lookup = seen.Code address (function_at file address lookup) (Some (place_in file.mapping address))

-- the code at an address, by the file that another address is mapped from
abbrev pub location_of : List ProcessFile → ℕ → ℕ → seen.Location
location_of files address lookup = location_in (file_at files lookup) address lookup
