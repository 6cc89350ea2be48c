-- The functions of a symbol table (System V gABI, "Symbol Table": Elf64_Sym).
use Rattle.std.specs.Prelude.{ℕ, ◌+◌, ◌-◌, ◌*◌, ◌/◌, ◌%◌, ◌^◌, ◌==◌, ◌&&◌, ◌||◌, not, min, if◌then◌else◌, Bool, List, [], ◌∷◌, length, slice_index, take, drop, Option, Some, None}
use Rattle.dwarf_endianity.specs.ByteOrder.{little_endian}
use Rattle.function_index.specs.declared.entries.Binding.{Binding}
use Rattle.function_index.specs.declared.entries.Binding.TheVariants.{Local, Global, Weak}
use Rattle.function_index.specs.declared.entries.FunctionEntry.{FunctionEntry}

-- The number in so many bytes from an offset on, lowest byte first.
unfoldable pub number_at : ℕ → List ℕ → ℕ → ℕ
number_at size bytes offset = little_endian (take size (drop offset bytes))

-- A symbol is a function by the low four bits of st_info (STT_FUNC, STT_GNU_IFUNC), is defined in the file (st_shndx isn't SHN_UNDEF), and
-- has bytes.
abbrev pub is_function : ℕ → ℕ → ℕ → Bool
is_function kind section_index size =
    (kind % 16 == 2 || kind % 16 == 10) && not (section_index == 0) && not (size == 0)

-- A symbol is bound by the high four bits of st_info (STB_GLOBAL, STB_WEAK).
abbrev pub binding_of : ℕ → Binding
binding_of kind = if kind / 16 == 1 then Global else if kind / 16 == 2 then Weak else Local

-- The function of the symbol at an offset, if it is one.
abbrev pub function_at : List ℕ → ℕ → Option FunctionEntry
function_at table at =
    let first = number_at 8 table (at + 8) in
    let size = number_at 8 table (at + 16) in
    if is_function (slice_index table (at + 4)) (number_at 2 table (at + 6)) size
    then Some (record {
      first = first;
      last = min (first + (size - 1)) (2 ^ 64 - 1);
      name_offset = number_at 4 table at;
      binding = binding_of (slice_index table (at + 4));
    })
    else None

-- the rank of a binding: a weak symbol is the least, and a global one is before a local one
abbrev pub binding_rank : Binding → ℕ
binding_rank Weak = 0
binding_rank Local = 1
binding_rank Global = 2

-- how many underscores a name begins with
abbrev pub underscores : List ℕ → ℕ
underscores [] = 0
underscores (byte ∷ bytes) = if byte == 95 then 1 + underscores bytes else 0

-- The order, as one number, of functions that begin at one address: the greatest has perf's choice of their names. First the binding's rank
-- counts, then how few underscores the name begins with, then how long it is; underscores and bytes beyond 65,535 don't count.
abbrev pub preference : Binding → List ℕ → ℕ
preference binding name =
    binding_rank binding * 2 ^ 32 + (65535 - min (underscores name) 65535) * 2 ^ 16 + min (length name) 65535
