-- The functions of a symbol table in the order in which they are looked through, and the one at an address.
use Rattle.std.specs.Prelude.{ℕ, zero, suc, ◌+◌, ◌*◌, ◌/◌, ◌&&◌, Bool, max, nat_le, List, [], ◌∷◌, ◌++◌, length, Option, option_map}
use Rattle.std.specs.List.{filter}
use Rattle.std.specs.List.Sorted.{IsPermutation, IsSortedBy, IsStableBy}
use Rattle.std.specs.Option.{option_to_list, unwrap_or}
use Rattle.std.specs.Ordering.{is_lt, nat_cmp, ordering_then}
use Rattle.elf_segments.specs.DynamicFunctions.{name_at}
use Rattle.elf_segments.specs.DynamicSymbols.{SymbolBytes}
use Rattle.list_laws.specs.Last.{last_of}
use Rattle.function_index.specs.Entries.{function_at, preference}
use Rattle.function_index.specs.declared.entries.FunctionEntry.{FunctionEntry}
use Rattle.function_index.specs.declared.functions.RankedFunction.{RankedFunction}

-- the name at an offset of strings, empty if it can't be read
abbrev pub name_or_empty : List ℕ → ℕ → List ℕ
name_or_empty strings offset = unwrap_or (name_at strings offset) []

-- a function with a name among these strings, and how much it is preferred
abbrev pub ranked : List ℕ → FunctionEntry → RankedFunction
ranked strings entry = record { entry = entry; preference = preference entry.binding (name_or_empty strings entry.name_offset) }

-- the function of the symbol with an index, if it is one
abbrev pub ranked_at : SymbolBytes → ℕ → List RankedFunction
ranked_at symbols index = option_to_list (option_map (ranked symbols.strings) (function_at symbols.table (24 * index)))

-- the functions of so many symbols from an index on, the last first
abbrev pub ranked_from : SymbolBytes → ℕ → ℕ → List RankedFunction
ranked_from symbols index zero = []
ranked_from symbols index (suc more) = ranked_from symbols (index + 1) more ++ ranked_at symbols index

-- the functions of all symbols, the last first
abbrev pub all_ranked : SymbolBytes → List RankedFunction
all_ranked symbols = ranked_from symbols 0 (length symbols.table / 24)

-- a function is before another: it begins before it, or both begin at one address, and it is less preferred
abbrev pub is_before : RankedFunction → RankedFunction → Bool
is_before one other =
    is_lt (ordering_then (nat_cmp one.entry.first other.entry.first) (nat_cmp one.preference other.preference))

-- Functions are those of a list in order: the same ones, none before the one in front of it, and those of which none is before the other
-- as they were.
pub record AreInOrder (functions ordered : List RankedFunction) : Type 0 where
  pub same : IsPermutation functions ordered
  pub sorted : IsSortedBy is_before ordered
  pub stable : IsStableBy is_before functions ordered

-- for each of some functions the greatest of a number and the last addresses up to it
abbrev pub reaches_from : ℕ → List RankedFunction → List ℕ
reaches_from reach [] = []
reaches_from reach (function ∷ functions) =
    max reach function.entry.last ∷ reaches_from (max reach function.entry.last) functions

-- a function contains an address
abbrev pub has_address : ℕ → RankedFunction → Bool
has_address address function = nat_le function.entry.first address && nat_le address function.entry.last

-- the last of some functions that contains an address
abbrev pub last_at : ℕ → List RankedFunction → Option RankedFunction
last_at address functions = last_of (filter (has_address address) functions)
