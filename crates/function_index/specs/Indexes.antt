-- Functions by their addresses.
use Rattle.std.specs.Prelude.{◌≡◌, ℕ, List, [], Option, Some, None, option_and_then}
use Rattle.elf_segments.specs.DynamicFunctions.{name_at}
use Rattle.elf_segments.specs.DynamicSymbols.{SymbolBytes}
use Rattle.function_index.specs.Functions.{AreInOrder, all_ranked, last_at}
use Rattle.function_index.specs.declared.functions.RankedFunction.{RankedFunction}

-- Functions in order, and the strings in which their names are.
pub record OrderedFunctions : Type 0 where
  pub functions : List RankedFunction
  pub strings : List ℕ

-- no functions
abbrev pub no_functions : OrderedFunctions
no_functions = record { functions = []; strings = [] }

-- These are the functions of symbols.
pub record AreFunctionsOf (symbols : SymbolBytes) (index : OrderedFunctions) : Type 0 where
  pub ordered : AreInOrder (all_ranked symbols) index.functions
  pub strings : index.strings ≡ symbols.strings

-- .. if there are symbols, or else none
abbrev pub AreFunctionsIf : Option SymbolBytes → OrderedFunctions → Type 0
AreFunctionsIf None index = index ≡ no_functions
AreFunctionsIf (Some symbols) index = AreFunctionsOf symbols index

-- the name of the last function that contains an address, if it can be read
abbrev pub name_by : OrderedFunctions → ℕ → Option (List ℕ)
name_by index address = option_and_then (λ found. name_at index.strings found.entry.name_offset) (last_at address index.functions)
