-- The functions of a kernel in the order of their addresses, and the one at an address.
use Rattle.std.specs.Prelude.{ℕ, nat_le, if◌then◌else◌, List, [], ◌∷◌, Option, Some, None, option_map}
use Rattle.std.specs.List.Sorted.{IsNonDecreasingBy, IsPermutation, IsStableByKey}
use Rattle.std.specs.Option.{option_or}
use Rattle.std.specs.Ordering.{nat_cmp}
use Rattle.kernel_symbols.specs.Lines.{SymbolParts}

-- Symbols are those of a list in the order of their addresses: the same ones, and those of one address as they were.
pub record AreInOrder (symbols ordered : List SymbolParts) : Type 0 where
  pub same : IsPermutation symbols ordered
  pub rising : IsNonDecreasingBy (λ symbol. symbol.address) ordered
  pub stable : IsStableByKey (λ symbol. symbol.address) nat_cmp symbols ordered

-- the last of some symbols at an address or before it
abbrev pub symbol_at : ℕ → List SymbolParts → Option SymbolParts
symbol_at address [] = None
symbol_at address (symbol ∷ symbols) =
    option_or (symbol_at address symbols) (if nat_le symbol.address address then Some symbol else None)

-- its name
abbrev pub name_by : List SymbolParts → ℕ → Option (List ℕ)
name_by symbols address = option_map (λ symbol. symbol.name) (symbol_at address symbols)
