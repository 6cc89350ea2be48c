-- The function at an address in a list of symbols, by the first of them.
use Rattle.std.proofs.Common.{◌≡◌, ℕ, ◌-◌, ◌<◌, ◌≤◌, List, ◌∷◌, Option, Some, None, refl, sym, ap, ◌∙◌}
use Rattle.std.specs.Prelude.{nat_lt}
use Rattle.std.specs.List.{filter}
use Rattle.list_laws.proofs.Laws.{by_case, first_greatest-cons}
use Rattle.elf_files.specs.declared.symbol.SymbolEntry.{SymbolEntry}
use Rattle.elf_files.specs.Symbols.{function_at, has_address}
use Rattle.elf_files.specs.SymbolViews.{with_earlier, HasAddress}
use Rattle.elf_files.specs.Tables.{entries}
use Rattle.elf_files.proofs.Tables.{entries-back}

pub function_at-cons : (address : ℕ) (symbol : SymbolEntry) (symbols : List SymbolEntry) → function_at address (symbol ∷ symbols) ≡ with_earlier address symbol (function_at address symbols)
function_at-cons address symbol symbols =
    by_case (has_address address symbol)
    (λ has. rw has (first_greatest-cons (λ (entry : SymbolEntry). entry.value) symbol (filter (has_address address) symbols)))
    (λ misses. rw misses refl)

-- what is found contains the address
pub earlier_contains : (address : ℕ) (symbol : SymbolEntry) (found : Option SymbolEntry) → HasAddress address found → HasAddress address (with_earlier address symbol found)
earlier_contains address symbol None later = by_case (has_address address symbol) (λ has. rw has has) (λ misses. rw misses tt)
earlier_contains address symbol (Some other) later =
    by_case (has_address address symbol)
    (λ has. rw has (by_case (nat_lt symbol.value other.value) (λ below. rw below later) (λ not. rw not has)))
    (λ misses. rw misses later)

-- what is found with the symbol before those that were passed
pub one_before : (address : ℕ) (entry : ℕ → SymbolEntry) (left count : ℕ) (symbol : SymbolEntry) (found next : Option SymbolEntry) → 0 < left → left ≤ count → symbol ≡ entry (left - 1)
    → found ≡ function_at address (entries entry left (count - left)) → next ≡ with_earlier address symbol found
    → next ≡ function_at address (entries entry (left - 1) (count - (left - 1)))
one_before address entry left count symbol found next some within here same is =
    is
    ∙ ap (λ (first : SymbolEntry). with_earlier address first found) here
    ∙ ap (with_earlier address (entry (left - 1))) same
    ∙ sym (function_at-cons address (entry (left - 1)) (entries entry left (count - left)))
    ∙ ap (function_at address) (sym (entries-back entry left count some within))
