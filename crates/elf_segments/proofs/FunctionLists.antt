-- The function at an address in a list of symbols, by the first of them.
use Rattle.std.proofs.Common.{◌≡◌, ℕ, ◌-◌, ◌<◌, ◌≤◌, List, ◌∷◌, Option, refl, sym, ap, ◌∙◌}
use Rattle.std.specs.List.{filter}
use Rattle.list_laws.proofs.Laws.{by_case, first_greatest-cons}
use Rattle.elf_files.specs.Tables.{entries}
use Rattle.elf_segments.specs.TableSymbols.{function_at, has_address, with_earlier}
use Rattle.elf_segments.specs.declared.table_symbols.TableSymbol.{TableSymbol}
use Rattle.elf_segments.proofs.Entries.{entries_back}

function_at-cons : (address : ℕ) (symbol : TableSymbol) (symbols : List TableSymbol) → function_at address (symbol ∷ symbols) ≡ with_earlier address symbol (function_at address symbols)
function_at-cons address symbol symbols =
    by_case (has_address address symbol)
    (λ has. rw has (first_greatest-cons (λ (entry : TableSymbol). entry.value) symbol (filter (has_address address) symbols)))
    (λ misses. rw misses refl)

-- what is found with the symbol before those that were passed
pub one_before : (address : ℕ) (entry : ℕ → TableSymbol) (left count : ℕ) (symbol : TableSymbol) (found next : Option TableSymbol) → 0 < left → left ≤ count → symbol ≡ entry (left - 1)
    → found ≡ function_at address (entries entry left (count - left)) → next ≡ with_earlier address symbol found
    → next ≡ function_at address (entries entry (left - 1) (count - (left - 1)))
one_before address entry left count symbol found next some within here same is =
    is
    ∙ ap (λ (first : TableSymbol). with_earlier address first found) here
    ∙ ap (with_earlier address (entry (left - 1))) same
    ∙ sym (function_at-cons address (entry (left - 1)) (entries entry left (count - left)))
    ∙ ap (function_at address) (sym (entries_back entry left count some within))
