-- Symbols as contracts see them, and the last one at an address.
use Rattle.std.proofs.Common.{◌≡◌, ℕ, zero, suc, ◌<◌, ◌≤◌, Bool, true, false, List, [], ◌∷◌, map, length, get_or, Some, None, refl, ap, ◌∙◌, sym, nat_cmp, is_lt, arith}
use Rattle.std.specs.List.{filter}
use Rattle.std.specs.List.Sorted.{IsNonDecreasingBy, IsPermutation, IsStableByKey, ties}
use Rattle.std.specs.Prelude.{nat_le}
use Rattle.std.proofs.lemmas.Bool.{le-leb, leb-false, leb-true}
use Rattle.std.proofs.lemmas.Bool.Decides.{nat_tests}
use Rattle.std.proofs.lemmas.List.{get_or-map, length-map}
use Rattle.std.proofs.lemmas.List.Sorted.{IsPermutation-map, length_permutation}
use Rattle.list_laws.proofs.Laws.{by_case}
use Rattle.kernel_symbols.specs.Lines.{SymbolParts}
use Rattle.kernel_symbols.specs.LineViews.{symbol_seen}
use Rattle.kernel_symbols.specs.Symbols.{AreInOrder, symbol_at}
use Rattle.kernel_symbols.specs.declared.lines.KernelSymbol.{KernelSymbol}

-- ---- symbols in order

filter-seen : (p : SymbolParts → Bool) (symbols : List KernelSymbol)
    → filter p (map symbol_seen symbols) ≡ map symbol_seen (filter (λ symbol. p (symbol_seen symbol)) symbols)
filter-seen p [] = refl
filter-seen p (symbol ∷ symbols) =
    by_case (p (symbol_seen symbol)) (λ is. rw (is, filter-seen p symbols) refl) (λ is. rw (is, filter-seen p symbols) refl)

rising-seen : (symbols : List KernelSymbol) → IsNonDecreasingBy (λ symbol. symbol.address) symbols
    → IsNonDecreasingBy (λ symbol. symbol.address) (map symbol_seen symbols)
rising-seen [] rises i j d up within = absurd (omega arith)
rising-seen (symbol ∷ symbols) rises i j d up within =
    let all : List KernelSymbol = symbol ∷ symbols in
    let same : length (map symbol_seen symbols) ≡ length symbols = length-map symbols symbol_seen in
    let below : j < length all = omega arith in
    let address : SymbolParts → ℕ = λ seen. seen.address in
    let one : (get_or (map symbol_seen all) i d).address ≡ (get_or all i symbol).address = ap address (get_or-map symbol_seen all i symbol d (omega arith)) in
    let other : (get_or (map symbol_seen all) j d).address ≡ (get_or all j symbol).address = ap address (get_or-map symbol_seen all j symbol d below) in
    let known : (get_or all i symbol).address ≤ (get_or all j symbol).address = rises i j symbol up below in
    rw (one, other) known

-- those that begin where one does are in their order: there is one that begins there, or there are none
stable-seen : (symbols ordered : List KernelSymbol) → IsPermutation symbols ordered → IsStableByKey (λ symbol. symbol.address) nat_cmp symbols ordered
    → IsStableByKey (λ symbol. symbol.address) nat_cmp (map symbol_seen symbols) (map symbol_seen ordered)
stable-seen [] [] same stable seen = refl
stable-seen [] (other ∷ ordered) same stable seen = let none : suc (length ordered) ≡ 0 = length_permutation _ _ same in absurd (omega arith)
stable-seen (symbol ∷ symbols) ordered same stable seen =
    let here = ties (λ (x : SymbolParts) (y : SymbolParts). is_lt (nat_cmp x.address y.address)) seen in
    filter-seen here ordered
    ∙ ap (λ (found : List KernelSymbol). map symbol_seen found) (stable (record symbol { address = seen.address }))
    ∙ sym (filter-seen here (symbol ∷ symbols))

pub order-seen : (symbols ordered : List KernelSymbol) → IsPermutation symbols ordered → IsNonDecreasingBy (λ symbol. symbol.address) ordered
    → IsStableByKey (λ symbol. symbol.address) nat_cmp symbols ordered → AreInOrder (map symbol_seen symbols) (map symbol_seen ordered)
order-seen symbols ordered same rises stable = record {
  same = IsPermutation-map symbol_seen symbols ordered same;
  rising = rising-seen ordered rises;
  stable = stable-seen symbols ordered same stable;
}

-- ---- the last one at an address

is-after : (address start : ℕ) → address < start → nat_le start address ≡ false
is-after address start above = grind (arith, nat_tests)

pub is-after-if : (address start : ℕ) → nat_le start address ≡ false → address < start
is-after-if address start after = leb-false start address after

pub is-before-if : (address start : ℕ) → nat_le start address ≡ true → start ≤ address
is-before-if address start before = leb-true start address before

-- none is at an address or before it if all begin after it
pub none-at : (address : ℕ) (symbols : List KernelSymbol)
    → ((k : ℕ) (d : KernelSymbol) → k < length symbols → address < (get_or symbols k d).address)
    → symbol_at address (map symbol_seen symbols) ≡ None
none-at address [] above = refl
none-at address (symbol ∷ symbols) above =
    let others = none-at address symbols (λ k d within. above (suc k) d (omega arith)) in
    let here : nat_le symbol.address address ≡ false = is-after address symbol.address (above 0 symbol (omega arith)) in
    rw (others, here) refl

-- it is the one behind which all begin after the address
pub last-at : (address : ℕ) (symbols : List KernelSymbol) (i : ℕ) (d : KernelSymbol) → i < length symbols
    → (get_or symbols i d).address ≤ address
    → ((k : ℕ) (e : KernelSymbol) → i < k → k < length symbols → address < (get_or symbols k e).address)
    → symbol_at address (map symbol_seen symbols) ≡ Some (symbol_seen (get_or symbols i d))
last-at address [] i d within here above = absurd (omega arith)
last-at address (symbol ∷ symbols) zero d within here above =
    let others = none-at address symbols (λ k e below. above (suc k) e (omega arith) (omega arith)) in
    let at : nat_le symbol.address address ≡ true = le-leb symbol.address address here in
    rw (others, at) refl
last-at address (symbol ∷ symbols) (suc i) d within here above =
    let others = last-at address symbols i d (omega arith) here (λ k e after below. above (suc k) e (omega arith) (omega arith)) in
    rw others refl
