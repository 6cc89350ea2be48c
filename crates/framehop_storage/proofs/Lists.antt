-- Lists that are the first items of a longer list.
use Rattle.std.proofs.Common.{◌≡◌, ℕ, ◌-◌, ◌<◌, ◌≤◌, List, length, get_or, take, set, swap_remove, Option, Some, None, refl, sym, ◌∙◌, arith, rules, length-take-le}
use Rattle.std.proofs.lemmas.List.{same_lists, places, get_or-set_same, get_or-take}
use Rattle.std.proofs.lemmas.Bool.{cases_eq, lt-ltb}
use Rattle.std.specs.Borrow.{MutBor}
use Rattle.std.specs.List.{IsItemAtMut}

-- a write below n is a write to the first n items
pub take-set_below : {X : Type 0} (n : ℕ) (xs : List X) (i : ℕ) (x : X) → i < n → n ≤ length xs
    → take n (set xs i x) ≡ set (take n xs) i x
take-set_below n xs i x lt le =
    same_lists _ _ (search (rules, places))
    (λ k d h. grind (arith, places, get_or-set_same, cases_eq k i))

-- without the last of the first n items, which a write put at i, they are the list after `swap_remove(i)`
pub removed : {X : Type 0} (n : ℕ) (xs : List X) (i : ℕ) (d last : X) → i < n → n ≤ length xs → last ≡ get_or xs (n - 1) last
    → take (n - 1) (set xs i last) ≡ swap_remove (take n xs) i d
removed n xs i d last lt le is =
    same_lists _ _ (search (rules, places))
    (λ k e h. grind (arith, places, get_or-set_same, cases_eq k i))

-- a reference to the item at an index below n is one to that of the first n items
pub item_within : {X : Type 0} (n : ℕ) (xs : List X) (i : ℕ) (r : Option (MutBor X)) → i < n → n ≤ length xs → IsItemAtMut xs i r
    → IsItemAtMut (take n xs) i r
item_within n xs i None lt le item = let some = item.2 (omega arith) in cc
item_within {X} n xs i (Some r) lt le item =
    let same = λ (d : X). sym (get_or-take n xs i d lt) in
    let within : i < length (take n xs) = omega (arith, length-take-le n xs le) in
    (sym (lt-ltb i (length (take n xs)) within), item.1 ∙ same r.now, λ _. refl, (within, λ d. item.3.1 d ∙ same d), λ h d. item.4 h d ∙ same d)
