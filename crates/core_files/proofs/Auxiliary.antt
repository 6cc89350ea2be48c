-- The auxiliary vector entry by entry.
use Rattle.std.proofs.Common.{◌≡◌, ℕ, suc, ◌+◌, ◌/◌, true, false, List, ◌∷◌, length, refl, ap, sym}
use Rattle.std.specs.Prelude.{◌==◌, not, Option, Some, None}
use Rattle.std.specs.List.{find, take_while}
use Rattle.std.specs.Option.{option_map}
use Rattle.std.proofs.lemmas.List.Sums.{take_while-cons}
use Rattle.core_files.specs.Bytes.{each_from}
use Rattle.core_files.specs.Auxv.{entry_at, auxiliary_value}

-- the value among some entries
abbrev pub value_in : ℕ → List (ℕ × ℕ) → Option ℕ
value_in kind entries =
    option_map (λ (entry : ℕ × ℕ). entry.1) (find (λ (entry : ℕ × ℕ). entry.0 == kind) (take_while (λ (entry : ℕ × ℕ). not (entry.0 == 0)) entries))

in-end : (kind : ℕ) (entry : ℕ × ℕ) (more : List (ℕ × ℕ)) → (entry.0 == 0) ≡ true → value_in kind (entry ∷ more) ≡ None
in-end kind entry more is = rw take_while-cons (rw is refl)

in-here : (kind : ℕ) (entry : ℕ × ℕ) (more : List (ℕ × ℕ)) → (entry.0 == 0) ≡ false → (entry.0 == kind) ≡ true → value_in kind (entry ∷ more) ≡ Some entry.1
in-here kind entry more is found = rw take_while-cons (rw (is, found) refl)

in-later : (kind : ℕ) (entry : ℕ × ℕ) (more : List (ℕ × ℕ)) → (entry.0 == 0) ≡ false → (entry.0 == kind) ≡ false → value_in kind (entry ∷ more) ≡ value_in kind more
in-later kind entry more is other = rw take_while-cons (rw (is, other) refl)

-- the value among so many entries, from one on
abbrev pub value_from : List ℕ → ℕ → ℕ → ℕ → Option ℕ
value_from descriptor kind first count = value_in kind (each_from (entry_at descriptor) first count)

pub value-is : (descriptor : List ℕ) (kind count : ℕ) → count ≡ length descriptor / 16 → auxiliary_value descriptor kind ≡ value_from descriptor kind 0 count
unfolding auxiliary_value
value-is descriptor kind count is = ap (λ (n : ℕ). value_from descriptor kind 0 n) (sym is)

pub value-none : (descriptor : List ℕ) (kind first : ℕ) → value_from descriptor kind first 0 ≡ None
unfolding each_from
value-none descriptor kind first = refl

-- at AT_NULL there is no value
pub value-end : (descriptor : List ℕ) (kind first count : ℕ) → ((entry_at descriptor first).0 == 0) ≡ true → value_from descriptor kind first (suc count) ≡ None
unfolding each_from
value-end descriptor kind first count is = in-end kind (entry_at descriptor first) (each_from (entry_at descriptor) (first + 1) count) is

-- at an entry of the type there is its value
pub value-here : (descriptor : List ℕ) (kind first count : ℕ) → ((entry_at descriptor first).0 == 0) ≡ false → ((entry_at descriptor first).0 == kind) ≡ true
    → value_from descriptor kind first (suc count) ≡ Some (entry_at descriptor first).1
unfolding each_from
value-here descriptor kind first count is found = in-here kind (entry_at descriptor first) (each_from (entry_at descriptor) (first + 1) count) is found

-- another entry is passed
pub value-later : (descriptor : List ℕ) (kind first count : ℕ) → ((entry_at descriptor first).0 == 0) ≡ false → ((entry_at descriptor first).0 == kind) ≡ false
    → value_from descriptor kind first (suc count) ≡ value_from descriptor kind (first + 1) count
unfolding each_from
value-later descriptor kind first count is other = in-later kind (entry_at descriptor first) (each_from (entry_at descriptor) (first + 1) count) is other
