-- Registers none of which is known.
use Rattle.std.proofs.Common.{◌≡◌, ℕ, zero, suc, List, [], ◌∷◌, Option, Some, None, refl}
use Rattle.std.specs.Prelude.{nat_lt, if◌then◌else◌, slice_index_or}
use Rattle.list_laws.proofs.Laws.{by_case}
use Rattle.framehop_expressions.specs.Architectures.{register_count}
use Rattle.framehop_expressions.specs.Registers.{register_in}
use Rattle.framehop_expressions.specs.declared.architecture.Architecture.{Architecture}

-- no value is there
abbrev pub AreNone : List (Option ℕ) → Type 0
AreNone [] = Unit {0}
AreNone (None ∷ xs) = AreNone xs
AreNone (Some value ∷ xs) = ⊥

none-at : (xs : List (Option ℕ)) (number : ℕ) → AreNone xs → slice_index_or xs number None ≡ None
none-at [] number are = refl
none-at (None ∷ xs) zero are = refl
none-at (None ∷ xs) (suc number) are = none-at xs number are
none-at (Some value ∷ xs) number are = absurd are

pub none-known : (architecture : Architecture) (xs : List (Option ℕ)) (number : ℕ) → AreNone xs → register_in architecture xs number ≡ None
none-known architecture xs number are =
    by_case (nat_lt number (register_count architecture))
    (λ is. rw is (none-at xs number are))
    (λ is. rw is refl)
