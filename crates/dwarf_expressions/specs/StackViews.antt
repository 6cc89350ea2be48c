-- The stack of an evaluation, as the contracts of private functions see it.
use Rattle.std.specs.Prelude.{ℕ, ◌≡◌, ◌⊎◌, List, [], ◌∷◌, MatchResult, Option, None, Result, Ok, Err}
use Rattle.dwarf_constants.specs.declared.error.Error.{Error}
use Rattle.dwarf_constants.specs.declared.error.Error.TheVariants.{NotEnoughStackItems, OutOfMemory}
use Rattle.dwarf_expressions.specs.Effects.{Stack, stack_within}

-- a stack of values: the size of an address in bytes, and the values, the top first
pub record SizedValues : Type 0 where
  pub address_size : ℕ
  pub values : List ℕ

-- The top was removed from a stack and returned; or there was none.
abbrev pub Pops : List ℕ → List ℕ → Result ℕ Error → Type 0
Pops old new result =
    MatchResult result (λ top. old ≡ top ∷ new) (λ e. (old ≡ []) × (new ≡ []) × (e ≡ NotEnoughStackItems))

-- A stack became the expected one, or an operation failed with the expected error; or there was no memory for a stack that grows.
abbrev pub Becomes : Option ℕ → Stack → Result (Unit {0}) Error → List ℕ → Type 0
Becomes capacity expected (Ok _) new = stack_within capacity expected ≡ Ok new
Becomes capacity expected (Err e) new = (stack_within capacity expected ≡ Err e) ⊎ ((capacity ≡ None) × (e ≡ OutOfMemory))

-- A stack, which became no longer, became the expected one, or an operation failed with the expected error.
abbrev pub Leaves : Stack → Result (Unit {0}) Error → List ℕ → Type 0
Leaves expected (Ok _) new = expected ≡ Ok new
Leaves expected (Err e) new = expected ≡ Err e
