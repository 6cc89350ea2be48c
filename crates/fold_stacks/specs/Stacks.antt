-- The names in a stack, by their numbers.
use Rattle.std.specs.Prelude.{ℕ, if◌then◌else◌, Bool, List, [], ◌∷◌, ◌++◌, reverse, Option, Some, None}
use Rattle.fold_stacks.specs.declared.order.StackParts.{StackParts}

-- a number, if there is one
abbrev pub numbers_if : Option ℕ → List ℕ
numbers_if (Some number) = number ∷ []
numbers_if None = []

-- all but the process's name, from the innermost on: the frames of the kernel, those of user code, and why the walk ended
abbrev pub innermost_first : StackParts → List ℕ
innermost_first parts = parts.kernel.now ++ parts.user.now ++ numbers_if parts.end

-- the names of a stack: all but the process's from the innermost on, or inverted from the outermost on, and then the process's
abbrev pub stack_numbers : StackParts → Bool → List ℕ
stack_numbers parts inverted =
    (if inverted then reverse (innermost_first parts) else innermost_first parts) ++ parts.process ∷ []
