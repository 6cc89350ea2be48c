-- The registers that a function of x86_64 saves, by their count and the number of their permutation (compact_unwind_encoding.h,
-- UNWIND_X86_64_FRAMELESS_STACK_REG_PERMUTATION).
use Rattle.std.specs.Prelude.{ℕ, zero, suc, ◌*◌, List, [], ◌∷◌, length, map, Option, Some, None}
use Rattle.std.specs.List.{flat_map, slice_get}
use Rattle.framehop_compact.specs.declared.x86_64.saved_registers.RegisterNameX86_64.{RegisterNameX86_64}
use Rattle.framehop_compact.specs.declared.x86_64.saved_registers.RegisterNameX86_64.TheVariants.{RBX, R12, R13, R14, R15, RBP}

-- Each element of a list, with the others in their order.
abbrev pub choices : {A : Type 0} → List A → List (A × List A)
choices [] = []
choices (x ∷ xs) = (x, xs) ∷ map (λ choice. (choice.0, x ∷ choice.1)) (choices xs)

-- All lists of so many elements of a list, each at most once, in lexicographic order: with each element in turn at the front, all
-- lists of the others.
unfoldable pub arrangements : {A : Type 0} → ℕ → List A → List (List A)
arrangements zero left = [] ∷ []
arrangements (suc count) left = flat_map (λ choice. map (λ list. choice.0 ∷ list) (arrangements count choice.1)) (choices left)

-- How many they are, of so many elements.
abbrev pub arrangement_count : ℕ → ℕ → ℕ
arrangement_count zero left = 1
arrangement_count (suc count) zero = 0
arrangement_count (suc count) (suc left) = suc left * arrangement_count count left

-- The product of the numbers from 1 on.
abbrev pub factorial : ℕ → ℕ
factorial zero = 1
factorial (suc number) = suc number * factorial number

-- The registers that a function can save, in the order of their numbers from 1.
abbrev pub saved_register_names : List RegisterNameX86_64
saved_register_names = RBX ∷ R12 ∷ R13 ∷ R14 ∷ R15 ∷ RBP ∷ []

-- The registers of a count and a number: the list at this place, from 0, of all lists of so many. No register has any number.
abbrev pub registers_of : ℕ → ℕ → Option (List RegisterNameX86_64)
registers_of zero number = Some []
registers_of (suc count) number = slice_get (arrangements (suc count) saved_register_names) number

-- How many registers come after RBP, if it is saved.
abbrev pub saved_after_bp : List RegisterNameX86_64 → Option ℕ
saved_after_bp [] = None
saved_after_bp (RBP ∷ more) = Some (length more)
saved_after_bp (other ∷ more) = saved_after_bp more
