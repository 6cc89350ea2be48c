-- The stack after an operation, if there is room for it.
use Rattle.std.proofs.Common.{◌≡◌, ℕ, ◌%◌, ◌≤◌, ◌<◌, true, List, ◌∷◌, length, reverse, pos, Option, Some, None, Result, Ok, Err, ◌⊎◌, inl, inr, subst, refl, sym, ap, ◌∙◌, arith}
use Rattle.std.specs.Prelude.{slice_get}
use Rattle.std.specs.Option.{ok_or}
use Rattle.std.proofs.Math.Nat.{mod-eq_of_lt}
use Rattle.std.proofs.lemmas.List.{length-reverse}
use Rattle.dwarf_constants.specs.declared.error.Error.{Error}
use Rattle.dwarf_constants.specs.declared.error.Error.TheVariants.{NotEnoughStackItems}
use Rattle.dwarf_readers.specs.Stretch.{◌>>=◌}
use Rattle.dwarf_storage.specs.Capacity.{IsWithin}
use Rattle.dwarf_expressions.specs.Values.{modulus}
use Rattle.dwarf_expressions.specs.Effects.{Stack, has_room, of_top, of_two, stack_after, stack_with, stack_with_copy, stack_within, with_top, with_two}
use Rattle.dwarf_expressions.specs.StackViews.{Becomes, Leaves}
use Rattle.dwarf_operations.specs.declared.op.Operation.{Operation}
use Rattle.dwarf_operations.specs.declared.op.Operation.TheVariants.{Abs, And, Div, Minus, Mod, Mul, Neg, Not, Or, Plus, PlusConstant, Shl, Shr, Shra, Xor, Eq, Ge, Gt, Le, Lt, Ne}

-- there is room for a stack that isn't longer
room_for : (capacity : Option ℕ) (len : ℕ) (stack : List ℕ) → IsWithin capacity len → length stack ≤ len → has_room capacity stack ≡ true
room_for (Some capacity) len stack h le = let fits : length stack ≤ capacity = omega arith in grind arith
room_for None len stack h le = refl

-- what leaves a stack that isn't longer becomes it; items are the values from the lowest on
pub leaves_becomes : (capacity : Option ℕ) (items values : List ℕ) (expected : Stack) (result : Result (Unit {0}) Error) (new : List ℕ) → IsWithin capacity (length items)
    → reverse items ≡ values → length new ≤ length values → Leaves expected result new → Becomes capacity expected result new
leaves_becomes capacity items values expected (Ok _) new h same le is =
    let len : length values ≡ length items = ap length (sym same) ∙ length-reverse items in
    let room = room_for capacity (length items) new h (omega arith) in
    ap (stack_within capacity) is ∙ rw room refl
leaves_becomes capacity items values expected (Err e) new h same le is = inl (ap (stack_within capacity) is)

-- a copy of a value is the value
pub picked_is : (n index found : ℕ) (stack : List ℕ) (value : ℕ) → Ok value ≡ ok_or (slice_get stack found) NotEnoughStackItems → found ≡ index → value < modulus n
    → stack_with_copy index stack ≡ stack_with n (pos value) stack
picked_is n index place stack value is place_is below =
    let same : value % modulus n ≡ value = mod-eq_of_lt below in
    ap (λ (found : Result ℕ Error). found >>= λ v. Ok (v ∷ stack)) (sym (is ∙ ap (λ (k : ℕ). ok_or (slice_get stack k) NotEnoughStackItems) place_is)) ∙ ap (λ (v : ℕ). Ok (v ∷ stack)) (sym same)

-- ---- operations that are done alike

module _ (n : ℕ) (stack : List ℕ) (operation : Operation) where
  by_top : (x : Operation) → stack_after n x stack ≡ with_top n (of_top n x) stack → operation ≡ x → stack_after n operation stack ≡ with_top n (of_top n operation) stack
  by_top x is e = let P : Operation → Type 0 = λ o. stack_after n o stack ≡ with_top n (of_top n o) stack in subst P (sym e) is

  by_two : (x : Operation) → stack_after n x stack ≡ with_two n (of_two n x) stack → operation ≡ x → stack_after n operation stack ≡ with_two n (of_two n operation) stack
  by_two x is e = let P : Operation → Type 0 = λ o. stack_after n o stack ≡ with_two n (of_two n o) stack in subst P (sym e) is

  or_else : {A B C : Type 0} → (A → C) → (B → C) → A ⊎ B → C
  or_else first second (inl a) = first a
  or_else first second (inr b) = second b

  pub top_changes : (operation ≡ Abs) ⊎ ((operation ≡ Neg) ⊎ ((operation ≡ Not) ⊎ ((value : ℕ) × (operation ≡ PlusConstant value))))
      → stack_after n operation stack ≡ with_top n (of_top n operation) stack
  top_changes = or_else (by_top Abs refl) (or_else (by_top Neg refl) (or_else (by_top Not refl) (λ (value, is). by_top (PlusConstant value) refl is)))

  pub two_change : (operation ≡ And) ⊎ ((operation ≡ Div) ⊎ ((operation ≡ Minus) ⊎ ((operation ≡ Mod) ⊎ ((operation ≡ Mul) ⊎ ((operation ≡ Or) ⊎ ((operation ≡ Plus)
      ⊎ ((operation ≡ Shl) ⊎ ((operation ≡ Shr) ⊎ ((operation ≡ Shra) ⊎ ((operation ≡ Xor) ⊎ ((operation ≡ Eq) ⊎ ((operation ≡ Ge) ⊎ ((operation ≡ Gt) ⊎ ((operation ≡ Le)
      ⊎ ((operation ≡ Lt) ⊎ (operation ≡ Ne))))))))))))))))
      → stack_after n operation stack ≡ with_two n (of_two n operation) stack
  two_change =
      or_else (by_two And refl) (or_else (by_two Div refl) (or_else (by_two Minus refl) (or_else (by_two Mod refl) (or_else (by_two Mul refl)
      (or_else (by_two Or refl) (or_else (by_two Plus refl) (or_else (by_two Shl refl) (or_else (by_two Shr refl) (or_else (by_two Shra refl)
      (or_else (by_two Xor refl) (or_else (by_two Eq refl) (or_else (by_two Ge refl) (or_else (by_two Gt refl) (or_else (by_two Le refl)
      (or_else (by_two Lt refl) (by_two Ne refl))))))))))))))))
