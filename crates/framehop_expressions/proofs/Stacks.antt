-- The stack after an operation, if there is room for it.
use Rattle.std.proofs.Common.{◌≡◌, ℕ, ◌≤◌, true, List, length, reverse, Result, Ok, Err, ◌⊎◌, inl, inr, subst, refl, sym, ap, ◌∙◌, arith}
use Rattle.std.proofs.lemmas.List.{length-reverse}
use Rattle.dwarf_constants.specs.declared.error.Error.{Error}
use Rattle.dwarf_operations.specs.declared.op.Operation.{Operation}
use Rattle.dwarf_operations.specs.declared.op.Operation.TheVariants.{Abs, And, Div, Minus, Mod, Mul, Neg, Not, Or, Plus, PlusConstant, Shl, Shr, Shra, Xor, Eq, Ge, Gt, Le, Lt, Ne}
use Rattle.dwarf_expressions.specs.Effects.{Stack, has_room, of_top, of_two, stack_after, stack_within, with_top, with_two}
use Rattle.dwarf_expressions.specs.StackViews.{Leaves}
use Rattle.framehop_expressions.specs.StackViews.{Becomes, most}

-- there is room for a stack that isn't longer
room_for : (stack : List ℕ) → length stack ≤ 64 → has_room most stack ≡ true
room_for stack fits = grind arith

-- what leaves a stack that isn't longer becomes it; items are the values from the lowest on
pub leaves_becomes : (items values : List ℕ) (expected : Stack) (result : Result (Unit {0}) Error) (new : List ℕ) → length items ≤ 64
    → reverse items ≡ values → length new ≤ length values → Leaves expected result new → Becomes expected result new
leaves_becomes items values expected (Ok _) new fits same le is =
    let len : length values ≡ length items = ap length (sym same) ∙ length-reverse items in
    let room = room_for new (omega arith) in
    ap (stack_within most) is ∙ rw room refl
leaves_becomes items values expected (Err e) new fits same le is = ap (stack_within most) is

-- ---- operations that are done alike

module _ (stack : List ℕ) (operation : Operation) where
  by_top : (x : Operation) → stack_after 8 x stack ≡ with_top 8 (of_top 8 x) stack → operation ≡ x → stack_after 8 operation stack ≡ with_top 8 (of_top 8 operation) stack
  by_top x is e = let P : Operation → Type 0 = λ o. stack_after 8 o stack ≡ with_top 8 (of_top 8 o) stack in subst P (sym e) is

  by_two : (x : Operation) → stack_after 8 x stack ≡ with_two 8 (of_two 8 x) stack → operation ≡ x → stack_after 8 operation stack ≡ with_two 8 (of_two 8 operation) stack
  by_two x is e = let P : Operation → Type 0 = λ o. stack_after 8 o stack ≡ with_two 8 (of_two 8 o) stack in subst P (sym e) is

  or_else : {A B C : Type 0} → (A → C) → (B → C) → A ⊎ B → C
  or_else first second (inl a) = first a
  or_else first second (inr b) = second b

  pub top_changes : (operation ≡ Abs) ⊎ ((operation ≡ Neg) ⊎ ((operation ≡ Not) ⊎ ((value : ℕ) × (operation ≡ PlusConstant value))))
      → stack_after 8 operation stack ≡ with_top 8 (of_top 8 operation) stack
  top_changes = or_else (by_top Abs refl) (or_else (by_top Neg refl) (or_else (by_top Not refl) (λ (value, is). by_top (PlusConstant value) refl is)))

  pub two_change : (operation ≡ And) ⊎ ((operation ≡ Div) ⊎ ((operation ≡ Minus) ⊎ ((operation ≡ Mod) ⊎ ((operation ≡ Mul) ⊎ ((operation ≡ Or) ⊎ ((operation ≡ Plus)
      ⊎ ((operation ≡ Shl) ⊎ ((operation ≡ Shr) ⊎ ((operation ≡ Shra) ⊎ ((operation ≡ Xor) ⊎ ((operation ≡ Eq) ⊎ ((operation ≡ Ge) ⊎ ((operation ≡ Gt) ⊎ ((operation ≡ Le)
      ⊎ ((operation ≡ Lt) ⊎ (operation ≡ Ne))))))))))))))))
      → stack_after 8 operation stack ≡ with_two 8 (of_two 8 operation) stack
  two_change =
      or_else (by_two And refl) (or_else (by_two Div refl) (or_else (by_two Minus refl) (or_else (by_two Mod refl) (or_else (by_two Mul refl)
      (or_else (by_two Or refl) (or_else (by_two Plus refl) (or_else (by_two Shl refl) (or_else (by_two Shr refl) (or_else (by_two Shra refl)
      (or_else (by_two Xor refl) (or_else (by_two Eq refl) (or_else (by_two Ge refl) (or_else (by_two Gt refl) (or_else (by_two Le refl)
      (or_else (by_two Lt refl) (by_two Ne refl))))))))))))))))
