-- What one module alone says of an address depends on its unwind data, if it contains the address, and on nothing
-- else of that.
use Rattle.std.proofs.Common.{◌≡◌, ℕ, ◌+◌, ◌-◌, ◌≤◌, ◌^◌, [], ◌∷◌, Bool, true, false, cond, Option, Some, None, refl, arith}
use Rattle.std.specs.Prelude.{nat_le, nat_lt, option_and_then, ◌==◌, ◌&&◌, ◌||◌}
use Rattle.std.proofs.lemmas.Bool.{leb-true}
use Rattle.list_laws.specs.Last.{last_of}
use Rattle.list_laws.specs.Greatest.{last_greatest}
use Rattle.framehop_unwinder.specs.Attempt.{Attempt, Meanings, attempt_of, attempt_at}
use Rattle.framehop_unwinder.specs.Modules.{Loaded, if_inside}
use Rattle.unwind_run_program.specs.Roads.{address_behind, module_at}

module _ {Data Rule Registers : Type 0} (m : Meanings Data Rule Registers) (base : ℕ) (one other : Data) (first : Bool) (a : ℕ) where
  abbrev says : Option (Loaded Data) → Attempt Rule Registers
  says found = attempt_of m first a found

  inside : (test : Bool) → (test ≡ true → m.attempt one (a - base) first ≡ m.attempt other (a - base) first)
      → says (cond test (Some (module_at base one)) None) ≡ says (cond test (Some (module_at base other)) None)
  inside true same = same refl
  inside false same = refl

  greatest : (test : Bool) → says (if_inside a (module_at base one)) ≡ says (if_inside a (module_at base other))
      → says (option_and_then (if_inside a) (last_of (cond test (module_at base one ∷ []) [])))
      ≡ says (option_and_then (if_inside a) (last_of (cond test (module_at base other ∷ []) [])))
  greatest true same = same
  greatest false same = refl

  below : (test : Bool)
      → (test ≡ true → says (option_and_then (if_inside a) (last_greatest (λ x. x.start) (module_at base one ∷ [])))
      ≡ says (option_and_then (if_inside a) (last_greatest (λ x. x.start) (module_at base other ∷ []))))
      → says (option_and_then (if_inside a) (last_greatest (λ x. x.start) (cond test (module_at base one ∷ []) [])))
      ≡ says (option_and_then (if_inside a) (last_greatest (λ x. x.start) (cond test (module_at base other ∷ []) [])))
  below true same = same refl
  below false same = refl

  sum_back : nat_le base a ≡ true → base + (a - base) ≡ a
  sum_back h = let le : base ≤ a = leb-true base a h in omega (arith, le)

  pub alone_alike : ((relative : ℕ) → base + relative ≡ a → m.attempt one relative first ≡ m.attempt other relative first)
      → attempt_at m (module_at base one ∷ []) first a ≡ attempt_at m (module_at base other ∷ []) first a
  alone_alike same =
      below (nat_le base a)
      (λ h. greatest (nat_le base base && true)
      (inside ((a == base || nat_lt a (address_behind base (2 ^ 32))) && (nat_le base a && nat_lt (a - base) (2 ^ 32)))
      (λ _. same (a - base) (sum_back h))))
