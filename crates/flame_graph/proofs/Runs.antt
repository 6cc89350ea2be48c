-- Stacks that share names with one of two stacks that share them share them with the other.
use Rattle.std.proofs.Common.{◌≡◌, ℕ, zero, suc, ◌+◌, ◌<◌, Bool, true, false, cond, List, [], ◌∷◌, nat_eq, nat_lt, refl, arith}
use Rattle.std.proofs.lemmas.Bool.Decides.{nat_tests}
use Rattle.std.proofs.lemmas.Cmp.{nat_list_eq_equiv}
use Rattle.std.specs.Cmp.Lexicographic.{pointwise}
use Rattle.flame_graph.specs.declared.stack.FoldedStack.{FoldedStack}
use Rattle.flame_graph.specs.Stacks.{names, shared}
use Rattle.flame_graph.specs.Boxes.{run_of}

-- with no names nothing is shared
pub shared-nil : (xs : List (List ℕ)) → shared xs [] ≡ 0
shared-nil [] = refl
shared-nil (x ∷ xs) = refl

-- a depth below one more than a number
test_suc : (d s : ℕ) → nat_lt (suc d) (1 + s) ≡ nat_lt d s
test_suc d s = grind (arith, nat_tests)

test_zero : (s : ℕ) → nat_lt 0 (1 + s) ≡ true
test_zero s = grind (arith, nat_tests)

-- one more name, alike or not
one_more : (c : Bool) (d s t u : ℕ) → d < 1 + u → ((e : ℕ) → e < u → nat_lt e s ≡ nat_lt e t)
    → nat_lt d (cond c (1 + s) 0) ≡ nat_lt d (cond c (1 + t) 0)
one_more false d s t u h more = refl
one_more true zero s t u h more = rw (test_zero s, test_zero t) refl
one_more true (suc d) s t u h more = rw (test_suc d s, test_suc d t) (more d (omega arith))

first_name : (b : Bool) (x y z : List ℕ) (d s t u : ℕ) → pointwise nat_eq x y ≡ b → d < cond b (1 + u) 0
    → ((e : ℕ) → e < u → nat_lt e s ≡ nat_lt e t)
    → nat_lt d (cond (pointwise nat_eq x z) (1 + s) 0) ≡ nat_lt d (cond (pointwise nat_eq y z) (1 + t) 0)
first_name false x y z d s t u same h more = absurd (omega arith)
first_name true x y z d s t u same h more =
    rw (nat_list_eq_equiv.congr x y z same) (one_more (pointwise nat_eq y z) d s t u h more)

pub same_test : (xs ys zs : List (List ℕ)) (d : ℕ) → d < shared xs ys → nat_lt d (shared xs zs) ≡ nat_lt d (shared ys zs)
same_test [] ys zs d h = absurd (omega arith)
same_test (x ∷ xs) [] zs d h = absurd (omega arith)
same_test (x ∷ xs) (y ∷ ys) [] d h = refl
same_test (x ∷ xs) (y ∷ ys) (z ∷ zs) d h =
    first_name (pointwise nat_eq x y) x y z d (shared xs zs) (shared ys zs) (shared xs ys) refl h (same_test xs ys zs)

-- runs of two stacks that share the names
pub same_run : (d : ℕ) (xs ys : List (List ℕ)) (stacks : List FoldedStack) → d < shared xs ys → run_of d xs stacks ≡ run_of d ys stacks
same_run d xs ys [] h = refl
same_run d xs ys (stack ∷ rest) h =
    rw (same_test xs ys (names stack) d h, same_run d xs ys rest h) refl
