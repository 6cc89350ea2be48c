-- Names that are lent.
use Rattle.std.proofs.Common.{◌≡◌, ℕ, ◌+◌, Bool, true, false, cond, not, List, [], ◌∷◌, nat_eq, refl, ap, Bor}
use Rattle.std.specs.Cmp.Lexicographic.{pointwise}
use Rattle.std.specs.List.{common_prefix_len}
use Rattle.flame_graph.specs.Stacks.{shared, texts}

-- whether two names are the same
abbrev pub same_now : Bor (List ℕ) → Bor (List ℕ) → Bool
same_now left right = pointwise nat_eq left.now right.now

pub shared-texts : (left right : List (Bor (List ℕ))) → shared (texts left) (texts right) ≡ common_prefix_len same_now left right
shared-texts [] right = refl
shared-texts (x ∷ left) [] = refl
shared-texts (x ∷ left) (y ∷ right) = ap (λ (n : ℕ). cond (same_now x y) (1 + n) 0) (shared-texts left right)

pub not_true : (b : Bool) → true ≡ not b → b ≡ false
not_true false e = refl
not_true true e = cc

pub not_false : (b : Bool) → false ≡ not b → b ≡ true
not_false false e = cc
not_false true e = refl
