-- Lists in which one item is to be written over: how the place of that item moves while others are moved by one.
use Rattle.std.proofs.Common.{◌≡◌, ℕ, zero, suc, ◌<◌, List, [], ◌∷◌, ◌++◌, length, take, get_or, slice_set, refl, ap, subst, arith}
use Rattle.std.specs.List.{insert, remove}

-- a list has the items of another, and one more at this index
abbrev pub HasGap : {X : Type 0} → ℕ → List X → List X → Type 0
HasGap at [] others = ⊥
HasGap zero (x ∷ items) others = items ≡ others
HasGap (suc at) (x ∷ items) [] = ⊥
HasGap (suc at) (x ∷ items) (y ∷ others) = (x ≡ y) × HasGap at items others

-- behind all others
pub gap-push : {X : Type 0} (xs : List X) (y : X) → HasGap (length xs) (xs ++ y ∷ []) xs
gap-push [] y = refl
gap-push (x ∷ xs) y = (refl, gap-push xs y)

-- the item before it is moved up
pub gap-down : {X : Type 0} (at : ℕ) (items others : List X) (d : X) → HasGap (suc at) items others → HasGap at (slice_set items (suc at) (get_or items at d)) others
gap-down at [] others d gap = absurd gap
gap-down at (x ∷ items) [] d gap = absurd gap
gap-down zero (x ∷ []) (y ∷ others) d gap = absurd gap.1
gap-down zero (x ∷ i ∷ items) (y ∷ others) d gap = λ k. gap.0 k ∷ gap.1 k
gap-down (suc at) (x ∷ items) (y ∷ others) d gap = (gap.0, gap-down at items others d gap.1)

-- the item behind it is moved down
pub gap-up : {X : Type 0} (at : ℕ) (items others : List X) (d : X) → suc at < length items → HasGap at items others → HasGap (suc at) (slice_set items at (get_or items (suc at) d)) others
gap-up at [] others d within gap = absurd gap
gap-up zero (x ∷ []) others d within gap = absurd (omega arith)
gap-up {X} zero (x ∷ i ∷ items) others d within gap = subst (λ (zs : List X). HasGap 1 (i ∷ i ∷ items) zs) gap (refl, refl)
gap-up (suc at) (x ∷ items) [] d within gap = absurd gap
gap-up (suc at) (x ∷ items) (y ∷ others) d within gap = (gap.0, gap-up at items others d (omega arith) gap.1)

-- an item is written there
pub gap-filled : {X : Type 0} (at : ℕ) (items others : List X) (z : X) → HasGap at items others → slice_set items at z ≡ insert others at z
gap-filled at [] others z gap = absurd gap
gap-filled zero (x ∷ items) others z gap = ap (λ l. z ∷ l) gap
gap-filled (suc at) (x ∷ items) [] z gap = absurd gap
gap-filled (suc at) (x ∷ items) (y ∷ others) z gap = λ k. gap.0 k ∷ gap-filled at items others z gap.1 k

-- an item that goes
pub gap-removed : {X : Type 0} (at : ℕ) (items : List X) → at < length items → HasGap at items (remove items at)
gap-removed at [] within = absurd (omega arith)
gap-removed zero (x ∷ items) within = refl
gap-removed (suc at) (x ∷ items) within = (refl, gap-removed at items (omega arith))

-- the last item is taken away
pub gap-popped : {X : Type 0} (at : ℕ) (items others : List X) → length items ≡ suc at → HasGap at items others → take at items ≡ others
gap-popped at [] others len gap = absurd gap
gap-popped zero (x ∷ []) others len gap = gap
gap-popped zero (x ∷ i ∷ items) others len gap = absurd (omega arith)
gap-popped (suc at) (x ∷ items) [] len gap = absurd gap
gap-popped (suc at) (x ∷ items) (y ∷ others) len gap = λ k. gap.0 k ∷ gap-popped at items others (omega arith) gap.1 k

pub gap-within : {X : Type 0} (at : ℕ) (items others : List X) → HasGap at items others → at < length items
gap-within at [] others gap = absurd gap
gap-within zero (x ∷ items) others gap = omega arith
gap-within (suc at) (x ∷ items) [] gap = absurd gap
gap-within (suc at) (x ∷ items) (y ∷ others) gap = let within = gap-within at items others gap.1 in omega arith
