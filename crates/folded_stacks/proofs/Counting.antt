-- The entries of a map as lines.
use Rattle.std.proofs.Common.{◌≡◌, ℕ, ◌+◌, ◌-◌, ◌^◌, ◌<◌, min, List, [], ◌∷◌, map, Bool, cond, Option, Some, None, Vec, refl, ap, ◌∙◌, unwrap_or, arith}
use Rattle.std.proofs.lemmas.Map.Text.{is_eq-slice_cmp}
use Rattle.std.specs.BTreeMap.{insert_entry, is_at}
use Rattle.std.specs.Cmp.Lexicographic.{slice_cmp}
use Rattle.std.specs.Global.{Global}
use Rattle.std.specs.Map.{lookup}
use Rattle.std.specs.Ordering.{match_ordering, nat_cmp}
use Rattle.std.specs.Prelude.{bytes_eq}
use Rattle.std.specs.declared.cmp.Ordering.{Ordering}
use Rattle.std.specs.declared.cmp.Ordering.TheVariants.{Less, Equal, Greater}
use Rattle.folded_stacks.specs.LineViews.{entry_seen}
use Rattle.folded_stacks.specs.Lines.{Line, count_of, counted, more_than, with_line}

-- what is found of a stack is its line's count
pub found : (stack : List ℕ) (es : List (Vec ℕ Global × ℕ)) → lookup (is_at (λ k. slice_cmp nat_cmp stack k.items)) es ≡ count_of stack (map entry_seen es)
found stack [] = refl
found stack (e ∷ es) =
    ap (λ (b : Bool). cond b (Some e.1) (lookup (is_at (λ k. slice_cmp nat_cmp stack k.items)) es)) (is_eq-slice_cmp stack e.0.items)
    ∙ ap (λ (o : Option ℕ). cond (bytes_eq stack e.0.items) (Some e.1) o) (found stack es)

-- a choice by an order, after a function
by_order : {X Y : Type 0} (f : X → Y) (o : Ordering) (a b c : X) → f (match_ordering o a b c) ≡ match_ordering o (f a) (f b) (f c)
by_order f Less a b c = refl
by_order f Equal a b c = refl
by_order f Greater a b c = refl

-- an entry is inserted where its line goes
pub inserted : (key : Vec ℕ Global) (count : ℕ) (es : List (Vec ℕ Global × ℕ))
    → map entry_seen (insert_entry (λ a b. slice_cmp nat_cmp a.items b.items) es key count) ≡ with_line (entry_seen (key, count)) (map entry_seen es)
inserted key count [] = refl
inserted key count (e ∷ es) =
    let o = slice_cmp nat_cmp key.items e.0.items in
    by_order (λ (xs : List (Vec ℕ Global × ℕ)). map entry_seen xs) o ((key, count) ∷ e ∷ es) ((e.0, count) ∷ es)
    (e ∷ insert_entry (λ a b. slice_cmp nat_cmp a.items b.items) es key count)
    ∙ ap (λ (xs : List Line). match_ordering o (entry_seen (key, count) ∷ map entry_seen (e ∷ es)) (entry_seen (e.0, count) ∷ map entry_seen es) (entry_seen e ∷ xs)) (inserted key count es)

-- samples more of a stack, whose count is inserted in a map
counting : (stack : List ℕ) (key : Vec ℕ Global) (samples : ℕ) (old new : List (Vec ℕ Global × ℕ)) (known : Option ℕ) (count : ℕ) → key.items ≡ stack
    → known ≡ lookup (is_at (λ k. slice_cmp nat_cmp stack k.items)) old → count ≡ more_than known samples
    → new ≡ insert_entry (λ a b. slice_cmp nat_cmp a.items b.items) old key count
    → map entry_seen new ≡ counted (record { stack = stack; count = samples }) (map entry_seen old)
counting stack key samples old new known count same is-known is-count is-new =
    let lines = map entry_seen old in
    ap (λ (es : List (Vec ℕ Global × ℕ)). map entry_seen es) is-new ∙ inserted key count old
    ∙ ap (λ (s : List ℕ). with_line (record { stack = s; count = count }) lines) same
    ∙ ap (λ (n : ℕ). with_line (record { stack = stack; count = n }) lines) (is-count ∙ ap (λ (o : Option ℕ). more_than o samples) (is-known ∙ found stack old))

-- a count with samples more, where a stack without samples has the count 0
total : (known : Option ℕ) (samples : ℕ) → samples < 2 ^ 64 → min (unwrap_or known 0 + samples) (2 ^ 64 - 1) ≡ more_than known samples
total None samples fits = omega arith
total (Some count) samples fits = refl

-- samples more of a stack, whose count is written where the map has it
pub counting-in-place : (stack : List ℕ) (key : Vec ℕ Global) (samples : ℕ) (old new : List (Vec ℕ Global × ℕ)) (known : Option ℕ) (count : ℕ)
    → key.items ≡ stack → known ≡ lookup (is_at (λ k. slice_cmp nat_cmp key.items k.items)) old → samples < 2 ^ 64
    → count ≡ min (unwrap_or known 0 + samples) (2 ^ 64 - 1) → new ≡ insert_entry (λ a b. slice_cmp nat_cmp a.items b.items) old key count
    → map entry_seen new ≡ counted (record { stack = stack; count = samples }) (map entry_seen old)
counting-in-place stack key samples old new known count same is-known fits is-count is-new =
    counting stack key samples old new known count same
    (is-known ∙ ap (λ (s : List ℕ). lookup (is_at (λ k. slice_cmp nat_cmp s k.items)) old) same) (is-count ∙ total known samples fits) is-new
