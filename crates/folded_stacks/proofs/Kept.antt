-- A list of counted stacks, after samples more of a stack that is in it, or of another.
use Rattle.std.proofs.Common.{◌≡◌, ℕ, zero, suc, ◌+◌, ◌-◌, ◌^◌, ◌<◌, min, List, [], ◌∷◌, ◌++◌, length, map, get_or, set, Option, refl, sym, ap, ◌∙◌, arith}
use Rattle.std.specs.Cmp.Lexicographic.{slice_cmp}
use Rattle.std.specs.List.Sorted.{IsStrictlySortedBy}
use Rattle.std.specs.Ordering.{nat_cmp}
use Rattle.std.specs.Prelude.{bytes_eq}
use Rattle.folded_stacks.specs.Lines.{Line, all_counted, count_of, counted, more_than}
use Rattle.folded_stacks.specs.StackLists.{counted_seen}
use Rattle.folded_stacks.specs.declared.stack_slots.CountedStack.{CountedStack}
use Rattle.folded_stacks.proofs.Order.{all-kept, kept, stacks}
use Rattle.folded_stacks.proofs.Texts.{added, is-tally, later, merged-by, one-more, same, tally}

abbrev IsInOrder : List Line → Type 0
IsInOrder lines = IsStrictlySortedBy (slice_cmp nat_cmp) (stacks lines)

-- lines in order stay so with a sample
kept-counted : (more : Line) (lines : List Line) → IsInOrder lines → IsInOrder (counted more lines)
kept-counted more lines up = kept (record { stack = more.stack; count = more_than (count_of more.stack lines) more.count }) lines up

-- a sample may be counted before others or behind them
behind-all : (samples : List Line) (more : Line) (lines : List Line) → IsInOrder lines
    → all_counted samples (counted more lines) ≡ counted more (all_counted samples lines)
behind-all samples more lines up =
    same (all_counted samples (counted more lines)) (counted more (all_counted samples lines))
    (all-kept samples (counted more lines) (kept-counted more lines up)) (kept-counted more (all_counted samples lines) (all-kept samples lines up))
    (λ t. is-tally t samples (counted more lines) ∙ ap (λ (o : Option ℕ). tally t samples o) (one-more t more lines)
    ∙ later t samples more (count_of t lines) ∙ ap (λ (o : Option ℕ). added t more o) (sym (is-tally t samples lines))
    ∙ sym (one-more t more (all_counted samples lines)))

-- samples of a stack may be counted together
together : (stack : List ℕ) (count samples : ℕ) (lines : List Line) → IsInOrder lines
    → counted (record { stack = stack; count = min (count + samples) (2 ^ 64 - 1) }) lines
    ≡ counted (record { stack = stack; count = samples }) (counted (record { stack = stack; count = count }) lines)
together stack count samples lines up =
    let one : Line = record { stack = stack; count = count } in
    let more : Line = record { stack = stack; count = samples } in
    let both : Line = record { stack = stack; count = min (count + samples) (2 ^ 64 - 1) } in
    same (counted both lines) (counted more (counted one lines)) (kept-counted both lines up) (kept-counted more (counted one lines) (kept-counted one lines up))
    (λ t. one-more t both lines ∙ merged-by (bytes_eq t stack) count samples (count_of t lines)
    ∙ ap (λ (o : Option ℕ). added t more o) (sym (one-more t one lines)) ∙ sym (one-more t more (counted one lines)))

-- samples more of a stack that is in a list
pub more-at : (all : List CountedStack) (i : ℕ) (d found : CountedStack) (samples : ℕ) (lines : List Line) → i < length all → get_or all i d ≡ found
    → IsInOrder lines
    → all_counted (map counted_seen (set all i (record { stack = found.stack; hash = found.hash; count = min (found.count + samples) (2 ^ 64 - 1) }))) lines
    ≡ counted (record { stack = found.stack.items; count = samples }) (all_counted (map counted_seen all) lines)
more-at [] i d found samples lines within is up = absurd (omega arith)
more-at (x ∷ xs) zero d found samples lines within is up =
    let put : Line = record { stack = found.stack.items; count = min (found.count + samples) (2 ^ 64 - 1) } in
    let more : Line = record { stack = found.stack.items; count = samples } in
    ap (λ (ls : List Line). all_counted (map counted_seen xs) ls) (together found.stack.items found.count samples lines up)
    ∙ ap (λ (y : CountedStack). all_counted (map counted_seen xs) (counted more (counted (counted_seen y) lines))) (sym is)
    ∙ behind-all (map counted_seen xs) more (counted (counted_seen x) lines) (kept-counted (counted_seen x) lines up)
more-at (x ∷ xs) (suc i) d found samples lines within is up =
    more-at xs i d found samples (counted (counted_seen x) lines) (omega arith) is (kept-counted (counted_seen x) lines up)

-- samples of another stack
pub more-behind : (all : List CountedStack) (new : CountedStack) (lines : List Line)
    → all_counted (map counted_seen (all ++ new ∷ [])) lines ≡ counted (counted_seen new) (all_counted (map counted_seen all) lines)
more-behind [] new lines = refl
more-behind (x ∷ xs) new lines = more-behind xs new (counted (counted_seen x) lines)
