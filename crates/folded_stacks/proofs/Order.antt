-- The order of lines.
use Rattle.std.proofs.Common.{◌≡◌, ℕ, List, [], ◌∷◌, map, refl, ap, ◌∙◌}
use Rattle.std.proofs.lemmas.Cmp.{nat_list_cmp_total}
use Rattle.std.specs.Cmp.Lexicographic.{slice_cmp}
use Rattle.std.specs.List.{AllByRecursion}
use Rattle.std.specs.List.Sorted.{IsStrictlySortedBy}
use Rattle.std.specs.Ordering.{match_ordering, nat_cmp, ordering_reverse}
use Rattle.std.specs.declared.cmp.Ordering.{Ordering}
use Rattle.std.specs.declared.cmp.Ordering.TheVariants.{Less, Equal, Greater}
use Rattle.folded_stacks.specs.CountLaws.{LinesAreInOrder}
use Rattle.folded_stacks.specs.Lines.{Line, all_counted, count_of, counted, more_than, with_line}

abbrev pub stacks : List Line → List (List ℕ)
stacks lines = map (λ line. line.stack) lines

abbrev ends : Ordering → Line → Line → List Line → List Line
ends o line other others =
    match_ordering o (line ∷ other ∷ others) (record { stack = other.stack; count = line.count } ∷ others) (other ∷ with_line line others)

all-by : (P : List ℕ → Type 0) (line other : Line) (others : List Line) (o : Ordering) → P line.stack → AllByRecursion P (stacks (other ∷ others))
    → AllByRecursion P (stacks (with_line line others)) → AllByRecursion P (stacks (ends o line other others))
all-by P line other others Less one all further = (one, all)
all-by P line other others Equal one all further = all
all-by P line other others Greater one all further = (all.0, further)

-- what a stack and those of lines have, those of the lines with its line have
all-with : (P : List ℕ → Type 0) (line : Line) (lines : List Line) → P line.stack → AllByRecursion P (stacks lines)
    → AllByRecursion P (stacks (with_line line lines))
all-with P line [] one all = (one, tt)
all-with P line (other ∷ others) one all =
    all-by P line other others (slice_cmp nat_cmp line.stack other.stack) one all (all-with P line others one all.1)

-- what is behind a stack is behind one before it
pub behind : (x y : List ℕ) (zs : List (List ℕ)) → slice_cmp nat_cmp x y ≡ Less → AllByRecursion (λ z. slice_cmp nat_cmp y z ≡ Less) zs
    → AllByRecursion (λ z. slice_cmp nat_cmp x z ≡ Less) zs
behind x y [] less all = tt
behind x y (z ∷ zs) less all = (nat_list_cmp_total.trans x y z less all.0, behind x y zs less all.1)

kept-by : (line other : Line) (others : List Line) (o : Ordering) → slice_cmp nat_cmp line.stack other.stack ≡ o
    → IsStrictlySortedBy (slice_cmp nat_cmp) (stacks (other ∷ others)) → IsStrictlySortedBy (slice_cmp nat_cmp) (stacks (with_line line others))
    → IsStrictlySortedBy (slice_cmp nat_cmp) (stacks (ends o line other others))
unfolding IsStrictlySortedBy
kept-by line other others Less is up further = ((is, behind line.stack other.stack (stacks others) is up.0), up)
kept-by line other others Equal is up further = up
kept-by line other others Greater is up further =
    let less : slice_cmp nat_cmp other.stack line.stack ≡ Less = nat_list_cmp_total.antisymm other.stack line.stack ∙ ap ordering_reverse is in
    (all-with (λ y. slice_cmp nat_cmp other.stack y ≡ Less) line others less up.0, further)

-- lines in order stay so with another
pub kept : (line : Line) (lines : List Line) → IsStrictlySortedBy (slice_cmp nat_cmp) (stacks lines) → IsStrictlySortedBy (slice_cmp nat_cmp) (stacks (with_line line lines))
unfolding IsStrictlySortedBy
kept line [] up = (tt, tt)
kept line (other ∷ others) up = kept-by line other others (slice_cmp nat_cmp line.stack other.stack) refl up (kept line others up.1)

pub all-kept : (samples lines : List Line) → IsStrictlySortedBy (slice_cmp nat_cmp) (stacks lines) → IsStrictlySortedBy (slice_cmp nat_cmp) (stacks (all_counted samples lines))
all-kept [] lines up = up
all-kept (sample ∷ samples) lines up =
    all-kept samples (counted sample lines) (kept (record { stack = sample.stack; count = more_than (count_of sample.stack lines) sample.count }) lines up)

pub none : IsStrictlySortedBy (slice_cmp nat_cmp) (stacks [])
unfolding IsStrictlySortedBy
none = tt

pub lines-are-in-order : LinesAreInOrder
lines-are-in-order samples = all-kept samples [] none
