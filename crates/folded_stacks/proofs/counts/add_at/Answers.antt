use Rattle.std.proofs.Common.{◌≡◌, ℕ, ◌+◌, ◌-◌, ◌^◌, ◌<◌, ◌≤◌, min, List, [], length, get_or, slice_set, option_map, Some, None, sym, ap, ◌∙◌, arith}
use Rattle.std.proofs.lemmas.Option.{slice_get-get_or, slice_get_past}
use Rattle.folded_stacks.specs.Lines.{counted}
use Rattle.folded_stacks.specs.StackLists.{lines_seen}
use Rattle.folded_stacks.specs.declared.stack_slots.CountedStack.{CountedStack}
use Rattle.folded_stacks.proofs.Kept.{more-at}
use Rattle.folded_stacks.proofs.Order.{none}
use Rattle.folded_stacks.proofs.counts.add_at.Goals as goal

-- what is read at a place of a list is the same for each default
one-element : (all : List CountedStack) (i : ℕ) (d e : CountedStack) → i < length all → get_or all i d ≡ get_or all i e
one-element all i d e within =
    let both : Some (get_or all i d) ≡ Some (get_or all i e) = sym (slice_get-get_or all i d within) ∙ slice_get-get_or all i e within in cc

pub returns-then-place-len : goal.returns-then-place-len
returns-then-place-len c =
    let items = c.args.stacks.now.items in
    let found = c.index_mut.result.now in
    let read = c.index.result.now in
    let within : c.args.place < length items = omega arith in
    let is : get_or items c.args.place found ≡ found = sym c.index_mut.ensures.value in
    let same : read ≡ found = c.index.ensures ∙ one-element items c.args.place read found within ∙ is in
    let count : c.saturating_add.result ≡ min (found.count + c.args.samples) (2 ^ 64 - 1) =
    c.saturating_add.ensures ∙ ap (λ (x : CountedStack). min (x.count + c.args.samples) (2 ^ 64 - 1)) same in
    let there : option_map (λ (x : CountedStack). x.stack.items) (Some (get_or items c.args.place found)) ≡ Some c.args.stack.now =
    rw (slice_get-get_or items c.args.place found within) at c.requires in
    let stack : found.stack.items ≡ c.args.stack.now = ap (λ (x : CountedStack). x.stack.items) (sym is) ∙ cc in
    ap (λ (n : ℕ). lines_seen (slice_set items c.args.place (record { stack = found.stack; hash = found.hash; count = n }))) count
    ∙ more-at items c.args.place found found c.args.samples [] within is none
    ∙ ap (λ (s : List ℕ). counted (record { stack = s; count = c.args.samples }) (lines_seen items)) stack

pub returns-else-place-len : goal.returns-else-place-len
returns-else-place-len c =
    let items = c.args.stacks.now.items in
    let past : length items ≤ c.args.place = omega arith in
    let no : None ≡ Some c.args.stack.now = rw (slice_get_past items c.args.place past) at c.requires in
    absurd (let never : ⊥ = cc in never)
