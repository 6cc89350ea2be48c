use Rattle.std.proofs.Common.{List, [], ap, ◌∙◌, rules}
use Rattle.folded_stacks.specs.Lines.{counted}
use Rattle.folded_stacks.specs.StackLists.{lines_seen}
use Rattle.folded_stacks.specs.declared.stack_slots.CountedStack.{CountedStack}
use Rattle.folded_stacks.proofs.Kept.{more-behind}
use Rattle.folded_stacks.proofs.counts.add_new.Goals as goal

pub returns-clause-counted : goal.returns-clause-counted
returns-clause-counted c =
    let new : CountedStack = record { stack = c.in_ok-to_vec.field-0; hash = c.args.hash; count = c.args.samples } in
    ap (λ (all : List CountedStack). lines_seen all) c.in_ok-push.ensures.items
    ∙ more-behind c.args.stacks.now.items new []
    ∙ ap (λ stack. counted (record { stack = stack; count = c.args.samples }) (lines_seen c.args.stacks.now.items)) (search rules)
