use Rattle.std.proofs.Common.{◌≡◌, List, [], map, ap, sym, ◌∙◌}
use Rattle.folded_stacks.specs.LineViews.{entry_seen}
use Rattle.folded_stacks.specs.Lines.{Line, all_counted, named, stack_text}
use Rattle.folded_stacks.specs.StackLists.{counted_seen}
use Rattle.folded_stacks.proofs.Texts.{texts-are-counted}
use Rattle.folded_stacks.proofs.counts.lines_of.Goals as goal

pub returns : goal.returns
returns c =
    let names = c.args.names.now in
    let samples = map counted_seen c.counts.inside.stacks.items in
    let same : map entry_seen c.in_ok-counted.counted.entries ≡ all_counted (map (named names) c.args.counts.now) [] =
    rw c.as_slice.ensures.value at c.in_ok-counted.ensures ∙ sym (texts-are-counted (stack_text names) samples)
    ∙ ap (λ (lines : List Line). all_counted (map (named names) lines) []) c.counts.view_is in
    rw same at c.lines_in.ensures
