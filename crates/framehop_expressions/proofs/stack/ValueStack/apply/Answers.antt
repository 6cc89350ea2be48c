use Rattle.std.proofs.Common.{sym, subst}
use Rattle.dwarf_expressions.specs.Effects.{Stack, of_top, of_two, with_top, with_two}
use Rattle.framehop_expressions.specs.StackViews.{Becomes}
use Rattle.framehop_expressions.proofs.Stacks.{leaves_becomes, top_changes, two_change}
use Rattle.framehop_expressions.proofs.stack.ValueStack.apply.Goals as goal

pub returns-in-Abs : goal.returns-in-Abs
returns-in-Abs c =
    let s = c.args.self.now in
    let is = top_changes s c.args.operation c.in-Abs.is in
    let P : Stack → Type 0 = λ expected. Becomes expected c.change_top.result c.change_top.new.self in
    subst P (sym is)
    (leaves_becomes c.self.inside.items.items s (with_top 8 (of_top 8 c.args.operation) s) c.change_top.result c.change_top.new.self c.self.invariant c.self.view_is
    c.change_top.ensures.shorter c.change_top.ensures.leaves)

pub returns-in-And : goal.returns-in-And
returns-in-And c =
    let s = c.args.self.now in
    let is = two_change s c.args.operation c.in-And.is in
    let P : Stack → Type 0 = λ expected. Becomes expected c.change_two.result c.change_two.new.self in
    subst P (sym is)
    (leaves_becomes c.self.inside.items.items s (with_two 8 (of_two 8 c.args.operation) s) c.change_two.result c.change_two.new.self c.self.invariant c.self.view_is
    c.change_two.ensures.shorter c.change_two.ensures.leaves)
